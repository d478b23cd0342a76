use Rattle.std.proofs.Common.{◌≡◌, true, sym, subst, ◌∙◌}
use Rattle.pws_script.specs.Texts.{is_name}
use Rattle.pws_script.proofs.TextLemmas.{named}
use Rattle.pws_script.proofs.reading.read_name.Goals as goal

pub new-requires : goal.new-requires
new-requires c =
    let same : c.in_ok-from_slice.field-0 ≡ c.args.word.now = c.in_ok-from_slice.ensures ∙ c.as_bytes-bytes.ensures.value in
    subst (λ w. is_name w ≡ true) (sym same) (named c.args.word.now c.utf8.word c.requires.word c.requires.some)
