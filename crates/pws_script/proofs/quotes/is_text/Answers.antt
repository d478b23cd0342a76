use Rattle.std.proofs.Common.{◌≡◌, true, false, sym, ◌∙◌, refl}
use Rattle.std.specs.List.{list_all}
use Rattle.std.specs.Str.{chars}
use Rattle.pws_script.specs.Texts.{is_character}
use Rattle.pws_script.proofs.TextLemmas.{is_text_utf8}
use Rattle.pws_script.proofs.quotes.is_text.Goals as goal

pub returns-then-has_characters_only : goal.returns-then-has_characters_only
returns-then-has_characters_only c =
    let test : list_all is_character (chars c.args.text.now) ≡ true = sym c.has_characters_only.ensures ∙ c.if-has_characters_only.true in
    is_text_utf8 c.args.text.now _ c.utf8.text (rw test refl)

pub returns-else-has_characters_only : goal.returns-else-has_characters_only
returns-else-has_characters_only c =
    let test : list_all is_character (chars c.args.text.now) ≡ false = sym c.has_characters_only.ensures ∙ c.if-has_characters_only.false in
    is_text_utf8 c.args.text.now _ c.utf8.text (rw test c.if-has_characters_only.false)
