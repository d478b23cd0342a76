use Rattle.std.proofs.Common.{◌∙◌, sym, ap}
use Rattle.std.specs.Str.{bytes_eq}
use Rattle.pws_tree.specs.Names.{envelope_space}
use Rattle.pws_soap.specs.Names.{envelope_word}
use Rattle.pws_soap.proofs.Read.{other_name, other_space, answers_on}
use Rattle.pws_soap.proofs.opening.envelope_of.Goals as goal

pub returns-then-not-is_envelope_word : goal.returns-then-not-is_envelope_word
returns-then-not-is_envelope_word c = other_name c.args.root (ap (λ z. bytes_eq z.local envelope_word) (sym c.name.ensures) ∙ (sym c.is_envelope_word.ensures ∙ c.if-not-is_envelope_word.true))

pub returns-then-not-is_envelope_space : goal.returns-then-not-is_envelope_space
returns-then-not-is_envelope_space c =
    other_space c.args.root (ap (λ z. bytes_eq z.local envelope_word) (sym c.name.ensures) ∙ (sym c.is_envelope_word.ensures ∙ c.if-not-is_envelope_word.false))
    (ap (λ z. bytes_eq z.space envelope_space) (sym c.name-2.ensures) ∙ (sym c.is_envelope_space.ensures ∙ c.if-not-is_envelope_space.true))

pub returns : goal.returns
returns c =
    answers_on c.args.root c.judged.result (ap (λ z. bytes_eq z.local envelope_word) (sym c.name.ensures) ∙ (sym c.is_envelope_word.ensures ∙ c.if-not-is_envelope_word.false))
    (ap (λ z. bytes_eq z.space envelope_space) (sym c.name-2.ensures) ∙ (sym c.is_envelope_space.ensures ∙ c.if-not-is_envelope_space.false))
    c.judged.ensures
