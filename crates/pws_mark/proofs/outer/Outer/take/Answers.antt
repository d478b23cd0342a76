use Rattle.std.proofs.Common.{◌∙◌, ap, sym}
use Rattle.std.specs.String.{string_bytes}
use Rattle.pws_mark.specs.Meaning.{char_text}
use Rattle.pws_mark.specs.States.{taken}
use Rattle.pws_mark.proofs.Outers.{taken_word, taken_plain, taken_outside, plain_text, no_text}
use Rattle.pws_mark.proofs.outer.Outer.take.Goals as goal

pub returns-then-is_word : goal.returns-then-is_word
unfolding taken
returns-then-is_word c =
    taken_word c.self.inside.opens c.keep.new.self c.self.inside.behind c.self.inside.events (string_bytes c.self.inside.text) c.args.at c.args.c (char_text c.args.text) (sym c.if-is_word.ensures) c.in_ok-keep.ensures
    ∙ ap (λ o. taken o c.args.at c.args.c (char_text c.args.text)) c.self.view_is

pub returns-then-is_empty : goal.returns-then-is_empty
unfolding taken
returns-then-is_empty c =
    sym c.self.view_is
    ∙ (taken_outside c.self.inside.opens c.self.inside.behind c.self.inside.events (string_bytes c.self.inside.text) c.args.at c.args.c (char_text c.args.text) (sym c.if-is_empty.ensures)
    ∙ ap (λ o. taken o c.args.at c.args.c (char_text c.args.text)) c.self.view_is)

pub returns-in_ok-push : goal.returns-in_ok-push
unfolding taken
returns-in_ok-push c =
    taken_plain c.self.inside.opens c.self.inside.behind c.self.inside.events (string_bytes c.self.inside.text) (string_bytes c.push.new.self) c.args.at c.args.c (char_text c.args.text) (sym c.if-is_word.ensures) (sym c.if-is_empty.ensures) (plain_text c.args.text c.in-Some.c (string_bytes c.self.inside.text) (string_bytes c.push.new.self) c.in-Some.is c.in_ok-push.ensures.bytes)
    ∙ ap (λ o. taken o c.args.at c.args.c (char_text c.args.text)) c.self.view_is

pub returns-in_default : goal.returns-in_default
unfolding taken
returns-in_default c =
    sym c.self.view_is
    ∙ (taken_plain c.self.inside.opens c.self.inside.behind c.self.inside.events (string_bytes c.self.inside.text) (string_bytes c.self.inside.text) c.args.at c.args.c (char_text c.args.text) (sym c.if-is_word.ensures) (sym c.if-is_empty.ensures) (no_text c.args.text (string_bytes c.self.inside.text) c.in_default.is)
    ∙ ap (λ o. taken o c.args.at c.args.c (char_text c.args.text)) c.self.view_is)
