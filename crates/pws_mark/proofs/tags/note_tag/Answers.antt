use Rattle.std.proofs.Common.{ap, ◌∙◌, []}
use Rattle.pws_mark.specs.Least.{lowered}
use Rattle.pws_mark.specs.Seen.{finds_behind}
use Rattle.pws_mark.proofs.SeenNames.{tag_noted}
use Rattle.pws_mark.proofs.tags.note_tag.Goals as goal

pub returns : goal.returns
returns c =
    tag_noted c.args.inside.now c.args.tag.now c.args.least.now c.note_name.new.least c.note_attributes.new.least c.note_name.ensures
    (c.in_ok-note_attributes.ensures ∙ ap (λ a. lowered c.note_name.new.least (finds_behind c.args.inside.now [] a)) c.as_slice-attributes.ensures)
