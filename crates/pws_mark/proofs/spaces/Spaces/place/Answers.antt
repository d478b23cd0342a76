use Rattle.std.proofs.Common.{ap, ◌∙◌, position}
use Rattle.std.specs.Str.{bytes_eq}
use Rattle.pws_mark.proofs.Keys.{place_of}
use Rattle.pws_mark.proofs.spaces.Spaces.place.Goals as goal

pub returns : goal.returns
returns c = c.get_index_of.ensures.index ∙ (place_of c.args.space.now c.self.inside.used.keys ∙ ap (position (bytes_eq c.args.space.now)) c.self.view_is)
