use Rattle.std.proofs.Common.{◌∙◌, ap, ℕ, List}
use Rattle.std.specs.Prelude.{slice_index}
use Rattle.pws_base.specs.Shapes.{quorum_of}
use Rattle.pws_evidence.proofs.Stored.{none_there}
use Rattle.pws_evidence.proofs.stores.Evidence.quorum.Goals as goal

pub returns-in-None-clause-value : goal.returns-in-None-clause-value
returns-in-None-clause-value c =
    ap quorum_of (none_there c.layout.result c.group.result c.in-None.ensures.value ∙ (ap (λ (l : List ℕ). slice_index l c.group.result) c.layout.ensures.value ∙ ap (slice_index c.args.self.now.layout) c.group.ensures.value))
