use Rattle.std.proofs.Common.{◌∙◌, ap, ℕ, List}
use Rattle.std.specs.Prelude.{slice_index}
use Rattle.pws_base.specs.Shapes.{size_of_group}
use Rattle.pws_evidence.proofs.Stored.{none_there}
use Rattle.pws_evidence.proofs.stores.Evidence.size_of.Goals as goal

pub returns-in-None-clause-value : goal.returns-in-None-clause-value
returns-in-None-clause-value c =
    ap size_of_group (none_there c.layout.result c.args.group c.in-None.ensures.value ∙ ap (λ (l : List ℕ). slice_index l c.args.group) c.layout.ensures.value)
