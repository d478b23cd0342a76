use Rattle.std.proofs.Common.{◌≡◌, drop}
use Rattle.std.specs.List.{list_all}
use Rattle.pws_tree.specs.Lawful.{is_lawful}
use Rattle.pws_soap.proofs.envelopes.note_lawful.Given as goal

abbrev pub invariant-loop-element : goal.invariant-loop-element
invariant-loop-element l = list_all is_lawful l.elements ≡ list_all is_lawful (drop l.element-index l.elements)
