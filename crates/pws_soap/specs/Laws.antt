-- Writing and reading give an envelope back, no two envelopes or faults are written as one tree, and those trees are lawful.
use Rattle.std.specs.Prelude.{◌≡◌, ◌↔◌, ◌&&◌, if◌then◌else◌, Some, None, Ok, IsTrue}
use Rattle.std.specs.List.{list_all}
use Rattle.pws_tree.specs.Lawful.{is_lawful}
use Rattle.pws_tree.specs.Trees.{Tree}
use Rattle.pws_soap.specs.Blocks.{is_well_marked}
use Rattle.pws_soap.specs.Envelopes.{Enveloped, root_of, envelope_of, understood}
use Rattle.pws_soap.specs.Faults.{Faulted, is_lawful_fault, fault_tree}
use Rattle.pws_soap.specs.Made.{has_few_levels, is_lawful_body}

-- the root of an envelope is read as that envelope, where its header blocks are marked with truth values and understood
abbrev pub RootsAreRead : Type 0
RootsAreRead = (e : Enveloped) → envelope_of (root_of e) ≡ understood (if list_all is_well_marked e.headers then Some e else None)

-- what was read is read again
abbrev pub EnvelopesReadBack : Type 0
EnvelopesReadBack = (t : Tree) (e : Enveloped) → envelope_of t ≡ Ok e → envelope_of (root_of e) ≡ Ok e

-- two envelopes have one root exactly where they are the same
abbrev pub RootsTellApart : Type 0
RootsTellApart = (d e : Enveloped) → (root_of d ≡ root_of e) ↔ (d ≡ e)

-- and two faults have one tree exactly where they are the same
abbrev pub FaultsTellApart : Type 0
FaultsTellApart = (f g : Faulted) → (fault_tree f ≡ fault_tree g) ↔ (f ≡ g)

-- lawful header blocks of few levels and a lawful body make a root that is lawful
abbrev pub RootsAreLawful : Type 0
RootsAreLawful =
    (e : Enveloped) → IsTrue (list_all is_lawful e.headers) → IsTrue (list_all has_few_levels e.headers) → IsTrue (is_lawful_body e.body)
    → IsTrue (is_lawful (root_of e))

-- and the tree of a lawful fault is lawful, and has few levels
abbrev pub FaultsAreLawful : Type 0
FaultsAreLawful = (f : Faulted) → IsTrue (is_lawful_fault f) → IsTrue (is_lawful (fault_tree f) && has_few_levels (fault_tree f))
