-- What a document without a fault stands for.
use Rattle.std.specs.Prelude.{◌≡◌, [], IsTrue}
use Rattle.pws_tree.specs.Lawful.{is_lawful}
use Rattle.pws_mark.specs.Documents.{Document}
use Rattle.pws_mark.specs.Faults.{faults}
use Rattle.pws_mark.specs.Grammar.{is_document}
use Rattle.pws_mark.specs.Meaning.{meaning}

-- a document of the grammar that has no faults stands for a lawful tree
abbrev pub MeaningsAreLawful : Type 0
MeaningsAreLawful = (d : Document) → IsTrue (is_document d) → faults d ≡ [] → IsTrue (is_lawful (meaning d))
