-- What follows from the definitions alone.
use Rattle.std.specs.Prelude.{IsTrue}
use Rattle.std.specs.List.{list_all}
use Rattle.pws_event.specs.Counters.{Counters}
use Rattle.pws_protocol.specs.Evidence.{Evidence}
use Rattle.pws_protocol.specs.Candidates.{is_due, candidates}
use Rattle.pws_protocol.specs.Fits.{FitsEvidence}

-- each candidate is supported, and would take effect
abbrev pub CandidatesAreDue : Type 0
CandidatesAreDue = (e : Evidence) (asked : Counters) → FitsEvidence e → IsTrue (list_all (is_due e asked) (candidates e asked))
