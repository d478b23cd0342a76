-- What the readers mean, in the words of the texts that they read; this project's own rule.
use Rattle.std.specs.Prelude.{◌≡◌, ◌↔◌, ℕ, List, Some}
use Rattle.pws_event.specs.Requests.{RequestFields}
use Rattle.pws_sched.specs.FirstForm.{first_form}
use Rattle.pws_sched.specs.Spelled.{IsFirstForm}

-- a text says these requests exactly where it is the schedule of the first form that spells them
abbrev pub FirstFormIsSpelled : Type 0
FirstFormIsSpelled = (text : List ℕ) (requests : List RequestFields) → (first_form text ≡ Some requests) ↔ IsFirstForm text requests
