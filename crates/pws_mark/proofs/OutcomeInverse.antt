-- What was read before the first marks.
use Rattle.std.proofs.Common.{◌≡◌, ℕ, ◌≤◌, Bool, true, false, List, [], ◌∷◌, ◌++◌, take, Some}
use Rattle.std.specs.Prelude.{codes}
use Rattle.pws_mark.specs.ReaderLaws.{is_early_in}
use Rattle.pws_mark.specs.Scan.{run, start}
use Rattle.pws_mark.specs.States.{Outer, State}
use Rattle.pws_mark.specs.declared.modes.Declaring.TheVariants as declaring
use Rattle.pws_mark.specs.declared.modes.Mode.{Mode}
use Rattle.pws_mark.specs.declared.modes.Mode.TheVariants as mode
use Rattle.pws_mark.proofs.OutcomeQuestions.{is_start, IsHead}

-- these characters stand behind others that the reader took, where a mark may begin
pub record IsBehind (mark front : List ℕ) (o : Outer) (starts : Bool) : Type 0 where
  pub xs : List ℕ
  pub before : State
  pub front_is : front ≡ xs ++ mark
  pub there : run start xs ≡ Some before
  pub early : is_early_in before.mode ≡ true
  pub outer_is : o ≡ before.outer
  pub starts_is : is_start before.mode ≡ starts
  pub head : starts ≡ true → IsHead xs

pub record IsInWord (front : List ℕ) (n : ℕ) : Type 0 where
  pub xs : List ℕ
  pub head : IsHead xs
  pub front_is : front ≡ xs ++ 60 ∷ 63 ∷ take n (codes "xml")
  pub small : n ≤ 3

abbrev pub Known : Mode → Outer → List ℕ → Type 0
Known (mode.Start true) o front = front ≡ []
Known (mode.Start false) o front = front ≡ 0xFEFF ∷ []
Known (mode.HeadOpened at) o front = IsBehind (60 ∷ []) front o true
Known (mode.Opened at) o front = IsBehind (60 ∷ []) front o false
Known mode.Bang o front = (starts : Bool) × IsBehind (60 ∷ 33 ∷ []) front o starts
Known (mode.Declaring (declaring.Word n)) o front = IsInWord front n
Known _ o front = Unit {0}

abbrev pub RunsAreKnown : Type 0
RunsAreKnown = (front : List ℕ) (s : State) → run start front ≡ Some s → Known s.mode s.outer front
