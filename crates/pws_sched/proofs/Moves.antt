-- The requests that lines say, as the reader finds them: after those that came before.
use Rattle.std.proofs.Common.{◌≡◌, ℕ, ◌==◌, true, false, List, [], ◌∷◌, ◌++◌, length, Option, Some, None, refl, sym, ◌∙◌, ap, append_assoc, codes, inl, inr}
use Rattle.std.specs.Option.{option_map}
use Rattle.std.specs.Str.{bytes_eq}
use Rattle.std.proofs.lemmas.Bool.{cases_Bool}
use Rattle.pws_event.specs.Requests.{RequestFields}
use Rattle.pws_sched.specs.FirstForm.{lines_of, moves_of, said_by, with_first}
use Rattle.pws_sched.proofs.Lines.{is_last_lines_of}

-- what all lines say is what came before and what these say
abbrev pub Continues : Option (List RequestFields) → List RequestFields → List (List ℕ) → Type 0
Continues all front lines = all ≡ option_map (λ more. front ++ more) (moves_of lines)

-- one more element goes from the front of the rest to the end of what came before
pub front_more : {X : Type 0} (front : List X) (x : X) (rest : Option (List X)) → option_map (λ more. front ++ more) (option_map (λ more. x ∷ more) rest) ≡ option_map (λ more. (front ++ x ∷ []) ++ more) rest
front_more front x None = refl
front_more front x (Some rest) = ap Some (sym (append_assoc front (x ∷ []) rest))

-- a line that says a request
pub moves_of_said : (line : List ℕ) (more : List (List ℕ)) (a : RequestFields) → bytes_eq line (codes "end") ≡ false → said_by line ≡ Some a → moves_of (line ∷ more) ≡ option_map (λ rest. a ∷ rest) (moves_of more)
moves_of_said line more a e s = rw (e, s) refl

pub continues_said : (all : Option (List RequestFields)) (front : List RequestFields) (a : RequestFields) (lines : List (List ℕ)) (line : List ℕ) (more : List (List ℕ)) → lines ≡ line ∷ more → bytes_eq line (codes "end") ≡ false → said_by line ≡ Some a → Continues all front lines → Continues all (front ++ a ∷ []) more
continues_said all front a lines line more cut e s k =
    let here : moves_of lines ≡ option_map (λ rest. a ∷ rest) (moves_of more) = ap moves_of cut ∙ moves_of_said line more a e s in
    k ∙ (ap (λ r. option_map (λ rest. front ++ rest) r) here ∙ front_more front a (moves_of more))

-- a line `end` with text after it
pub continues_past_end : (all : Option (List RequestFields)) (front : List RequestFields) (lines : List (List ℕ)) (line others : List ℕ) → lines ≡ line ∷ lines_of others → bytes_eq line (codes "end") ≡ true → (length others == 0) ≡ false → Continues all front lines → all ≡ None
continues_past_end all front lines line others cut e s k =
    let here : moves_of (line ∷ lines_of others) ≡ None = rw (e, is_last_lines_of others, s) refl in
    k ∙ ap (λ r. option_map (λ rest. front ++ rest) r) (ap moves_of cut ∙ here)

with_none : (first : Option RequestFields) → with_first first None ≡ None
with_none None = refl
with_none (Some r) = refl

-- one piece alone, which no line feed ends
moves_of_one : (line : List ℕ) → moves_of (line ∷ []) ≡ None
moves_of_one line =
    elim (cases_Bool (bytes_eq line (codes "end"))) [
      | inl e ↦ rw e refl
      | inr e ↦ rw e (with_none (said_by line))
    ]

pub continues_one : (all : Option (List RequestFields)) (front : List RequestFields) (lines : List (List ℕ)) (line : List ℕ) → lines ≡ line ∷ [] → Continues all front lines → all ≡ None
continues_one all front lines line cut k = k ∙ ap (λ r. option_map (λ rest. front ++ rest) r) (ap moves_of cut ∙ moves_of_one line)
