-- What begins with <? where the reader stops isn't a declaration.
use Rattle.std.proofs.Common.{◌≡◌, ◌⊎◌, inl, inr, ℕ, zero, suc, ◌+◌, ◌-◌, ◌<◌, ◌≤◌, Bool, true, false, ◌&&◌, ◌||◌, List, [], ◌∷◌, ◌++◌, length, take, drop, refl, ap, subst, sym, ◌∙◌, append_assoc, arith, length-append, Some}
use Rattle.std.specs.Prelude.{codes, nat_eq, encode_utf8, encode_utf8_all}
use Rattle.std.proofs.lemmas.Bool.{and_parts, eqb-true}
use Rattle.std.proofs.lemmas.Str.{encodes-append, cons_from_encodes, length-encode, len_utf8_bounds}
use Rattle.std.proofs.Math.Seq.{drop_at}
use lib.Utf8.{encode}
use Rattle.pws_mark.specs.Causes.{HasInstruction}
use Rattle.pws_mark.specs.Documents.{byte_order_mark}
use Rattle.pws_mark.specs.Outcome.{question_before}
use Rattle.pws_mark.specs.Places.{is_at, is_declared}
use Rattle.pws_mark.specs.ReaderLaws.{RunsBegin, RunsArePlaced}
use Rattle.pws_mark.specs.Scan.{run, start, next, is_within, outside, declaring_step}
use Rattle.pws_mark.specs.States.{Outer, State}
use Rattle.pws_mark.specs.Tokens.{is_white}
use Rattle.pws_mark.specs.declared.modes.Declaring.TheVariants as declaring
use Rattle.pws_mark.specs.declared.modes.Part.TheVariants as part
use Rattle.pws_mark.specs.declared.modes.Mode.{Mode}
use Rattle.pws_mark.specs.declared.modes.Mode.TheVariants as mode
use Rattle.pws_mark.proofs.Counted.{places_count}
use Rattle.pws_mark.proofs.TakesTags.{white_is}
use Rattle.pws_mark.proofs.OutcomeCuts.{IsStuck, next_is, stands}
use Rattle.pws_mark.proofs.OutcomeGiven.{InstructionsStand, behind_at}
use Rattle.pws_mark.proofs.OutcomeInverse.{RunsAreKnown, Known, IsBehind, IsInWord}
use Rattle.pws_mark.proofs.OutcomeMarks.{not_stuck}
use Rattle.pws_mark.proofs.OutcomeMeets.{instruction_given, instruction_bytes, early_apart}
use Rattle.pws_mark.proofs.OutcomeQuestions.{is_start, IsHead}

either_is : (a b : Bool) → (a || b) ≡ true → (a ≡ true) ⊎ (b ≡ true)
either_is true b h = inl refl
either_is false b h = inr h

-- a declaration stands there
record Declares (bytes : List ℕ) (at : ℕ) : Type 0 where
  head : (at ≡ 0) ⊎ ((at ≡ 3) × (is_at bytes 0 byte_order_mark ≡ true))
  char : ℕ
  white : is_white char ≡ true
  more : List ℕ
  are : drop at bytes ≡ 60 ∷ 63 ∷ 120 ∷ 109 ∷ 108 ∷ char ∷ more

declares : (bytes : List ℕ) (at : ℕ) → is_declared bytes at ≡ true → Declares bytes at
declares bytes at h = by (and_parts (nat_eq at 0 || (nat_eq at 3 && is_at bytes 0 byte_order_mark)) (is_at bytes at (codes "<?xml ") || (is_at bytes at (codes "<?xml" ++ 9 ∷ []) || (is_at bytes at (codes "<?xml" ++ 10 ∷ []) || is_at bytes at (codes "<?xml" ++ 13 ∷ [])))) h)
  where
    head_is : (nat_eq at 0 ≡ true) ⊎ ((nat_eq at 3 && is_at bytes 0 byte_order_mark) ≡ true) → (at ≡ 0) ⊎ ((at ≡ 3) × (is_at bytes 0 byte_order_mark ≡ true))
    head_is (inl e) = inl (eqb-true at 0 e)
    head_is (inr e) = let parts = and_parts (nat_eq at 3) (is_at bytes 0 byte_order_mark) e in inr (eqb-true at 3 parts.0, parts.1)

    made : (at ≡ 0) ⊎ ((at ≡ 3) × (is_at bytes 0 byte_order_mark ≡ true)) → (c : ℕ) → is_white c ≡ true → is_at bytes at (60 ∷ 63 ∷ 120 ∷ 109 ∷ 108 ∷ c ∷ []) ≡ true → Declares bytes at
    made head c white e = record { head = head; char = c; white = white; more = drop 6 (drop at bytes); are = stands (60 ∷ 63 ∷ 120 ∷ 109 ∷ 108 ∷ c ∷ []) (drop at bytes) e }

    three : (at ≡ 0) ⊎ ((at ≡ 3) × (is_at bytes 0 byte_order_mark ≡ true)) → (is_at bytes at (codes "<?xml" ++ 10 ∷ []) ≡ true) ⊎ (is_at bytes at (codes "<?xml" ++ 13 ∷ []) ≡ true) → Declares bytes at
    three head (inl e) = made head 10 refl e
    three head (inr e) = made head 13 refl e

    two : (at ≡ 0) ⊎ ((at ≡ 3) × (is_at bytes 0 byte_order_mark ≡ true)) → (is_at bytes at (codes "<?xml" ++ 9 ∷ []) ≡ true) ⊎ ((is_at bytes at (codes "<?xml" ++ 10 ∷ []) || is_at bytes at (codes "<?xml" ++ 13 ∷ [])) ≡ true) → Declares bytes at
    two head (inl e) = made head 9 refl e
    two head (inr e) = three head (either_is (is_at bytes at (codes "<?xml" ++ 10 ∷ [])) (is_at bytes at (codes "<?xml" ++ 13 ∷ [])) e)

    one : (at ≡ 0) ⊎ ((at ≡ 3) × (is_at bytes 0 byte_order_mark ≡ true)) → (is_at bytes at (codes "<?xml ") ≡ true) ⊎ ((is_at bytes at (codes "<?xml" ++ 9 ∷ []) || (is_at bytes at (codes "<?xml" ++ 10 ∷ []) || is_at bytes at (codes "<?xml" ++ 13 ∷ []))) ≡ true) → Declares bytes at
    one head (inl e) = made head 32 refl e
    one head (inr e) = two head (either_is (is_at bytes at (codes "<?xml" ++ 9 ∷ [])) (is_at bytes at (codes "<?xml" ++ 10 ∷ []) || is_at bytes at (codes "<?xml" ++ 13 ∷ [])) e)

    by : ((nat_eq at 0 || (nat_eq at 3 && is_at bytes 0 byte_order_mark)) ≡ true) × ((is_at bytes at (codes "<?xml ") || (is_at bytes at (codes "<?xml" ++ 9 ∷ []) || (is_at bytes at (codes "<?xml" ++ 10 ∷ []) || is_at bytes at (codes "<?xml" ++ 13 ∷ [])))) ≡ true) → Declares bytes at
    by parts = one (head_is (either_is (nat_eq at 0) (nat_eq at 3 && is_at bytes 0 byte_order_mark) parts.0)) (either_is (is_at bytes at (codes "<?xml ")) (is_at bytes at (codes "<?xml" ++ 9 ∷ []) || (is_at bytes at (codes "<?xml" ++ 10 ∷ []) || is_at bytes at (codes "<?xml" ++ 13 ∷ []))) parts.1)

nothing_in : (xs : List ℕ) → length (encode_utf8_all xs) ≡ 0 → xs ≡ []
nothing_in [] h = refl
nothing_in (x ∷ xs) h = absurd (omega (arith, length-append (encode_utf8 x) (encode_utf8_all xs), length-encode x, (len_utf8_bounds x).0))

-- before a declaration stands a byte order mark at most
head_declared : (xs ys : List ℕ) (at : ℕ) → length (encode_utf8_all xs) ≡ at → (at ≡ 0) ⊎ ((at ≡ 3) × (is_at (encode_utf8_all (xs ++ ys)) 0 byte_order_mark ≡ true)) → IsHead xs
unfolding encode
head_declared xs ys at size (inl none) = inl (nothing_in xs (size ∙ none))
head_declared [] ys at size (inr w) = inl refl
head_declared (x ∷ xs) ys at size (inr w) =
    let e = stands byte_order_mark (encode_utf8_all ((x ∷ xs) ++ ys)) w.1 in
    let one = cons_from_encodes ((x ∷ xs) ++ ys) (drop 3 (encode_utf8_all ((x ∷ xs) ++ ys))) 0xFEFF e in
    let given = one.1 in
    let first_is : x ≡ 0xFEFF = cc in
    let three : length (encode_utf8 x) ≡ 3 = ap (λ z. length (encode_utf8 z)) first_is in
    let more : xs ≡ [] = nothing_in xs (omega (arith, length-append (encode_utf8 x) (encode_utf8_all xs), three, size, w.0)) in
    inr (λ i. first_is i ∷ more i)

-- there the reader has begun nothing
record Begun (xs : List ℕ) : Type 0 where
  state : State
  runs : run start xs ≡ Some state
  starts : is_start state.mode ≡ true

head_begun : (xs : List ℕ) → IsHead xs → Begun xs
unfolding run next encode
head_begun xs (inl none) = record { state = start; runs = ap (run start) none; starts = refl }
head_begun xs (inr marked) = record { state = record { at = 3; mode = mode.Start false; outer = outside }; runs = ap (run start) marked; starts = refl }

start_within : (m : Mode) → is_start m ≡ true → is_within m ≡ false
start_within (mode.Start marked) h = refl
start_within _ h = absurd cc

start_takes : (m : Mode) (o : Outer) (at : ℕ) → is_start m ≡ true → next m o at 60 ≡ Some (mode.HeadOpened at, o)
unfolding next
start_takes (mode.Start marked) o at h = refl
start_takes _ o at h = absurd cc

-- the reader isn't stuck at a declaration
not_declared : (front rest : List ℕ) (s : State) → run start front ≡ Some s → IsStuck s rest → (w : List ℕ) → drop s.at (encode_utf8_all (front ++ rest)) ≡ 60 ∷ w → is_declared (encode_utf8_all (front ++ rest)) s.at ≡ true → ⊥
not_declared front rest s runs stuck w stand h =
    let d = declares (encode_utf8_all (front ++ rest)) s.at h in
    let size = places_count front s runs in
    let head = head_declared front rest s.at (sym size) d.head in
    let begun = head_begun front head in
    let same : Some begun.state ≡ Some s = sym begun.runs ∙ runs in
    let here : begun.state ≡ s = cc in
    let behind : drop s.at (encode_utf8_all (front ++ rest)) ≡ encode_utf8_all rest = ap (drop s.at) (encodes-append front rest) ∙ drop_at (encode_utf8_all front) (encode_utf8_all rest) s.at (sym size) in
    let one = next_is 60 rest w (omega arith) (sym behind ∙ stand) in
    not_stuck s rest 60 one.0 (mode.HeadOpened s.at) s.outer stuck one.1 (start_takes s.mode s.outer s.at (subst (λ (z : State). is_start z.mode ≡ true) here begun.starts))

unless : (b : Bool) → (b ≡ true → ⊥) → b ≡ false
unless true h = absurd (h refl)
unless false h = refl

opened_stands : RunsBegin → RunsArePlaced → (front rest : List ℕ) (s : State) (before : ℕ) → run start front ≡ Some s → IsBehind (60 ∷ []) front s.outer false → before ≡ 1
    → is_at (encode_utf8_all (front ++ rest)) (s.at - before) (codes "<?") ≡ true → HasInstruction (encode_utf8_all (front ++ rest)) (s.at - before)
unfolding encode
opened_stands begin are_placed front rest s before runs b one stand =
    let size = behind_at front b.xs (60 ∷ []) s b.before 1 runs b.there b.front_is refl in
    let place : s.at - before ≡ b.before.at = omega (arith, one) in
    let chars : front ++ rest ≡ b.xs ++ 60 ∷ rest = ap (λ z. z ++ rest) b.front_is ∙ append_assoc b.xs (60 ∷ []) rest in
    subst (λ n. HasInstruction (encode_utf8_all (front ++ rest)) n) (sym place)
    (subst (λ zs. HasInstruction (encode_utf8_all zs) b.before.at) (sym chars)
    (instruction_given begin are_placed b.xs (60 ∷ rest) b.before b.there (early_apart b.before.mode b.early)
    (subst (λ zs. is_at (encode_utf8_all zs) b.before.at (codes "<?") ≡ true) chars (subst (λ n. is_at (encode_utf8_all (front ++ rest)) n (codes "<?") ≡ true) place stand))
    (unless (is_declared (encode_utf8_all (b.xs ++ 60 ∷ rest)) b.before.at) (undeclared b))))
  where
    undeclared : (b : IsBehind (60 ∷ []) front s.outer false) → is_declared (encode_utf8_all (b.xs ++ 60 ∷ rest)) b.before.at ≡ true → ⊥
    undeclared b h =
        let d = declares (encode_utf8_all (b.xs ++ 60 ∷ rest)) b.before.at h in
        let begun = head_begun b.xs (head_declared b.xs (60 ∷ rest) b.before.at (sym (places_count b.xs b.before b.there)) d.head) in
        let same : Some begun.state ≡ Some b.before = sym begun.runs ∙ b.there in
        let here : begun.state ≡ b.before = cc in
        let yes : is_start b.before.mode ≡ true = subst (λ (z : State). is_start z.mode ≡ true) here begun.starts in
        let bad : true ≡ false = sym yes ∙ b.starts_is in
        absurd cc

-- in the word the reader takes the next letter, and behind it white space
word_on : (n : ℕ) (rest : List ℕ) (s : State) (c : ℕ) (more : List ℕ) → n ≤ 3 → s.mode ≡ mode.Declaring (declaring.Word n) → IsStuck s rest → is_white c ≡ true
    → 60 ∷ 63 ∷ (take n (codes "xml") ++ encode_utf8_all rest) ≡ 60 ∷ 63 ∷ 120 ∷ 109 ∷ 108 ∷ c ∷ more → ⊥
unfolding next declaring_step
word_on zero rest s c more small is stuck white e = let one = next_is 120 rest (109 ∷ 108 ∷ c ∷ more) (omega arith) (cc) in
    not_stuck s rest 120 one.0 (mode.Declaring (declaring.Word 1)) s.outer stuck one.1 (ap (λ m. next m s.outer s.at 120) is)
word_on (suc zero) rest s c more small is stuck white e = let one = next_is 109 rest (108 ∷ c ∷ more) (omega arith) (cc) in
    not_stuck s rest 109 one.0 (mode.Declaring (declaring.Word 2)) s.outer stuck one.1 (ap (λ m. next m s.outer s.at 109) is)
word_on (suc (suc zero)) rest s c more small is stuck white e = let one = next_is 108 rest (c ∷ more) (omega arith) (cc) in
    not_stuck s rest 108 one.0 (mode.Declaring (declaring.Word 3)) s.outer stuck one.1 (ap (λ m. next m s.outer s.at 108) is)
word_on (suc (suc (suc zero))) rest s c more small is stuck white e =
    let low : c < 128 = white_is (λ d. d < 128) (omega arith) (omega arith) (omega arith) (omega arith) c white in
    let one = next_is c rest more low (cc) in
    let taken : next (mode.Declaring (declaring.Word 3)) s.outer s.at c ≡ Some (mode.Declaring (declaring.Gap part.Version true), s.outer) = white_is (λ d. next (mode.Declaring (declaring.Word 3)) s.outer s.at d ≡ Some (mode.Declaring (declaring.Gap part.Version true), s.outer)) refl refl refl refl c white in
    not_stuck s rest c one.0 (mode.Declaring (declaring.Gap part.Version true)) s.outer stuck one.1 (ap (λ m. next m s.outer s.at c) is ∙ taken)
word_on (suc (suc (suc (suc n)))) rest s c more small is stuck white e = absurd (omega arith)

mark_size : (n : ℕ) → n ≤ 3 → length (encode_utf8_all (60 ∷ 63 ∷ take n (codes "xml"))) ≡ n + 2
unfolding encode
mark_size zero small = refl
mark_size (suc zero) small = refl
mark_size (suc (suc zero)) small = refl
mark_size (suc (suc (suc zero))) small = refl
mark_size (suc (suc (suc (suc n)))) small = absurd (omega arith)

mark_bytes : (n : ℕ) (rest : List ℕ) → n ≤ 3 → encode_utf8_all ((60 ∷ 63 ∷ take n (codes "xml")) ++ rest) ≡ 60 ∷ 63 ∷ (take n (codes "xml") ++ encode_utf8_all rest)
unfolding encode
mark_bytes zero rest small = refl
mark_bytes (suc zero) rest small = refl
mark_bytes (suc (suc zero)) rest small = refl
mark_bytes (suc (suc (suc zero))) rest small = refl
mark_bytes (suc (suc (suc (suc n)))) rest small = absurd (omega arith)

word_stands : RunsBegin → RunsArePlaced → (front rest : List ℕ) (s : State) (before n : ℕ) → run start front ≡ Some s → IsStuck s rest → s.mode ≡ mode.Declaring (declaring.Word n) → IsInWord front n → before ≡ n + 2
    → is_at (encode_utf8_all (front ++ rest)) (s.at - before) (codes "<?") ≡ true → HasInstruction (encode_utf8_all (front ++ rest)) (s.at - before)
word_stands begin are_placed front rest s before n runs stuck is k size_is stand =
    let u = head_begun k.xs k.head in
    let small = k.small in
    let size = behind_at front k.xs (60 ∷ 63 ∷ take n (codes "xml")) s u.state (n + 2) runs u.runs k.front_is (mark_size n small) in
    let place : s.at - before ≡ u.state.at = omega (arith, size_is) in
    let chars : front ++ rest ≡ k.xs ++ ((60 ∷ 63 ∷ take n (codes "xml")) ++ rest) = ap (λ z. z ++ rest) k.front_is ∙ append_assoc k.xs (60 ∷ 63 ∷ take n (codes "xml")) rest in
    subst (λ m. HasInstruction (encode_utf8_all (front ++ rest)) m) (sym place)
    (subst (λ zs. HasInstruction (encode_utf8_all zs) u.state.at) (sym chars)
    (instruction_given begin are_placed k.xs ((60 ∷ 63 ∷ take n (codes "xml")) ++ rest) u.state u.runs (start_within u.state.mode u.starts)
    (subst (λ zs. is_at (encode_utf8_all zs) u.state.at (codes "<?") ≡ true) chars (subst (λ m. is_at (encode_utf8_all (front ++ rest)) m (codes "<?") ≡ true) place stand))
    (unless (is_declared (encode_utf8_all (k.xs ++ ((60 ∷ 63 ∷ take n (codes "xml")) ++ rest))) u.state.at) (undeclared u.state u.runs))))
  where
    undeclared : (u : State) → run start k.xs ≡ Some u → is_declared (encode_utf8_all (k.xs ++ ((60 ∷ 63 ∷ take n (codes "xml")) ++ rest))) u.at ≡ true → ⊥
    undeclared u there h =
        let d = declares (encode_utf8_all (k.xs ++ ((60 ∷ 63 ∷ take n (codes "xml")) ++ rest))) u.at h in
        let small = k.small in
        let behind : drop u.at (encode_utf8_all (k.xs ++ ((60 ∷ 63 ∷ take n (codes "xml")) ++ rest))) ≡ encode_utf8_all ((60 ∷ 63 ∷ take n (codes "xml")) ++ rest) =
        ap (drop u.at) (encodes-append k.xs ((60 ∷ 63 ∷ take n (codes "xml")) ++ rest)) ∙ drop_at (encode_utf8_all k.xs) (encode_utf8_all ((60 ∷ 63 ∷ take n (codes "xml")) ++ rest)) u.at (sym (places_count k.xs u there)) in
        word_on n rest s d.char d.more small is stuck d.white (sym (mark_bytes n rest small) ∙ (sym behind ∙ d.are))

question_is : (m : Mode) (o : Outer) (front : List ℕ) (before : ℕ) → question_before m ≡ Some before → Known m o front
    → ((before ≡ 1) × IsBehind (60 ∷ []) front o false) ⊎ ((n : ℕ) × (before ≡ n + 2) × (m ≡ mode.Declaring (declaring.Word n)) × IsInWord front n)
question_is (mode.Opened at) o front before h k = inl (cc, k)
question_is (mode.Declaring (declaring.Word n)) o front before h k = inr (n, cc, refl, k)
question_is _ o front before h k = absurd cc

pub instructions_stand : RunsBegin → RunsArePlaced → RunsAreKnown → InstructionsStand
instructions_stand begin are_placed known front rest s runs stuck = (here, λ before is stand. by before (question_is s.mode s.outer front before is (known front s runs)) stand)
  where
    here : is_within s.mode ≡ false → is_at (encode_utf8_all (front ++ rest)) s.at (codes "<?") ≡ true → HasInstruction (encode_utf8_all (front ++ rest)) s.at
    here within stand =
        let w = instruction_bytes (drop s.at (encode_utf8_all (front ++ rest))) stand in
        instruction_given begin are_placed front rest s runs within stand (unless (is_declared (encode_utf8_all (front ++ rest)) s.at) (not_declared front rest s runs stuck (63 ∷ w.0) w.1))

    by : (before : ℕ) → ((before ≡ 1) × IsBehind (60 ∷ []) front s.outer false) ⊎ ((n : ℕ) × (before ≡ n + 2) × (s.mode ≡ mode.Declaring (declaring.Word n)) × IsInWord front n)
        → is_at (encode_utf8_all (front ++ rest)) (s.at - before) (codes "<?") ≡ true → HasInstruction (encode_utf8_all (front ++ rest)) (s.at - before)
    by before (inl w) stand = opened_stands begin are_placed front rest s before runs w.1 w.0 stand
    by before (inr w) stand = word_stands begin are_placed front rest s before w.0 runs stuck w.2 w.3 w.1 stand
