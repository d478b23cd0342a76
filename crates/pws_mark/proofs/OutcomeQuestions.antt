-- What the reader does at the mark <? outside of comments and sections.
use Rattle.std.proofs.Common.{◌≡◌, ◌⊎◌, inl, inr, ℕ, ◌+◌, Bool, true, false, List, [], ◌∷◌, ◌++◌, length, drop, refl, ap, subst, sym, ◌∙◌, arith, Some, None}
use Rattle.std.specs.Prelude.{◌≢◌, ◌==◌, if◌then◌else◌, encode_utf8, encode_utf8_all, option_map}
use Rattle.std.specs.Str.{all_scalars}
use Rattle.std.proofs.lemmas.Bool.{eqb-true}
use lib.Utf8.{encode}
use Rattle.pws_tree.specs.Characters.{name_start_ranges}
use Rattle.pws_mark.specs.Causes.{HasInstruction}
use Rattle.pws_mark.specs.Outcome.{question_before}
use Rattle.pws_mark.specs.Places.{is_inside, is_declared}
use Rattle.pws_mark.specs.ReaderLaws.{RunsArePlaced}
use Rattle.pws_mark.specs.Scan.{step, run, start, next, region, stays, opened_step, declaring_step, in_declaration, is_within}
use Rattle.pws_mark.specs.States.{Outer, State}
use Rattle.pws_mark.specs.Tokens.{is_white}
use Rattle.pws_mark.specs.declared.modes.Declaring.TheVariants as declaring
use Rattle.pws_mark.specs.declared.modes.Part.TheVariants as part
use Rattle.pws_mark.specs.declared.modes.Region.{Region}
use Rattle.pws_mark.specs.declared.modes.Region.TheVariants as region_is
use Rattle.pws_mark.specs.declared.modes.Mode.{Mode}
use Rattle.pws_mark.specs.declared.modes.Mode.TheVariants as mode
use Rattle.pws_mark.proofs.Counted.{places_count}
use Rattle.pws_mark.proofs.TakesTags.{white_is}
use Rattle.pws_mark.proofs.OutcomeCuts.{IsStuck, next_is}
use Rattle.pws_mark.proofs.OutcomeMarks.{stepped, First, first, run_nothing, not_stuck, no_step}
use Rattle.pws_mark.proofs.OutcomeMeets.{Meets, meets, instruction_bytes}

abbrev pub is_start : Mode → Bool
is_start (mode.Start marked) = true
is_start _ = false

-- where a < is taken outside of comments and sections, it opens a mark
abbrev pub Opens : State → State → Type 0
Opens u v = ((is_start u.mode ≡ true) × (v.mode ≡ mode.HeadOpened u.at)) ⊎ (v.mode ≡ mode.Opened u.at)

abbrev pub MarksOpen : Type 0
MarksOpen = (front : List ℕ) (u v : State) → run start front ≡ Some u → is_within u.mode ≡ false → step u 60 ≡ Some v → Opens u v

-- before the first mark stands a byte order mark at most
abbrev pub IsHead : List ℕ → Type 0
IsHead xs = (xs ≡ []) ⊎ (xs ≡ 0xFEFF ∷ [])

abbrev pub HeadsBegin : Type 0
HeadsBegin = (front : List ℕ) (u : State) → run start front ≡ Some u → is_start u.mode ≡ true → IsHead front

-- a declaration's word

letter_taken : (b : Bool) (n letter c : ℕ) (o p : Outer) (m : Mode) → (b ≡ true → letter ≡ c) → stays o (option_map in_declaration (if b then Some (Some (declaring.Word n)) else None)) ≡ Some (m, p) → (c ≡ letter) × (m ≡ mode.Declaring (declaring.Word n))
letter_taken true n letter c o p m same h = let e : ◌≡◌ {A = Mode × Outer} (mode.Declaring (declaring.Word n), o) (m, p) = cc in (sym (same refl), sym (ap (λ (z : Mode × Outer). z.0) e))
letter_taken false n letter c o p m same h = absurd cc

first_letter : (o : Outer) (at c : ℕ) (m : Mode) (p : Outer) → next (mode.Declaring (declaring.Word 0)) o at c ≡ Some (m, p) → (c ≡ 120) × (m ≡ mode.Declaring (declaring.Word 1))
unfolding next declaring_step
first_letter o at c m p h = letter_taken (120 == c) 1 120 c o p m (eqb-true 120 c) h

second_letter : (o : Outer) (at c : ℕ) (m : Mode) (p : Outer) → next (mode.Declaring (declaring.Word 1)) o at c ≡ Some (m, p) → (c ≡ 109) × (m ≡ mode.Declaring (declaring.Word 2))
unfolding next declaring_step
second_letter o at c m p h = letter_taken (109 == c) 2 109 c o p m (eqb-true 109 c) h

third_letter : (o : Outer) (at c : ℕ) (m : Mode) (p : Outer) → next (mode.Declaring (declaring.Word 2)) o at c ≡ Some (m, p) → (c ≡ 108) × (m ≡ mode.Declaring (declaring.Word 3))
unfolding next declaring_step
third_letter o at c m p h = letter_taken (108 == c) 3 108 c o p m (eqb-true 108 c) h

white_taken : (o : Outer) (at c : ℕ) (m : Mode) (p : Outer) → next (mode.Declaring (declaring.Word 3)) o at c ≡ Some (m, p) → is_white c ≡ true
unfolding next declaring_step
white_taken o at c m p h = by (is_white c) h
  where
    by : (b : Bool) → stays o (option_map in_declaration (if b then Some (Some (declaring.Gap part.Version true)) else None)) ≡ Some (m, p) → b ≡ true
    by true g = refl
    by false g = absurd cc

-- in the word the reader stops, or behind it stands white space
pub record Within (n : ℕ) (w s : State) : Type 0 where
  pub place : ℕ
  pub mode_is : s.mode ≡ mode.Declaring (declaring.Word place)
  pub at_is : s.at + n ≡ w.at + place

pub record Beyond (letters ws : List ℕ) : Type 0 where
  pub char : ℕ
  pub more : List ℕ
  pub white : is_white char ≡ true
  pub are : ws ≡ letters ++ char ∷ more

last_met : (ws : List ℕ) (w s : State) → w.mode ≡ mode.Declaring (declaring.Word 3) → run w ws ≡ Some s → Within 3 w s ⊎ Beyond [] ws
last_met [] w s is runs = let same = run_nothing w s runs in inl (record { place = 3; mode_is = ap (λ (z : State). z.mode) (sym same) ∙ is; at_is = ap (λ (z : State). z.at + 3) (sym same) })
last_met (c ∷ cs) w s is runs =
    let one = first w c cs s runs in
    let taken = (stepped w c one.via one.steps).next_is in
    inr (record { char = c; more = cs; white = white_taken w.outer w.at c one.via.mode one.via.outer (subst (λ m. next m w.outer w.at c ≡ Some (one.via.mode, one.via.outer)) is taken); are = refl })

more_met : (n letter : ℕ) (letters : List ℕ) → length (encode_utf8 letter) ≡ 1
    → ((o : Outer) (at c : ℕ) (m : Mode) (p : Outer) → next (mode.Declaring (declaring.Word n)) o at c ≡ Some (m, p) → (c ≡ letter) × (m ≡ mode.Declaring (declaring.Word (n + 1))))
    → ((ws : List ℕ) (w s : State) → w.mode ≡ mode.Declaring (declaring.Word (n + 1)) → run w ws ≡ Some s → Within (n + 1) w s ⊎ Beyond letters ws)
    → (ws : List ℕ) (w s : State) → w.mode ≡ mode.Declaring (declaring.Word n) → run w ws ≡ Some s → Within n w s ⊎ Beyond (letter ∷ letters) ws
more_met n letter letters size taking again [] w s is runs = let same = run_nothing w s runs in inl (record { place = n; mode_is = ap (λ (z : State). z.mode) (sym same) ∙ is; at_is = ap (λ (z : State). z.at + n) (sym same) })
more_met n letter letters size taking again (c ∷ cs) w s is runs =
    let one = first w c cs s runs in
    let there = stepped w c one.via one.steps in
    let told = taking w.outer w.at c one.via.mode one.via.outer (subst (λ m. next m w.outer w.at c ≡ Some (one.via.mode, one.via.outer)) is there.next_is) in
    by one told.0 (omega (arith, there.at_is, size, ap (λ z. length (encode_utf8 z)) told.0)) (again cs one.via s told.1 one.runs)
  where
    by : (one : First w c cs s) → c ≡ letter → one.via.at ≡ w.at + 1 → Within (n + 1) one.via s ⊎ Beyond letters cs → Within n w s ⊎ Beyond (letter ∷ letters) (c ∷ cs)
    by one same at (inl x) = inl (record { place = x.place; mode_is = x.mode_is; at_is = omega (arith, x.at_is) })
    by one same at (inr y) = inr (record { char = y.char; more = y.more; white = y.white; are = (λ i. same i ∷ y.are i) })

pub word_met : (ws : List ℕ) (w s : State) → w.mode ≡ mode.Declaring (declaring.Word 0) → run w ws ≡ Some s → Within 0 w s ⊎ Beyond (120 ∷ 109 ∷ 108 ∷ []) ws
unfolding encode
word_met = more_met 0 120 (109 ∷ 108 ∷ []) refl first_letter (more_met 1 109 (108 ∷ []) refl second_letter (more_met 2 108 [] refl third_letter last_met))

-- at <?

head_question : (m : Mode) (o : Outer) (at place : ℕ) → m ≡ mode.HeadOpened place → next m o at 63 ≡ Some (mode.Declaring (declaring.Word 0), o)
unfolding next
head_question m o at place is = ap (λ z. next z o at 63) is

opened_question : (m : Mode) (o : Outer) (at place : ℕ) → m ≡ mode.Opened place → next m o at 63 ≡ None
unfolding next name_start_ranges
opened_question m o at place is = ap (λ z. next z o at 63) is ∙ by (region o)
  where
    by : (r : Region) → stays o (opened_step r place 63) ≡ None
    by region_is.Before = refl
    by region_is.Inside = refl
    by region_is.Behind = refl

pub record IsBehindQuestion (u s : State) : Type 0 where
  pub before : ℕ
  pub mode_is : question_before s.mode ≡ Some before
  pub at_is : s.at ≡ u.at + before

pub record IsDeclared (u : State) (ws : List ℕ) : Type 0 where
  pub starts : is_start u.mode ≡ true
  pub beyond : Beyond (60 ∷ 63 ∷ 120 ∷ 109 ∷ 108 ∷ []) ws

pub instruction_met : (ws : List ℕ) (u s : State) (rest ys : List ℕ) → ((v : State) → step u 60 ≡ Some v → Opens u v) → run u ws ≡ Some s → IsStuck s rest → ws ++ rest ≡ 60 ∷ 63 ∷ ys
    → (ws ≡ []) ⊎ (IsBehindQuestion u s ⊎ IsDeclared u ws)
unfolding encode
instruction_met [] u s rest ys opens runs stuck e = inl refl
instruction_met (a ∷ []) u s rest ys opens runs stuck e =
    let one = first u a [] s runs in
    let last = run_nothing one.via s one.runs in
    let first_is : a ≡ 60 = cc in
    let rest_is : rest ≡ 63 ∷ ys = cc in
    let there : step u 60 ≡ Some s = subst (λ z. step u z ≡ Some s) first_is (one.steps ∙ ap (λ z. Some z) last) in
    by (opens s there) (stepped u 60 s there).at_is rest_is
  where
    by : Opens u s → s.at ≡ u.at + 1 → rest ≡ 63 ∷ ys → (a ∷ [] ≡ []) ⊎ (IsBehindQuestion u s ⊎ IsDeclared u (a ∷ []))
    by (inl h) at rest_is = absurd (not_stuck s rest 63 ys (mode.Declaring (declaring.Word 0)) s.outer stuck rest_is (head_question s.mode s.outer s.at u.at h.1))
    by (inr h) at rest_is = inr (inl (record { before = 1; mode_is = ap question_before h; at_is = at }))
instruction_met (a ∷ b ∷ ws) u s rest ys opens runs stuck e =
    let one = first u a (b ∷ ws) s runs in
    let two = first one.via b ws s one.runs in
    let first_is : a ≡ 60 = cc in
    let second_is : b ≡ 63 = cc in
    let there : step u 60 ≡ Some one.via = subst (λ z. step u z ≡ Some one.via) first_is one.steps in
    let next_there : step one.via 63 ≡ Some two.via = subst (λ z. step one.via z ≡ Some two.via) second_is two.steps in
    by one.via two.via first_is second_is (opens one.via there) next_there (omega (arith, (stepped u 60 one.via there).at_is, (stepped one.via 63 two.via next_there).at_is)) two.runs
  where
    word : (v w : State) → a ≡ 60 → b ≡ 63 → is_start u.mode ≡ true → w.at ≡ u.at + 2 → Within 0 w s ⊎ Beyond (120 ∷ 109 ∷ 108 ∷ []) ws → (a ∷ b ∷ ws ≡ []) ⊎ (IsBehindQuestion u s ⊎ IsDeclared u (a ∷ b ∷ ws))
    word v w first_is second_is starts at (inl x) = inr (inl (record { before = x.place + 2; mode_is = ap question_before x.mode_is; at_is = omega (arith, x.at_is) }))
    word v w first_is second_is starts at (inr y) = inr (inr (record { starts = starts; beyond = record { char = y.char; more = y.more; white = y.white; are = (λ i. first_is i ∷ second_is i ∷ y.are i) } }))

    by : (v w : State) → a ≡ 60 → b ≡ 63 → Opens u v → step v 63 ≡ Some w → w.at ≡ u.at + 2 → run w ws ≡ Some s → (a ∷ b ∷ ws ≡ []) ⊎ (IsBehindQuestion u s ⊎ IsDeclared u (a ∷ b ∷ ws))
    by v w first_is second_is (inl h) next_there at more =
        let given = (stepped v 63 w next_there).next_is in
        let known = head_question v.mode v.outer v.at u.at h.1 in
        let same : ◌≡◌ {A = Mode × Outer} (mode.Declaring (declaring.Word 0), v.outer) (w.mode, w.outer) = cc in
        word v w first_is second_is h.0 at (word_met ws w s (sym (ap (λ (z : Mode × Outer). z.0) same)) more)
    by v w first_is second_is (inr h) next_there at more = absurd (no_step v w 63 next_there (opened_question v.mode v.outer v.at u.at h))

-- a declaration

pub declared_there : (xs cs : List ℕ) → IsHead xs → (c : ℕ) → is_white c ≡ true → is_declared (encode_utf8_all (xs ++ 60 ∷ 63 ∷ 120 ∷ 109 ∷ 108 ∷ c ∷ cs)) (length (encode_utf8_all xs)) ≡ true
unfolding encode
declared_there xs cs (inl none) c white = subst (λ zs. is_declared (encode_utf8_all (zs ++ 60 ∷ 63 ∷ 120 ∷ 109 ∷ 108 ∷ c ∷ cs)) (length (encode_utf8_all zs)) ≡ true) (sym none)
    (white_is (λ d. is_declared (encode_utf8_all (60 ∷ 63 ∷ 120 ∷ 109 ∷ 108 ∷ d ∷ cs)) 0 ≡ true) refl refl refl refl c white)
declared_there xs cs (inr marked) c white = subst (λ zs. is_declared (encode_utf8_all (zs ++ 60 ∷ 63 ∷ 120 ∷ 109 ∷ 108 ∷ c ∷ cs)) (length (encode_utf8_all zs)) ≡ true) (sym marked)
    (white_is (λ d. is_declared (encode_utf8_all (0xFEFF ∷ 60 ∷ 63 ∷ 120 ∷ 109 ∷ 108 ∷ d ∷ cs)) 3 ≡ true) refl refl refl refl c white)

-- where a processing instruction stands, the reader stops before it or within its beginning
pub instruction_found : RunsArePlaced → MarksOpen → HeadsBegin → (front rest : List ℕ) (s : State) (at : ℕ) → all_scalars (front ++ rest) ≡ true → run start front ≡ Some s → IsStuck s rest → HasInstruction (encode_utf8_all (front ++ rest)) at
    → ((is_within s.mode ≡ false) × (s.at ≡ at) × (rest ≢ [])) ⊎ ((before : ℕ) × (question_before s.mode ≡ Some before) × (s.at ≡ at + before))
instruction_found are_placed open_marks heads front rest s at scalars runs stuck h =
    let there = instruction_bytes (drop at (encode_utf8_all (front ++ rest))) h.stands in
    let m = meets are_placed h.document front rest s at 60 (63 ∷ there.0) scalars runs stuck h.completes (omega arith) there.1 in
    let two = next_is 63 m.ys there.0 (omega arith) m.bytes in
    let inside : is_within m.before.mode ≡ false = sym m.placed.inside ∙ (ap (is_inside h.document) m.at_is ∙ h.outside) in
    let whole : m.more ++ rest ≡ 60 ∷ 63 ∷ two.0 = m.met ∙ ap (λ z. 60 ∷ z) two.1 in
    by m inside (instruction_met m.more m.before s rest two.0 (λ v. open_marks m.xs m.before v m.there inside) m.runs stuck whole)
  where
    by : (m : Meets h.document front rest s at 60 (63 ∷ (instruction_bytes (drop at (encode_utf8_all (front ++ rest))) h.stands).0)) → is_within m.before.mode ≡ false → (m.more ≡ []) ⊎ (IsBehindQuestion m.before s ⊎ IsDeclared m.before m.more)
        → ((is_within s.mode ≡ false) × (s.at ≡ at) × (rest ≢ [])) ⊎ ((before : ℕ) × (question_before s.mode ≡ Some before) × (s.at ≡ at + before))
    by m inside (inl none) =
        let same = run_nothing m.before s (ap (run m.before) (sym none) ∙ m.runs) in
        inl (ap (λ (z : State). is_within z.mode) (sym same) ∙ inside, ap (λ (z : State). z.at) (sym same) ∙ m.at_is, λ nothing. absurd (let e = m.met in let f : m.more ++ rest ≡ [] = (λ i. none i ++ nothing i) in cc))
    by m inside (inr (inl w)) = inr (w.before, w.mode_is, w.at_is ∙ ap (λ z. z + w.before) m.at_is)
    by m inside (inr (inr w)) =
        let size : length (encode_utf8_all m.xs) ≡ at = sym (places_count m.xs m.before m.there) ∙ m.at_is in
        let chars : front ++ rest ≡ m.xs ++ 60 ∷ 63 ∷ 120 ∷ 109 ∷ 108 ∷ w.beyond.char ∷ (w.beyond.more ++ rest) = m.chars ∙ ap (λ z. m.xs ++ z) (sym m.met ∙ ap (λ z. z ++ rest) w.beyond.are) in
        let yes : is_declared (encode_utf8_all (front ++ rest)) at ≡ true = subst (λ zs. is_declared (encode_utf8_all zs) at ≡ true) (sym chars) (subst (λ n. is_declared (encode_utf8_all (m.xs ++ 60 ∷ 63 ∷ 120 ∷ 109 ∷ 108 ∷ w.beyond.char ∷ (w.beyond.more ++ rest))) n ≡ true) size (declared_there m.xs (w.beyond.more ++ rest) (heads m.xs m.before m.there w.starts) w.beyond.char w.beyond.white)) in
        absurd (let not_so = h.undeclared in let bad : true ≡ false = sym yes ∙ not_so in cc)
