-- The places of the effects that are no requests, after one more at the end and after one was taken out; and the first
-- effect that passes, where no request does.
use Rattle.std.proofs.Common.{◌≡◌, ℕ, zero, suc, ◌+◌, ◌-◌, ◌<◌, ◌==◌, not, Bool, true, false, cond, nat_eq, nat_lt, List, [], ◌∷◌, ◌++◌, length, map, remove, slice_get, Option, Some, None, refl, sym, ◌∙◌, ap, arith}
use Rattle.std.specs.List.{find, position, position_or_len}
use Rattle.std.specs.Option.{option_map, option_map_or}
use Rattle.std.proofs.lemmas.Bool.Decides.{nat_tests}
use Rattle.pws_event.specs.declared.events.Event.{Event}
use Rattle.pws_event.specs.declared.events.Event.TheVariants as event
use Rattle.pws_driver.specs.declared.cores.Mode.{Mode}
use Rattle.pws_driver.specs.declared.cores.Mode.TheVariants as mode
use Rattle.pws_driver.specs.declared.cores.Core.{Core}
use Rattle.pws_driver.specs.Takings.{wants_in, wants}
use Rattle.pws_driver.specs.Places.{is_other, places_of, passes_at, lowered, without_place, wants_requests_in, wants_requests}

abbrev next : ℕ → ℕ
next p = suc p

-- ---- one more at the end

append_next : (xs ys : List ℕ) → map next (xs ++ ys) ≡ map next xs ++ map next ys
append_next [] ys = refl
append_next (x ∷ xs) ys = ap (λ (zs : List ℕ). suc x ∷ zs) (append_next xs ys)

next_if : (b : Bool) (n : ℕ) → map next (cond b (n ∷ []) []) ≡ cond b (suc n ∷ []) []
next_if true n = refl
next_if false n = refl

push_by : (b c : Bool) (es : List Event) (ps qs : List ℕ) (n : ℕ) → qs ≡ ps ++ cond c (n ∷ []) [] → cond b (0 ∷ map next qs) (map next qs) ≡ cond b (0 ∷ map next ps) (map next ps) ++ cond c (suc n ∷ []) []
push_by true c es ps qs n h = ap (λ (zs : List ℕ). 0 ∷ zs) (ap (map next) h ∙ (append_next ps (cond c (n ∷ []) []) ∙ ap (λ (zs : List ℕ). map next ps ++ zs) (next_if c n)))
push_by false c es ps qs n h = ap (map next) h ∙ (append_next ps (cond c (n ∷ []) []) ∙ ap (λ (zs : List ℕ). map next ps ++ zs) (next_if c n))

pub places_more : (es : List Event) (e : Event) → places_of (es ++ e ∷ []) ≡ places_of es ++ cond (is_other e) (length es ∷ []) []
unfolding places_of
places_more [] e = refl
places_more (x ∷ es) e = push_by (is_other x) (is_other e) es (places_of es) (places_of (es ++ e ∷ [])) (length es) (places_more es e)

no_more : (ps : List ℕ) → ps ++ [] ≡ ps
no_more [] = refl
no_more (p ∷ ps) = ap (λ (zs : List ℕ). p ∷ zs) (no_more ps)

-- after a request
pub places_request : (es : List Event) (e : Event) (ps : List ℕ) → is_other e ≡ false → ps ≡ places_of es → ps ≡ places_of (es ++ e ∷ [])
places_request es e ps h i = i ∙ sym (places_more es e ∙ rw h (no_more (places_of es)))

-- after anything else
pub places_other : (es : List Event) (e : Event) (ps : List ℕ) (n : ℕ) → is_other e ≡ true → n ≡ length es → ps ≡ places_of es → ps ++ n ∷ [] ≡ places_of (es ++ e ∷ [])
places_other es e ps n h l i = ap (λ (zs : List ℕ). zs ++ n ∷ []) i ∙ sym (places_more es e ∙ rw (h, l) refl)

-- ---- one taken out

zero_kept : (ps : List ℕ) → without_place 0 (map next ps) ≡ map next ps
zero_kept [] = refl
zero_kept (p ∷ ps) = let f : nat_eq 0 (suc p) ≡ false = grind (arith, nat_tests) in rw f (ap (λ (zs : List ℕ). suc p ∷ zs) (zero_kept ps))

zero_lowered : (ps : List ℕ) → map (lowered 0) (map next ps) ≡ ps
zero_lowered [] = refl
zero_lowered (p ∷ ps) =
    let f : nat_lt 0 (suc p) ≡ true = grind (arith, nat_tests) in
    let g : suc p - 1 ≡ p = omega arith in
    rw (f, g) (ap (λ (zs : List ℕ). p ∷ zs) (zero_lowered ps))

first_out : (b : Bool) (ps : List ℕ) → ps ≡ map (lowered 0) (without_place 0 (cond b (0 ∷ map next ps) (map next ps)))
first_out true ps = sym (ap (map (lowered 0)) (zero_kept ps) ∙ zero_lowered ps)
first_out false ps = sym (ap (map (lowered 0)) (zero_kept ps) ∙ zero_lowered ps)

lowered_next : (j p : ℕ) (b : Bool) → nat_lt j p ≡ b → lowered (suc j) (suc p) ≡ suc (cond b (p - 1) p)
lowered_next j p true h = let f : nat_lt (suc j) (suc p) ≡ true = grind (arith, nat_tests) in let g : 0 < p = grind (arith, nat_tests) in rw f (omega (arith, g))
lowered_next j p false h = let f : nat_lt (suc j) (suc p) ≡ false = grind (arith, nat_tests) in rw f refl

same_next : (j p : ℕ) (b : Bool) → nat_eq j p ≡ b → nat_eq (suc j) (suc p) ≡ b
same_next j p true h = grind (arith, nat_tests)
same_next j p false h = grind (arith, nat_tests)

kept_by : (j p : ℕ) (ps qs : List ℕ) (b : Bool) → nat_eq j p ≡ b → map (lowered (suc j)) qs ≡ map next (map (lowered j) ps) → map (lowered (suc j)) (cond (not b) (suc p ∷ qs) qs) ≡ map next (map (lowered j) (cond (not b) (p ∷ ps) ps))
kept_by j p ps qs true h ih = ih
kept_by j p ps qs false h ih = ap (λ (x : ℕ). x ∷ map (lowered (suc j)) qs) (lowered_next j p (nat_lt j p) refl) ∙ ap (λ (zs : List ℕ). suc (lowered j p) ∷ zs) ih

kept_next : (j : ℕ) (ps : List ℕ) → map (lowered (suc j)) (without_place (suc j) (map next ps)) ≡ map next (map (lowered j) (without_place j ps))
kept_next j [] = refl
kept_next j (p ∷ ps) = rw (same_next j p (nat_eq j p) refl) (kept_by j p (without_place j ps) (without_place (suc j) (map next ps)) (nat_eq j p) refl (kept_next j ps))

later_out : (j : ℕ) (b : Bool) (ps qs : List ℕ) → qs ≡ map (lowered j) (without_place j ps) → cond b (0 ∷ map next qs) (map next qs) ≡ map (lowered (suc j)) (without_place (suc j) (cond b (0 ∷ map next ps) (map next ps)))
later_out j true ps qs h =
    let f : nat_eq (suc j) 0 ≡ false = grind (arith, nat_tests) in
    let g : nat_lt (suc j) 0 ≡ false = grind (arith, nat_tests) in
    rw (f, g) (ap (λ (zs : List ℕ). 0 ∷ zs) (ap (map next) h ∙ sym (kept_next j ps)))
later_out j false ps qs h = ap (map next) h ∙ sym (kept_next j ps)

pub places_out : (es : List Event) (place : ℕ) → places_of (remove es place) ≡ map (lowered place) (without_place place (places_of es))
unfolding places_of
places_out [] zero = refl
places_out [] (suc j) = refl
places_out (e ∷ es) zero = first_out (is_other e) (places_of es)
places_out (e ∷ es) (suc j) = later_out j (is_other e) (places_of es) (places_of (remove es j)) (places_out es j)

-- ---- the first that passes

find_next_by : (p : ℕ) (o q : Option ℕ) (b : Bool) → o ≡ option_map next q → cond b (Some (suc p)) o ≡ option_map next (cond b (Some p) q)
find_next_by p o q true h = refl
find_next_by p o q false h = h

find_next : (test : ℕ → Bool) (ps : List ℕ) → find test (map next ps) ≡ option_map next (find (λ p. test (suc p)) ps)
find_next test [] = refl
find_next test (p ∷ ps) = find_next_by p (find test (map next ps)) (find (λ q. test (suc q)) ps) (test (suc p)) (find_next test ps)

position_by : (n m : ℕ) (b : Bool) → nat_lt n m ≡ b → cond (nat_lt (1 + n) (suc m)) (Some (1 + n)) None ≡ option_map next (cond b (Some n) None)
position_by n m true h = let f : nat_lt (1 + n) (suc m) ≡ true = grind (arith, nat_tests) in rw f (ap (λ (x : ℕ). Some x) (omega arith))
position_by n m false h = let f : nat_lt (1 + n) (suc m) ≡ false = grind (arith, nat_tests) in rw f refl

position_in : (test : Event → Bool) (es : List Event) (b : Bool) → cond (nat_lt (cond (not b) (1 + position_or_len test es) 0) (suc (length es))) (Some (cond (not b) (1 + position_or_len test es) 0)) None ≡ cond b (Some 0) (option_map next (position test es))
position_in test es true = let f : nat_lt 0 (suc (length es)) ≡ true = grind (arith, nat_tests) in rw f refl
position_in test es false = position_by (position_or_len test es) (length es) (nat_lt (position_or_len test es) (length es)) refl

position_cons : (test : Event → Bool) (e : Event) (es : List Event) → position test (e ∷ es) ≡ cond (test e) (Some 0) (option_map next (position test es))
position_cons test e es = position_in test es (test e)

find_by : (test : Event → Bool) (e : Event) (es : List Event) (ps : List ℕ) (b : Bool) → (b ≡ false → test e ≡ false) → find (passes_at test es) ps ≡ position test es → find (passes_at test (e ∷ es)) (cond b (0 ∷ map next ps) (map next ps)) ≡ cond (test e) (Some 0) (option_map next (position test es))
find_by test e es ps true f h = ap (λ (o : Option ℕ). cond (test e) (Some 0) o) (find_next (passes_at test (e ∷ es)) ps ∙ ap (option_map next) h)
find_by test e es ps false f h = rw (f refl) (find_next (passes_at test (e ∷ es)) ps ∙ ap (option_map next) h)

first_other : (test : Event → Bool) (es : List Event) → ((e : Event) → is_other e ≡ false → test e ≡ false) → find (passes_at test es) (places_of es) ≡ position test es
unfolding places_of
first_other test [] f = refl
first_other test (e ∷ es) f = find_by test e es (places_of es) (is_other e) (f e) (first_other test es f) ∙ sym (position_cons test e es)

no_request_in : (m : Mode) (asks : ℕ) (e : Event) → wants_requests_in m ≡ false → is_other e ≡ false → wants_in m asks e ≡ false
no_request_in m asks event.Null h o = let i : ◌≡◌ {A = Bool} true false = o in absurd (cc)
no_request_in m asks (event.Reply r) h o = let i : ◌≡◌ {A = Bool} true false = o in absurd (cc)
no_request_in m asks (event.Abort r) h o = let i : ◌≡◌ {A = Bool} true false = o in absurd (cc)
no_request_in m asks (event.Clock r) h o = let i : ◌≡◌ {A = Bool} true false = o in absurd (cc)
no_request_in m asks (event.Random r) h o = let i : ◌≡◌ {A = Bool} true false = o in absurd (cc)
no_request_in mode.Ready asks (event.Request r) h o = refl
no_request_in (mode.Waiting w) asks (event.Request r) h o = h
no_request_in (mode.AskingClock d) asks (event.Request r) h o = refl
no_request_in mode.AskingSeed asks (event.Request r) h o = refl
no_request_in mode.Halted asks (event.Request r) h o = let i : ◌≡◌ {A = Bool} true false = h in absurd (cc)

-- where the script takes no request, the first effect that it wants is among the others
pub wanted_other : (c : Core) (es : List Event) → wants_requests c ≡ false → find (passes_at (wants c) es) (places_of es) ≡ position (wants c) es
unfolding wants wants_requests
wanted_other c es h = first_other (wants c) es (λ e o. no_request_in c.mode c.asks e h o)
