-- What reading answers is what the reader finds, character by character.
use Rattle.std.proofs.Common.{◌≡◌, ℕ, ◌+◌, ◌≤◌, Bool, true, false, cond, List, [], ◌∷◌, ◌++◌, map, fold, length, refl, ap, sym, ◌∙◌, subst, arith, Option, Some, None, append-nil, append_assoc, length-append}
use Rattle.std.specs.Prelude.{Ok, Err, chars, encode_utf8, encode_utf8_all}
use Rattle.std.specs.Str.{IsUtf8, all_scalars, is_utf8, bytes_eq}
use Rattle.std.proofs.lemmas.Bool.{and_parts}
use Rattle.std.proofs.lemmas.List.{map-append}
use Rattle.std.proofs.lemmas.List.Sums.{fold-append}
use Rattle.std.proofs.lemmas.Str.{encodes-append, encodes-chars, is_utf8-from_IsUtf8, chars_past_char, chars-nil}
use Rattle.pws_tree.specs.Trees.{Tree}
use Rattle.pws_mark.specs.Causes.{IsCause, IsLeastCause}
use Rattle.pws_mark.specs.Frames.{MayBuild}
use Rattle.pws_mark.specs.Least.{error_of, comes_before, lower, lowered}
use Rattle.pws_mark.specs.Noted.{finds, noted, noted_at, then_noted}
use Rattle.pws_mark.specs.Outcome.{found, find_of, stop_finds, AreCauses}
use Rattle.pws_mark.specs.ReaderLaws.{Shares, Builds}
use Rattle.pws_mark.specs.Reading.{Refuses, Reads, Means}
use Rattle.pws_mark.specs.Scan.{step, run, then_run, start, is_whole}
use Rattle.pws_mark.specs.Scanning.{Scanned, Steps}
use Rattle.pws_mark.specs.States.{State}
use Rattle.pws_mark.specs.Stopping.{StandsAt}
use Rattle.pws_mark.specs.Taken.{HasTaken, Stops}
use Rattle.pws_mark.specs.declared.errors.MarkError.{MarkError}
use Rattle.pws_mark.specs.declared.errors.MarkKind.{MarkKind}
use Rattle.pws_mark.specs.declared.errors.MarkKind.TheVariants as kind
use Rattle.pws_mark.specs.declared.errors.ReadError.TheVariants as read_error
use Rattle.pws_mark.specs.declared.stopping.Stand.{Stand}
use Rattle.pws_mark.proofs.Counted.{places_count}
use Rattle.pws_mark.proofs.Going.{run_append, noted_append}
use Rattle.pws_mark.proofs.LawfulMeaning.{meanings}
use Rattle.pws_mark.proofs.Outcome.{stops_tell, ends_tell}
use Rattle.pws_mark.proofs.OutcomeEnds.{ends_mean, ends_build}
use Rattle.pws_mark.proofs.OutcomeLeast.{least_tells}
use Rattle.pws_mark.proofs.Placed.{runs_are_placed}
use Rattle.pws_mark.proofs.StandingBegins.{runs_begin}

-- the characters of UTF-8
scalars_are : (bytes : List ℕ) → IsUtf8 bytes → all_scalars (chars bytes) ≡ true
unfolding is_utf8
scalars_are bytes u = (and_parts (all_scalars (chars bytes)) (bytes_eq (encode_utf8_all (chars bytes)) bytes) (is_utf8-from_IsUtf8 bytes u)).0

-- one character more
pub run_one : (s t : State) (c : ℕ) → step s c ≡ Some t → run s (c ∷ []) ≡ Some t
unfolding run
run_one s t c h = ap (λ z. then_run z (λ u. run u [])) h

quiet : (n : Option State) → then_noted n (λ t. noted t []) ≡ []
unfolding noted
quiet None = refl
quiet (Some t) = refl

again : (end : ℕ) (fs : List (MarkKind × ℕ)) → map find_of (map (λ f. record { kind = f.0; at = f.1; end = end }) fs) ≡ fs
again end [] = refl
again end (f ∷ fs) = ap (λ gs. f ∷ gs) (again end fs)

noted_one : (s : State) (c : ℕ) → noted s (c ∷ []) ≡ noted_at s c
unfolding noted
noted_one s c = ap (λ z. noted_at s c ++ z) (quiet (step s c)) ∙ append-nil (noted_at s c)

found_one : (front : List ℕ) (s : State) (c : ℕ) → run start front ≡ Some s → found (front ++ c ∷ []) ≡ found front ++ finds s.mode s.outer c
unfolding found
found_one front s c runs =
    ap (map find_of) (noted_append start front (c ∷ []) ∙ ap (λ z. noted start front ++ then_noted z (λ t. noted t (c ∷ []))) runs)
    ∙ (map-append find_of (noted start front) (noted s (c ∷ []))
    ∙ ap (λ z. map find_of (noted start front) ++ z) (ap (map find_of) (noted_one s c) ∙ again (s.at + length (encode_utf8 c)) (finds s.mode s.outer c)))

pub lowered_append : (least : Option MarkError) (xs ys : List (MarkKind × ℕ)) → lowered least (xs ++ ys) ≡ lowered (lowered least xs) ys
unfolding lowered
lowered_append least xs ys = fold-append lower least xs ys

pub begins : (bytes : List ℕ) (s : Scanned) → s ≡ record { state = start; least = None } → HasTaken (chars bytes) (chars bytes) s
unfolding run found noted lowered
begins bytes s e = record { front = []; parts = refl; runs = ap (λ z. Some z.state) (sym e); notes = ap (λ z. z.least) e }

pub goes_on : (all bs rest : List ℕ) (c : ℕ) (old new : Scanned) → IsUtf8 bs → bs ≡ encode_utf8 c ++ rest → HasTaken all (chars bs) old → Steps old c true new → HasTaken all (chars rest) new
goes_on all bs rest c old new u e h s =
    let next : chars bs ≡ c ∷ chars rest = chars_past_char bs rest c u e in record {
      front = h.front ++ c ∷ [];
      parts = h.parts ∙ (ap (λ cs. h.front ++ cs) next ∙ sym (append_assoc h.front (c ∷ []) (chars rest)));
      runs = run_append start h.front (c ∷ []) ∙ (ap (λ z. then_run z (λ t. run t (c ∷ []))) h.runs ∙ run_one old.state new.state c s.0);
      notes = s.1
          ∙ (ap (λ l. lowered l (finds old.state.mode old.state.outer c)) h.notes
          ∙ (sym (lowered_append None (found h.front) (finds old.state.mode old.state.outer c))
          ∙ ap (lowered None) (sym (found_one h.front old.state c h.runs))));
    }

-- the place behind it is within the text
pub fits : (bytes bs rest : List ℕ) (c : ℕ) (s : Scanned) → IsUtf8 bytes → length bytes ≤ 32768 → IsUtf8 bs → bs ≡ encode_utf8 c ++ rest → HasTaken (chars bytes) (chars bs) s → s.state.at + length (encode_utf8 c) ≤ 32768
fits bytes bs rest c s utf8 short u e h =
    let next : chars bs ≡ c ∷ chars rest = chars_past_char bs rest c u e in
    let whole : bytes ≡ encode_utf8_all h.front ++ (encode_utf8 c ++ encode_utf8_all (chars rest)) =
    sym (encodes-chars bytes utf8) ∙ (ap encode_utf8_all (h.parts ∙ ap (λ cs. h.front ++ cs) next) ∙ encodes-append h.front (c ∷ chars rest)) in
    omega (arith, short, places_count h.front s.state h.runs, ap length whole, length-append (encode_utf8_all h.front) (encode_utf8 c ++ encode_utf8_all (chars rest)), length-append (encode_utf8 c) (encode_utf8_all (chars rest)))

pub stays_within : (bytes : List ℕ) (s : Scanned) → IsUtf8 bytes → length bytes ≤ 32768 → HasTaken (chars bytes) [] s → s.state.at ≤ 32768
stays_within bytes s utf8 short h =
    let whole : bytes ≡ encode_utf8_all h.front = sym (encodes-chars bytes utf8) ∙ ap encode_utf8_all (h.parts ∙ append-nil h.front) in
    omega (arith, short, places_count h.front s.state h.runs, ap length whole)

-- what refuses a text is neither its size nor that it isn't UTF-8
least_refuses : (bytes : List ℕ) (e : MarkError) → length bytes ≤ 32768 → IsUtf8 bytes → IsLeastCause bytes e → Reads bytes (Err (read_error.Mark e))
least_refuses bytes e short utf8 least = by e.kind least.cause
  where
    by : (k : MarkKind) → IsCause bytes k e.at → Refuses bytes e k
    by kind.Size h = absurd h
    by kind.Utf8 h = absurd h
    by kind.Doctype h = (short, utf8, least)
    by kind.Instruction h = (short, utf8, least)
    by kind.Depth h = (short, utf8, least)
    by kind.Prefix h = (short, utf8, least)
    by kind.Twice h = (short, utf8, least)
    by kind.Entity h = (short, utf8, least)
    by kind.Syntax h = (short, utf8, least)

pub refused_by : (bytes : List ℕ) (fs : List (MarkKind × ℕ)) (e : MarkError) → length bytes ≤ 32768 → IsUtf8 bytes → AreCauses bytes fs → lowered None fs ≡ Some e → Reads bytes (Err (read_error.Mark e))
refused_by bytes fs e short utf8 causes is = least_refuses bytes e short utf8 (least_tells bytes fs e causes is)

-- the reader stops at a character
pub stops_at : (bytes bs rest : List ℕ) (c k : ℕ) (s : Scanned) (least : Option MarkError) (stand : Stand) (e : MarkError) → IsUtf8 bytes → length bytes ≤ 32768 → IsUtf8 bs → bs ≡ encode_utf8 c ++ rest → HasTaken (chars bytes) (chars bs) s
    → StandsAt stand s.state → step s.state c ≡ None → Shares s.state c k → least ≡ s.least → Stops least stand bytes s.state.at k e → Reads bytes (Err (read_error.Mark e))
stops_at bytes bs rest c k s least stand e utf8 short u spelled h stands fails shares kept stops =
    let parts : chars bytes ≡ h.front ++ c ∷ chars rest = h.parts ∙ ap (λ cs. h.front ++ cs) (chars_past_char bs rest c u spelled) in
    let scalars : all_scalars (h.front ++ c ∷ chars rest) ≡ true = ap all_scalars (sym parts) ∙ scalars_are bytes utf8 in
    let same : encode_utf8_all (h.front ++ c ∷ chars rest) ≡ bytes = ap encode_utf8_all (sym parts) ∙ encodes-chars bytes utf8 in
    let causes : AreCauses bytes (found h.front ++ (stop_finds s.state bytes ++ (kind.Syntax, s.state.at + k) ∷ [])) =
    subst (λ b. AreCauses b (found h.front ++ (stop_finds s.state b ++ (kind.Syntax, s.state.at + k) ∷ []))) same
    (stops_tell runs_begin runs_are_placed h.front (c ∷ chars rest) s.state k scalars h.runs (fails, shares)) in
    let tail : List (MarkKind × ℕ) = stop_finds s.state bytes ++ (kind.Syntax, s.state.at + k) ∷ [] in
    let is : lowered None (found h.front ++ tail) ≡ Some e =
    lowered_append None (found h.front) tail ∙ (ap (λ l. lowered l tail) (sym (kept ∙ h.notes)) ∙ stops s.state stands refl) in
    refused_by bytes (found h.front ++ tail) e short utf8 causes is

-- or at the end
whole_front : (bytes : List ℕ) (s : Scanned) (h : HasTaken (chars bytes) [] s) → IsUtf8 bytes → encode_utf8_all h.front ≡ bytes
whole_front bytes s h utf8 = ap encode_utf8_all (sym (h.parts ∙ append-nil h.front)) ∙ encodes-chars bytes utf8

pub stops_short : (bytes : List ℕ) (s : Scanned) (least : Option MarkError) (stand : Stand) (e : MarkError) → IsUtf8 bytes → length bytes ≤ 32768 → HasTaken (chars bytes) [] s
    → StandsAt stand s.state → is_whole s.state ≡ false → least ≡ s.least → Stops least stand bytes s.state.at 0 e → Reads bytes (Err (read_error.Mark e))
stops_short bytes s least stand e utf8 short h stands part kept stops =
    let scalars : all_scalars (h.front ++ []) ≡ true = ap all_scalars (sym h.parts) ∙ scalars_are bytes utf8 in
    let same : encode_utf8_all (h.front ++ []) ≡ bytes = ap encode_utf8_all (sym h.parts) ∙ encodes-chars bytes utf8 in
    let causes : AreCauses bytes (found h.front ++ (stop_finds s.state bytes ++ (kind.Syntax, s.state.at + 0) ∷ [])) =
    subst (λ b. AreCauses b (found h.front ++ (stop_finds s.state b ++ (kind.Syntax, s.state.at + 0) ∷ []))) same
    (stops_tell runs_begin runs_are_placed h.front [] s.state 0 scalars h.runs (part, refl)) in
    let tail : List (MarkKind × ℕ) = stop_finds s.state bytes ++ (kind.Syntax, s.state.at + 0) ∷ [] in
    let is : lowered None (found h.front ++ tail) ≡ Some e =
    lowered_append None (found h.front) tail ∙ (ap (λ l. lowered l tail) (sym (kept ∙ h.notes)) ∙ stops s.state stands refl) in
    refused_by bytes (found h.front ++ tail) e short utf8 causes is

-- a text that may end there
front_scalars : (bytes : List ℕ) (s : Scanned) (h : HasTaken (chars bytes) [] s) → IsUtf8 bytes → all_scalars h.front ≡ true
front_scalars bytes s h utf8 = ap all_scalars (sym (h.parts ∙ append-nil h.front)) ∙ scalars_are bytes utf8

pub refused_whole : (bytes : List ℕ) (s : Scanned) (e : MarkError) → IsUtf8 bytes → length bytes ≤ 32768 → HasTaken (chars bytes) [] s → is_whole s.state ≡ true → s.least ≡ Some e → Reads bytes (Err (read_error.Mark e))
refused_whole bytes s e utf8 short h whole is =
    let causes : AreCauses bytes (found h.front) =
    subst (λ b. AreCauses b (found h.front)) (whole_front bytes s h utf8) (ends_tell runs_begin runs_are_placed h.front s.state (front_scalars bytes s h utf8) h.runs whole) in
    refused_by bytes (found h.front) e short utf8 causes (sym h.notes ∙ is)

stays_some : (e : MarkError) (fs : List (MarkKind × ℕ)) → fold lower (Some e) fs ≡ None → ⊥
stays_some e [] h = cc
stays_some e (f ∷ fs) h = by (comes_before f e) (stays_some (error_of f) fs) (stays_some e fs) h
  where
    by : (t : Bool) → (fold lower (Some (error_of f)) fs ≡ None → ⊥) → (fold lower (Some e) fs ≡ None → ⊥) → fold lower (cond t (Some (error_of f)) (Some e)) fs ≡ None → ⊥
    by true one other g = one g
    by false one other g = other g

nothing_found : (fs : List (MarkKind × ℕ)) → lowered None fs ≡ None → fs ≡ []
unfolding lowered
nothing_found [] h = refl
nothing_found (f ∷ fs) h = absurd (stays_some (error_of f) fs h)

nothing_wrong : (bytes : List ℕ) (s : Scanned) (h : HasTaken (chars bytes) [] s) → s.least ≡ None → found h.front ≡ []
nothing_wrong bytes s h is = nothing_found (found h.front) (sym h.notes ∙ is)

pub may_build : (bytes : List ℕ) (s : Scanned) → IsUtf8 bytes → HasTaken (chars bytes) [] s → is_whole s.state ≡ true → s.least ≡ None → MayBuild s.state.outer.events
may_build bytes s utf8 h whole is =
    let b = ends_build runs_begin meanings h.front s.state (front_scalars bytes s h utf8) h.runs whole (nothing_wrong bytes s h is) in
    record { whole = record { tree = b.0; is = record { is = b.1 }; lawful = b.2 } }

pub means_whole : (bytes : List ℕ) (s : Scanned) (t : Tree) → IsUtf8 bytes → length bytes ≤ 32768 → HasTaken (chars bytes) [] s → is_whole s.state ≡ true → s.least ≡ None → Builds s.state.outer.events t → Reads bytes (Ok t)
means_whole bytes s t utf8 short h whole is builds =
    (short, utf8, subst (λ b. Means b t) (whole_front bytes s h utf8) (ends_mean runs_begin h.front s.state t (front_scalars bytes s h utf8) h.runs whole (nothing_wrong bytes s h is) builds))

-- nothing is left
pub all_taken : (all bs : List ℕ) (s : Scanned) → length bs ≡ 0 → HasTaken all (chars bs) s → HasTaken all [] s
all_taken all [] s e h = subst (λ cs. HasTaken all cs s) chars-nil h
all_taken all (b ∷ bs) s e h = absurd (omega (arith, e))

-- a refusal is noted last
pub noted_last : (least before last : Option MarkError) (stand : Stand) (bytes : List ℕ) (at k : ℕ) (e : MarkError)
    → ((s : State) → StandsAt stand s → s.at ≡ at → before ≡ lowered least (stop_finds s bytes)) → last ≡ lower before (kind.Syntax, at + k) → last ≡ Some e → Stops least stand bytes at k e
unfolding lowered
noted_last least before last stand bytes at k e stop note is = λ s stands place.
    lowered_append least (stop_finds s bytes) ((kind.Syntax, at + k) ∷ [])
    ∙ (ap (λ l. lower l (kind.Syntax, at + k)) (sym (stop s stands place)) ∙ (sym note ∙ is))

-- the bytes that are shared are some of the character's
pub shared_fits : (bytes bs rest : List ℕ) (c k at : ℕ) (s : Scanned) → IsUtf8 bytes → length bytes ≤ 32768 → IsUtf8 bs → bs ≡ encode_utf8 c ++ rest → HasTaken (chars bytes) (chars bs) s → at ≡ s.state.at → Shares s.state c k → at + k ≤ 32768
shared_fits bytes bs rest c k at s utf8 short u e h is shares = omega (arith, is, shares.within, fits bytes bs rest c s utf8 short u e h)

pub taken_shares : (all rest : List ℕ) (c k : ℕ) (s : Scanned) (stand : Stand) → HasTaken all rest s → StandsAt stand s.state → step s.state c ≡ None → ((front : List ℕ) (t : State) → run start front ≡ Some t → StandsAt stand t → step t c ≡ None → Shares t c k) → Shares s.state c k
taken_shares all rest c k s stand h stands fails shares = shares h.front s.state h.runs stands fails

-- a character isn't taken, or it is
pub fails_by : (old new : Scanned) (c : ℕ) (b : Bool) → b ≡ false → Steps old c b new → (step old.state c ≡ None) × (new.least ≡ old.least)
fails_by old new c true e h = cc
fails_by old new c false e h = h

pub goes_by : (old new : Scanned) (c : ℕ) (b : Bool) → b ≡ true → Steps old c b new → Steps old c true new
goes_by old new c true e h = h
goes_by old new c false e h = cc

pub stops_so : (bytes text : List ℕ) (at place k : ℕ) (least : Option MarkError) (stand : Stand) (e : MarkError) → text ≡ bytes → at ≡ place → Stops least stand text at k e → Stops least stand bytes place k e
stops_so bytes text at place k least stand e same is h = subst (λ a. Stops least stand bytes a k e) is (subst (λ b. Stops least stand b at k e) same h)

pub begins_loop : (bytes bs : List ℕ) (s : Scanned) → IsUtf8 bytes → bs ≡ bytes → s ≡ record { state = start; least = None } → IsUtf8 bs × HasTaken (chars bytes) (chars bs) s
begins_loop bytes bs s u same e = (subst IsUtf8 (sym same) u, subst (λ b. HasTaken (chars bytes) (chars b) s) (sym same) (begins bytes s e))
