-- How many bytes of a character that the reader doesn't take begin one that it takes.
use Rattle.std.proofs.Common.{◌≡◌, ◌⊎◌, inl, inr, ℕ, suc, ◌-◌, ◌%◌, ◌<◌, ◌≤◌, nat_le, nat_lt, Bool, true, false, ◌&&◌, ◌||◌, List, [], ◌∷◌, length, take, refl, ap, subst, sym, ◌∙◌, append-nil, arith, None}
use Rattle.std.specs.Prelude.{if◌then◌else◌, encode_utf8}
use Rattle.std.specs.Option.{is_some}
use Rattle.std.specs.List.{list_all}
use Rattle.std.proofs.lemmas.Bool.{and_parts, and_from, or_cases, leb-true, leb-false, le-leb, ltb-true, ltb-false, eqb-true, eq-eqb}
use Rattle.std.proofs.lemmas.Str.{encode_same}
use Rattle.pws_tree.specs.Characters.{is_in, is_name_char, meets, xml_ranges, name_start_ranges, name_more_ranges}
use Rattle.pws_mark.specs.ReaderLaws.{BeginsTaken, Shares}
use Rattle.pws_mark.specs.Scan.{step}
use Rattle.pws_mark.specs.States.{State}
use Rattle.pws_mark.specs.Stopping.{is_among, has_between, has_alike, TakesBeyond, shared_of_two, shared_of_three, shared_of_four, SharedTells}
use Rattle.pws_mark.specs.declared.stopping.BeyondAscii.{BeyondAscii}
use Rattle.pws_mark.specs.declared.stopping.BeyondAscii.TheVariants as beyond
use Rattle.pws_mark.proofs.Alike.{Alike, first_from, span_first, span_last, in_one, in_two, in_three, in_four, two_bytes, three_bytes, four_bytes, front_two, front_three, front_three_two, front_four, front_four_two, front_four_three, alike_two, alike_three, alike_three_two, alike_four, alike_four_two, alike_four_three}

either_true : (a b : Bool) → (a ≡ true) ⊎ (b ≡ true) → (a || b) ≡ true
either_true true b h = refl
either_true false b (inl h) = absurd cc
either_true false b (inr h) = h

-- ranges that are met

record Met (p : ℕ → Bool) (first last : ℕ) : Type 0 where
  char : ℕ
  is : p char ≡ true
  from : first ≤ char
  to : char ≤ last

abbrev are_ordered : List (ℕ × ℕ) → Bool
are_ordered ranges = list_all (λ r. nat_le r.0 r.1) ranges

one_met : (low high first last : ℕ) → low ≤ high → first ≤ last → low ≤ last → first ≤ high → Met (λ c. nat_le low c && nat_le c high) first last
one_met low high first last a b d e = by (nat_le low first) (leb-true low first) (leb-false low first)
  where
    by : (t : Bool) → (t ≡ true → low ≤ first) → (t ≡ false → first < low) → Met (λ c. nat_le low c && nat_le c high) first last
    by true f g = record { char = first; is = and_from (nat_le low first) (nat_le first high) (le-leb low first (f refl)) (le-leb first high e); from = omega arith; to = b }
    by false f g = let less = g refl in record { char = low; is = and_from (nat_le low low) (nat_le low high) (le-leb low low (omega arith)) (le-leb low high a); from = omega arith; to = d }

ranges_met : (ranges : List (ℕ × ℕ)) (first last : ℕ) → are_ordered ranges ≡ true → first ≤ last → meets ranges first last ≡ true → Met (is_in ranges) first last
ranges_met [] first last ordered span h = absurd cc
ranges_met (r ∷ rs) first last ordered span h =
    let parts = and_parts (nat_le r.0 r.1) (are_ordered rs) ordered in
    by (or_cases (nat_le r.0 last && nat_le first r.1) (meets rs first last) h) (leb-true r.0 r.1 parts.0) (ranges_met rs first last parts.1 span)
  where
    here : Met (λ c. nat_le r.0 c && nat_le c r.1) first last → Met (is_in (r ∷ rs)) first last
    here m = record { char = m.char; is = either_true (nat_le r.0 m.char && nat_le m.char r.1) (is_in rs m.char) (inl m.is); from = m.from; to = m.to }

    by : ((nat_le r.0 last && nat_le first r.1) ≡ true) ⊎ (meets rs first last ≡ true) → r.0 ≤ r.1 → (meets rs first last ≡ true → Met (is_in rs) first last) → Met (is_in (r ∷ rs)) first last
    by (inl e) low again = let both = and_parts (nat_le r.0 last) (nat_le first r.1) e in here (one_met r.0 r.1 first last low span (leb-true r.0 last both.0) (leb-true first r.1 both.1))
    by (inr e) low again = let m = again e in record { char = m.char; is = either_true (nat_le r.0 m.char && nat_le m.char r.1) (is_in rs m.char) (inr m.is); from = m.from; to = m.to }

meets_at : (ranges : List (ℕ × ℕ)) (first last c : ℕ) → first ≤ c → c ≤ last → is_in ranges c ≡ true → meets ranges first last ≡ true
meets_at [] first last c a b h = absurd cc
meets_at (r ∷ rs) first last c a b h = either_true (nat_le r.0 last && nat_le first r.1) (meets rs first last) (by (or_cases (nat_le r.0 c && nat_le c r.1) (is_in rs c) h) (meets_at rs first last c a b))
  where
    by : ((nat_le r.0 c && nat_le c r.1) ≡ true) ⊎ (is_in rs c ≡ true) → (is_in rs c ≡ true → meets rs first last ≡ true) → ((nat_le r.0 last && nat_le first r.1) ≡ true) ⊎ (meets rs first last ≡ true)
    by (inl e) again =
        let both = and_parts (nat_le r.0 c) (nat_le c r.1) e in
        let low : r.0 ≤ c = leb-true r.0 c both.0 in
        let high : c ≤ r.1 = leb-true c r.1 both.1 in
        inl (and_from (nat_le r.0 last) (nat_le first r.1) (le-leb r.0 last (omega arith)) (le-leb first r.1 (omega arith)))
    by (inr e) again = inr (again e)

starts_ordered : are_ordered name_start_ranges ≡ true
unfolding name_start_ranges
starts_ordered = refl

more_ordered : are_ordered name_more_ranges ≡ true
unfolding name_more_ranges
more_ordered = refl

xml_ordered : are_ordered xml_ranges ≡ true
unfolding xml_ranges
xml_ordered = refl

-- sets that are met

set_met : (b : BeyondAscii) (first last : ℕ) → first ≤ last → has_between b first last ≡ true → Met (is_among b) first last
set_met beyond.Nothing first last span h = absurd cc
set_met (beyond.One d) first last span h =
    let both = and_parts (nat_le first d) (nat_le d last) h in
    record { char = d; is = eq-eqb d d refl; from = leb-true first d both.0; to = leb-true d last both.1 }
set_met beyond.NameStarts first last span h = ranges_met name_start_ranges first last starts_ordered span h
set_met beyond.NameChars first last span h = by (or_cases (meets name_start_ranges first last) (meets name_more_ranges first last) h)
  where
    by : (meets name_start_ranges first last ≡ true) ⊎ (meets name_more_ranges first last ≡ true) → Met is_name_char first last
    by (inl e) = let m = ranges_met name_start_ranges first last starts_ordered span e in record { char = m.char; is = either_true (is_in name_start_ranges m.char) (is_in name_more_ranges m.char) (inl m.is); from = m.from; to = m.to }
    by (inr e) = let m = ranges_met name_more_ranges first last more_ordered span e in record { char = m.char; is = either_true (is_in name_start_ranges m.char) (is_in name_more_ranges m.char) (inr m.is); from = m.from; to = m.to }
set_met beyond.XmlChars first last span h = ranges_met xml_ranges first last xml_ordered span h

set_meets : (b : BeyondAscii) (first last c : ℕ) → first ≤ c → c ≤ last → is_among b c ≡ true → has_between b first last ≡ true
set_meets beyond.Nothing first last c f l h = h
set_meets (beyond.One d) first last c f l h =
    let same : c ≡ d = eqb-true c d h in
    and_from (nat_le first d) (nat_le d last) (le-leb first d (omega arith)) (le-leb d last (omega arith))
set_meets beyond.NameStarts first last c f l h = meets_at name_start_ranges first last c f l h
set_meets beyond.NameChars first last c f l h = either_true (meets name_start_ranges first last) (meets name_more_ranges first last) (by (or_cases (is_in name_start_ranges c) (is_in name_more_ranges c) h))
  where
    by : (is_in name_start_ranges c ≡ true) ⊎ (is_in name_more_ranges c ≡ true) → (meets name_start_ranges first last ≡ true) ⊎ (meets name_more_ranges first last ≡ true)
    by (inl e) = inl (meets_at name_start_ranges first last c f l e)
    by (inr e) = inr (meets_at name_more_ranges first last c f l e)
set_meets beyond.XmlChars first last c f l h = meets_at xml_ranges first last c f l h

-- beginnings of characters that are taken

above : (least count c d : ℕ) → 128 ≤ least → span_first least count c ≤ d → 128 ≤ d
above least count c d high first = let low = (first_from least (c - c % count) d first).0 in omega arith

taken_so : (s : State) (b : BeyondAscii) (least count c : ℕ) (front : List ℕ) → TakesBeyond s b → Alike least count c front → has_alike b least count c ≡ true → BeginsTaken s front
taken_so s b least count c front takes alike h =
    let m = set_met b (span_first least count c) (span_last count c) alike.ordered h in
    let there = alike.from m.char (record { first = m.from; last = m.to }) in
    record { char = m.char; takes = takes m.char (above least count c m.char alike.high m.from) ∙ m.is; rest = there.0; bytes = there.1 }

not_so : (s : State) (b : BeyondAscii) (least count c : ℕ) (front : List ℕ) → TakesBeyond s b → Alike least count c front → has_alike b least count c ≡ false → BeginsTaken s front → ⊥
not_so s b least count c front takes alike h begins =
    let i = alike.to begins.char begins.rest begins.bytes in
    let is : is_among b begins.char ≡ true = sym (takes begins.char (above least count c begins.char alike.high i.first)) ∙ begins.takes in
    let bad : true ≡ false = sym (set_meets b (span_first least count c) (span_last count c) begins.char i.first i.last is) ∙ h in
    cc

not_whole : (s : State) (c : ℕ) → step s c ≡ None → BeginsTaken s (encode_utf8 c) → ⊥
not_whole s c none begins =
    let same : begins.char ≡ c = (encode_same begins.char c [] begins.rest (append-nil (encode_utf8 begins.char) ∙ begins.bytes)).0 in
    let bad : false ≡ true = sym (ap is_some none) ∙ (ap (λ z. is_some (step s z)) (sym same) ∙ begins.takes) in
    cc

-- the number of bytes, by what is known of the fronts

shares_none : (s : State) (c : ℕ) (bytes : List ℕ) → encode_utf8 c ≡ bytes → 0 < length bytes → (BeginsTaken s (take 1 bytes) → ⊥) → Shares s c 0
shares_none s c bytes is long most = record {
  within = subst (λ z. 0 < length z) (sym is) long;
  some = inl refl;
  most = λ begins. most (subst (λ z. BeginsTaken s (take 1 z)) is begins);
}

shares_some : (s : State) (c k : ℕ) (bytes : List ℕ) → encode_utf8 c ≡ bytes → k < length bytes → BeginsTaken s (take k bytes) → (BeginsTaken s (take (suc k) bytes) → ⊥) → Shares s c k
shares_some s c k bytes is long some most = record {
  within = subst (λ z. k < length z) (sym is) long;
  some = inr (subst (λ z. BeginsTaken s (take k z)) (sym is) some);
  most = λ begins. most (subst (λ z. BeginsTaken s (take (suc k) z)) is begins);
}

whole_at : (s : State) (c : ℕ) (bytes : List ℕ) → encode_utf8 c ≡ bytes → step s c ≡ None → BeginsTaken s bytes → ⊥
whole_at s c bytes is none begins = not_whole s c none (subst (λ z. BeginsTaken s z) (sym is) begins)

of_one : (s : State) (c : ℕ) → step s c ≡ None → c < 128 → Shares s c 0
of_one s c none h = shares_none s c (c ∷ []) (in_one c h) (omega arith) (whole_at s c (c ∷ []) (in_one c h) none)

of_two : (s : State) (b : BeyondAscii) (c : ℕ) → TakesBeyond s b → step s c ≡ None → 128 ≤ c → c < 2048 → Shares s c (shared_of_two b c)
of_two s b c takes none l h = by (has_alike b 0x80 64 c) (taken_so s b 128 64 c (front_two c) takes (alike_two c l h)) (not_so s b 128 64 c (front_two c) takes (alike_two c l h))
  where
    by : (t : Bool) → (t ≡ true → BeginsTaken s (front_two c)) → (t ≡ false → BeginsTaken s (front_two c) → ⊥) → Shares s c (if t then 1 else 0)
    by true f g = shares_some s c 1 (two_bytes c) (in_two c l h) (omega arith) (f refl) (whole_at s c (two_bytes c) (in_two c l h) none)
    by false f g = shares_none s c (two_bytes c) (in_two c l h) (omega arith) (g refl)

of_three : (s : State) (b : BeyondAscii) (c : ℕ) → TakesBeyond s b → step s c ≡ None → 2048 ≤ c → c < 65536 → Shares s c (shared_of_three b c)
of_three s b c takes none l h =
    by (has_alike b 0x800 64 c) (has_alike b 0x800 4096 c) (taken_so s b 2048 64 c (front_three_two c) takes (alike_three_two c l h)) (not_so s b 2048 64 c (front_three_two c) takes (alike_three_two c l h))
    (taken_so s b 2048 4096 c (front_three c) takes (alike_three c l h)) (not_so s b 2048 4096 c (front_three c) takes (alike_three c l h))
  where
    by : (t u : Bool) → (t ≡ true → BeginsTaken s (front_three_two c)) → (t ≡ false → BeginsTaken s (front_three_two c) → ⊥) → (u ≡ true → BeginsTaken s (front_three c)) → (u ≡ false → BeginsTaken s (front_three c) → ⊥)
        → Shares s c (if t then 2 else if u then 1 else 0)
    by true u f g p q = shares_some s c 2 (three_bytes c) (in_three c l h) (omega arith) (f refl) (whole_at s c (three_bytes c) (in_three c l h) none)
    by false true f g p q = shares_some s c 1 (three_bytes c) (in_three c l h) (omega arith) (p refl) (g refl)
    by false false f g p q = shares_none s c (three_bytes c) (in_three c l h) (omega arith) (q refl)

of_four : (s : State) (b : BeyondAscii) (c : ℕ) → TakesBeyond s b → step s c ≡ None → 65536 ≤ c → Shares s c (shared_of_four b c)
of_four s b c takes none l =
    by (has_alike b 0x10000 64 c) (has_alike b 0x10000 4096 c) (has_alike b 0x10000 262144 c)
    (taken_so s b 65536 64 c (front_four_three c) takes (alike_four_three c l)) (not_so s b 65536 64 c (front_four_three c) takes (alike_four_three c l))
    (taken_so s b 65536 4096 c (front_four_two c) takes (alike_four_two c l)) (not_so s b 65536 4096 c (front_four_two c) takes (alike_four_two c l))
    (taken_so s b 65536 262144 c (front_four c) takes (alike_four c l)) (not_so s b 65536 262144 c (front_four c) takes (alike_four c l))
  where
    by : (t u v : Bool) → (t ≡ true → BeginsTaken s (front_four_three c)) → (t ≡ false → BeginsTaken s (front_four_three c) → ⊥) → (u ≡ true → BeginsTaken s (front_four_two c)) → (u ≡ false → BeginsTaken s (front_four_two c) → ⊥)
        → (v ≡ true → BeginsTaken s (front_four c)) → (v ≡ false → BeginsTaken s (front_four c) → ⊥) → Shares s c (if t then 3 else if u then 2 else if v then 1 else 0)
    by true u v f g p q x y = shares_some s c 3 (four_bytes c) (in_four c l) (omega arith) (f refl) (whole_at s c (four_bytes c) (in_four c l) none)
    by false true v f g p q x y = shares_some s c 2 (four_bytes c) (in_four c l) (omega arith) (p refl) (g refl)
    by false false true f g p q x y = shares_some s c 1 (four_bytes c) (in_four c l) (omega arith) (x refl) (q refl)
    by false false false f g p q x y = shares_none s c (four_bytes c) (in_four c l) (omega arith) (y refl)

pub shared_tells : SharedTells
shared_tells s b c takes none =
    by (nat_lt c 0x80) (nat_lt c 0x800) (nat_lt c 0x10000) (ltb-true c 0x80) (ltb-false c 0x80) (ltb-true c 0x800) (ltb-false c 0x800) (ltb-true c 0x10000) (ltb-false c 0x10000)
  where
    by : (t u v : Bool) → (t ≡ true → c < 0x80) → (t ≡ false → 0x80 ≤ c) → (u ≡ true → c < 0x800) → (u ≡ false → 0x800 ≤ c) → (v ≡ true → c < 0x10000) → (v ≡ false → 0x10000 ≤ c)
        → Shares s c (if t then 0 else if u then shared_of_two b c else if v then shared_of_three b c else shared_of_four b c)
    by true u v f g p q x y = of_one s c none (f refl)
    by false true v f g p q x y = of_two s b c takes none (g refl) (p refl)
    by false false true f g p q x y = of_three s b c takes none (q refl) (x refl)
    by false false false f g p q x y = of_four s b c takes none (y refl)
