-- What is accepted as a view is entered, and why the view changes that a NEW_VIEW names are had.
use Rattle.std.proofs.Common.{◌≡◌, ◌⊎◌, inl, inr, ℕ, suc, ◌+◌, ◌-◌, ◌<◌, ◌≤◌, Bool, true, false, cond, List, [], ◌∷◌, map, length, Option, Some, None, Contains, refl, sym, ◌∙◌, ap, subst, arith, max, nat_lt, nat_le, not, ◌&&◌, ◌||◌, slice_index_or, ◌==◌}
use Rattle.std.specs.Option.{option_map, option_map_or, option_or, option_and_then}
use Rattle.std.specs.Ordering.{nat_cmp}
use Rattle.std.specs.Str.{bytes_eq}
use Rattle.std.specs.FinMap.{FinMap, get, insert, empty, get-empty}
use Rattle.std.proofs.lemmas.Bool.{and_parts, ltb-true, eqb-true, eqb-false, leb-true, not-true, or_cases, cases_eq, cases_lt}
use Rattle.std.proofs.lemmas.Cmp.{nat_cmp_total}
use Rattle.std.proofs.lemmas.Map.Lookups.{exact_unsigned}
use Rattle.pws_base.specs.Counts.{count_below}
use Rattle.pws_base.specs.Places.{is_in_window}
use Rattle.pws_base.specs.Shapes.{size_of_group}
use Rattle.pws_base.proofs.Maps.{put_cases, put_here, put_other}
use Rattle.pws_base.proofs.Members.{nowhere, here, there, first_or_rest, map_has, has_map, filter_has}
use Rattle.pws_msg.specs.declared.changes.Choice.{Choice}
use Rattle.pws_msg.specs.declared.changes.Named.{Named}
use Rattle.pws_msg.specs.declared.changes.NewView.{NewView}
use Rattle.pws_change.specs.declared.heard.Heard.{Heard}
use Rattle.pws_change.specs.Sets.{is_full}
use Rattle.pws_safety.specs.Statement.{Statement, Prepare, Ack}
use Rattle.pws_safety.specs.Statements.{Sent, Told, Gives, size}
use Rattle.pws_safety.specs.Statements as group
use Rattle.pws_safety.specs.Voters.{IsHad, AcceptsChosen, PreparesChosen}
use Rattle.pws_safety.specs.Voters as safe
use Rattle.pws_protocol.specs.States.{State, Slot, HeldChange, Relayed, primary, new_slot}
use Rattle.pws_protocol.specs.Gathered.{ack_at, acks_for, had_of, with_had, all_had}
use Rattle.pws_protocol.specs.Doing.{placed_from, taken, slots_of, highest_of, prepare_out}
use Rattle.pws_refine.specs.Cores.{slot_of, core_of, statements_in}
use Rattle.pws_refine.specs.Contexts.{Context, IsLawful, IsOf}
use Rattle.pws_refine.specs.Links.{Links}
use Rattle.pws_refine.specs.Ready.{IsInWindow}
use Rattle.pws_refine.proofs.Places.{size_is, primary_is, same_bytes}
use Rattle.pws_refine.proofs.Slots.{seen_by}

-- each chosen digest stands at its place
at_from : (p : ℕ) (ds : List (List ℕ)) (x : ℕ × List ℕ) → Contains (placed_from p ds) x → (p ≤ x.0) × (x.0 < p + length ds) × (slice_index_or ds (x.0 - p) [] ≡ x.1)
at_from p [] x c = absurd (nowhere x c)
at_from p (d ∷ ds) x c =
    elim (first_or_rest (p, d) x (placed_from (p + 1) ds) c) [
      | inl e ↦ subst (λ (y : ℕ × List ℕ). (p ≤ y.0) × (y.0 < p + length (d ∷ ds)) × (slice_index_or (d ∷ ds) (y.0 - p) [] ≡ y.1)) e
          (omega arith, omega arith, let z : p - p ≡ 0 = omega arith in ap (λ k. slice_index_or (d ∷ ds) k []) z)
      | inr r ↦
          let m = at_from (p + 1) ds x r in
          let low = m.0 in
          let high = m.1 in
          let z : x.0 - p ≡ suc (x.0 - (p + 1)) = omega (arith, low) in
          (omega (arith, low), omega (arith, high), ap (λ k. slice_index_or (d ∷ ds) k []) z ∙ m.2)
    ]

-- what is taken is given by the choice, above the low mark
pub taken_is : (s : State) (c : Choice) (x : ℕ × List ℕ) → Contains (taken s c) x → (s.low < x.0) × Gives c x.0 x.1
unfolding taken
taken_is s c x h =
    let f = filter_has (λ (y : ℕ × List ℕ). is_in_window s.low y.0 && not (is_full s.pre_prepared y.0 y.1)) (placed_from (c.place + 1) c.chosen) x h in
    let in' = and_parts (is_in_window s.low x.0) _ f.1 in
    let a = at_from (c.place + 1) c.chosen x f.0 in
    let low = a.0 in
    let high = a.1 in
    (ltb-true s.low x.0 (and_parts (nat_lt s.low x.0) _ in'.0).0, (omega (arith, low), omega (arith, high), a.2))

-- and it is in the window
pub taken_in : (s : State) (c : Choice) (x : ℕ × List ℕ) → Contains (taken s c) x → IsInWindow s.low x.0
unfolding taken
taken_in s c x h =
    let f = filter_has (λ (y : ℕ × List ℕ). is_in_window s.low y.0 && not (is_full s.pre_prepared y.0 y.1)) (placed_from (c.place + 1) c.chosen) x h in
    let within = and_parts (nat_lt s.low x.0) (nat_le x.0 (s.low + 32)) (and_parts (is_in_window s.low x.0) _ f.1).0 in
    (ltb-true s.low x.0 within.0, leb-true x.0 (s.low + 32) within.1)

-- a slot is one of the list's
pub slot_from : (xs : List (ℕ × List ℕ)) (p : ℕ) (t : Slot) → get (slots_of xs) p ≡ Some t → (d : List ℕ) × Contains xs (p, d) × (t ≡ new_slot d)
slot_from [] p t h = absurd (let i : ◌≡◌ {A = Option Slot} None (Some t) = sym (get-empty nat_cmp p) ∙ h in cc)
slot_from (x ∷ xs) p t h =
    elim (put_cases nat_cmp_total exact_unsigned (slots_of xs) x.0 p (new_slot x.1) t h) [
      | inl e ↦ (x.1, subst (λ q. Contains (x ∷ xs) (q, x.1)) (sym e.0) (here x xs), sym e.1)
      | inr r ↦ let m = slot_from xs p t r in (m.0, there x (p, m.0) xs m.1, m.2)
    ]

-- at each place of the list is a slot
slot_there : (xs : List (ℕ × List ℕ)) (p : ℕ) (d : List ℕ) → Contains xs (p, d) → (t : Slot) × (get (slots_of xs) p ≡ Some t)
slot_there [] p d c = absurd (nowhere (p, d) c)
slot_there (x ∷ xs) p d c =
    elim (cases_eq p x.0) [
      | inl e ↦ (new_slot x.1, subst (λ q. get (insert (slots_of xs) x.0 (new_slot x.1)) q ≡ Some (new_slot x.1)) (sym e) (put_here nat_cmp_total (slots_of xs) x.0 (new_slot x.1)))
      | inr n ↦ elim (first_or_rest x (p, d) xs c) [
        | inl h ↦ absurd (n (sym (ap (λ (y : ℕ × List ℕ). y.0) h)))
        | inr r ↦ let m = slot_there xs p d r in (m.0, put_other nat_cmp_total exact_unsigned (slots_of xs) x.0 p (new_slot x.1) n ∙ m.1)
      ]
    ]

highest_above : (xs : List (ℕ × List ℕ)) (x : ℕ × List ℕ) → Contains xs x → x.0 ≤ highest_of xs
highest_above [] x c = absurd (nowhere x c)
highest_above (y ∷ xs) x c =
    elim (first_or_rest y x xs c) [
      | inl e ↦ let z : y.0 ≡ x.0 = ap (λ (w : ℕ × List ℕ). w.0) e in omega (arith, z)
      | inr r ↦ let z = highest_above xs x r in omega (arith, z)
    ]

highest_in : (xs : List (ℕ × List ℕ)) → (highest_of xs ≡ 0) ⊎ ((d : List ℕ) × Contains xs (highest_of xs, d))
highest_in [] = inl refl
highest_in (x ∷ xs) =
    elim (cases_lt (highest_of xs) x.0) [
      | inl l ↦ inr (x.1, let z : x.0 ≡ max x.0 (highest_of xs) = omega (arith, l) in subst (λ q. Contains (x ∷ xs) (q, x.1)) z (here x xs))
      | inr g ↦
          let z : highest_of xs ≡ max x.0 (highest_of xs) = omega (arith, g) in
          elim (highest_in xs) [
            | inl e ↦ inl (sym z ∙ e)
            | inr r ↦ inr (r.0, subst (λ q. Contains (x ∷ xs) (q, r.0)) z (there x (highest_of xs, r.0) xs r.1))
          ]
    ]

-- two digests that a choice gives at a place are one
one_given : (c : Choice) (p : ℕ) (d e : List ℕ) → Gives c p d → Gives c p e → d ≡ e
one_given c p d e x y = sym x.2 ∙ y.2

seen_from : (xs : List (ℕ × List ℕ)) (p : ℕ) (slot : safe.Slot) → seen_by (slots_of xs) p ≡ Some slot → (d : List ℕ) × Contains xs (p, d) × (slot ≡ safe.accepted d)
seen_from xs p slot h = go (get (slots_of xs) p) refl h
  where
    go : (o : Option Slot) → get (slots_of xs) p ≡ o → option_map slot_of o ≡ Some slot → (d : List ℕ) × Contains xs (p, d) × (slot ≡ safe.accepted d)
    go None e k = absurd (let i : ◌≡◌ {A = Option safe.Slot} None (Some slot) = k in cc)
    go (Some t) e k =
        let m = slot_from xs p t e in
        let same : slot_of t ≡ slot = let i : ◌≡◌ {A = Option safe.Slot} (Some (slot_of t)) (Some slot) = k in cc in
        (m.0, m.1, sym same ∙ ap slot_of m.2)

module _ (s : State) (said : List Statement) (new : NewView) where
  pub accepts_chosen : AcceptsChosen (core_of s said) new (seen_by (slots_of (taken s new.choice))) (highest_of (taken s new.choice))
  accepts_chosen = record {
    each = λ place slot h.
        let m = seen_from (taken s new.choice) place slot h in
        let g = taken_is s new.choice (place, m.0) m.1 in
        let digest : m.0 ≡ slot.digest = sym (ap (λ (x : safe.Slot). x.digest) m.2) in
        (g.0, highest_above (taken s new.choice) (place, m.0) m.1, subst (λ d. Gives new.choice place d) digest g.1, m.2 ∙ ap safe.accepted digest);
    highest =
        elim (highest_in (taken s new.choice)) [
          | inl e ↦ inl e
          | inr r ↦ let t = slot_there (taken s new.choice) (highest_of (taken s new.choice)) r.0 r.1 in inr (slot_of t.0, ap (option_map slot_of) t.1)
        ];
  }

  says_are : (xs : List (ℕ × List ℕ)) → statements_in (map (prepare_out s.view) xs) ≡ map (λ x. Prepare s.view x.0 x.1) xs
  says_are [] = refl
  says_are (x ∷ xs) = ap (λ ys. Prepare s.view x.0 x.1 ∷ ys) (says_are xs)

  pub prepares_chosen : PreparesChosen (core_of s said) (seen_by (slots_of (taken s new.choice))) (statements_in (map (prepare_out s.view) (taken s new.choice)))
  prepares_chosen =
      let xs = taken s new.choice in
      let say_of = λ (x : ℕ × List ℕ). Prepare s.view x.0 x.1 in
      record {
        each = λ place slot h.
            let m = seen_from xs place slot h in
            let digest : m.0 ≡ slot.digest = sym (ap (λ (x : safe.Slot). x.digest) m.2) in
            subst (λ ys. Contains ys (Prepare s.view place slot.digest)) (sym (says_are xs))
            (subst (λ d. Contains (map say_of xs) (Prepare s.view place d)) digest (has_map say_of xs (place, m.0) m.1));
        only = λ x c.
            let m = map_has say_of xs x (subst (λ ys. Contains ys x) (says_are xs) c) in
            let t = slot_there xs m.0.0 m.0.1 m.1 in
            let k = slot_from xs m.0.0 t.0 t.1 in
            let same : k.0 ≡ m.0.1 = one_given new.choice m.0.0 k.0 m.0.1 (taken_is s new.choice (m.0.0, k.0) k.1).1 (taken_is s new.choice m.0 m.1).1 in
            let digest : t.0.digest ≡ m.0.1 = ap (λ (y : Slot). y.digest) k.2 ∙ same in
            (m.0.0, slot_of t.0, ap (option_map slot_of) t.1, sym m.2 ∙ ap (λ d. Prepare s.view m.0.0 d) (sym digest));
      }

vouched : (o : Option (List ℕ)) (d : List ℕ) → option_map_or (λ e. bytes_eq e d) o false ≡ true → o ≡ Some d
vouched None d h = absurd (cc)
vouched (Some e) d h = ap Some (same_bytes e d h)

-- what is acknowledged is in a row
ack_row : (s : State) (i j : ℕ) (d : List ℕ) → ack_at s i j ≡ Some d → (row : FinMap nat_cmp (List ℕ)) × (get s.acks i ≡ Some row) × (get row j ≡ Some d)
unfolding ack_at
ack_row s i j d h = go (get s.acks i) refl h
  where
    go : (o : Option (FinMap nat_cmp (List ℕ))) → get s.acks i ≡ o → get (option_map_or (λ row. row) o empty) j ≡ Some d → (row : FinMap nat_cmp (List ℕ)) × (get s.acks i ≡ Some row) × (get row j ≡ Some d)
    go None e k = absurd (let i : ◌≡◌ {A = Option (List ℕ)} None (Some d) = sym (get-empty nat_cmp j) ∙ k in cc)
    go (Some row) e k = (row, e, k)

-- the tests of a change that is had, and what it is then
abbrev is_heard : State → Named → HeldChange → Bool
is_heard s n x = x.change.view == s.view && bytes_eq x.digest n.digest

abbrev heard_by : Named → HeldChange → Heard
heard_by n x = record { index = n.index; digest = n.digest; change = x.change }

abbrev if_heard : State → Named → HeldChange → Option Heard
if_heard s n x = cond (is_heard s n x) (Some (heard_by n x)) None

abbrev is_other : State → Named → ℕ → Bool
is_other s n k = not (k == n.index) && not (k == primary s)

abbrev is_relayed : State → Named → Relayed → Bool
is_relayed s n x = bytes_eq x.digest n.digest && (x.is_verified || nat_le s.me.f (acks_for s (is_other s n) n.index n.digest))

abbrev relayed_by : Named → Relayed → Heard
relayed_by n x = record { index = n.index; digest = n.digest; change = x.change }

abbrev if_relayed : State → Named → Relayed → Option Heard
if_relayed s n x = cond (is_relayed s n x) (Some (relayed_by n x)) None

abbrev acknowledges : State → Named → ℕ → Bool
acknowledges s n k = is_other s n k && option_map_or (λ d. bytes_eq d n.digest) (ack_at s k n.index) false

module _ (c : Context) (sent : Sent) (s : State) (law : IsLawful c) (is : IsOf c s) (l : Links c sent s) where
  had_as_heard : (n : Named) (x : HeldChange) → get s.heard n.index ≡ Some x → is_heard s n x ≡ true → IsHad c.group sent s.view (heard_by n x)
  had_as_heard n x at t =
      let p = and_parts (x.change.view == s.view) _ t in
      let k = l.heard n.index x at in
      let i = k.0 in
      record {
        replica = i.replica;
        digest = k.1 ∙ same_bytes x.digest n.digest p.1;
        in_view = eqb-true x.change.view s.view p.0;
        valid = i.valid;
        occurs = i.occurs;
        source = inl i.told;
      }

  others_said : (n : Named) (k : ℕ) → acknowledges s n k ≡ true → (k ≡ n.index → ⊥) × (k ≡ group.primary c.group s.view → ⊥) × Told c.group sent k (Ack s.view n.index n.digest)
  others_said n k e =
      let a = and_parts (is_other s n k) _ e in
      let b = and_parts (not (k == n.index)) (not (k == primary s)) a.0 in
      let row = ack_row s k n.index n.digest (vouched (ack_at s k n.index) n.digest a.1) in
      (eqb-false k n.index (not-true (k == n.index) b.0), λ y. eqb-false k (primary s) (not-true (k == primary s) b.1) (y ∙ sym (primary_is c s law is)), (l.acks k n.index row.0 n.digest row.1 row.2).2)

  had_as_relayed : (n : Named) (x : Relayed) → get s.relayed n.index ≡ Some x → is_relayed s n x ≡ true → IsHad c.group sent s.view (relayed_by n x)
  unfolding acks_for
  had_as_relayed n x at t =
      let p = and_parts (bytes_eq x.digest n.digest) _ t in
      let k = l.relayed n.index x at in
      record {
        replica = k.0;
        digest = k.4 ∙ same_bytes x.digest n.digest p.0;
        in_view = k.1;
        valid = k.2;
        occurs = k.3;
        source = elim (or_cases x.is_verified _ p.1) [
          | inl v ↦ inl (k.5 v)
          | inr m ↦ inr (
            acknowledges s n,
            subst (λ f. f ≤ count_below (size_of_group f) (acknowledges s n)) (size_is c s law is) (leb-true s.me.f (count_below (size_of_group s.me.f) (acknowledges s n)) m),
            λ i il e. others_said n i e,
          )
        ];
      }

  by_heard : (n : Named) (o : Option HeldChange) (x : Heard) → get s.heard n.index ≡ o → option_and_then (if_heard s n) o ≡ Some x → IsHad c.group sent s.view x
  by_heard n None x e k = absurd (let i : ◌≡◌ {A = Option Heard} None (Some x) = k in cc)
  by_heard n (Some y) x e k = go (is_heard s n y) refl k
    where
      go : (b : Bool) → is_heard s n y ≡ b → cond b (Some (heard_by n y)) None ≡ Some x → IsHad c.group sent s.view x
      go true t k = let same : heard_by n y ≡ x = let i : ◌≡◌ {A = Option Heard} (Some (heard_by n y)) (Some x) = k in cc in subst (IsHad c.group sent s.view) same (had_as_heard n y e t)
      go false t k = absurd (let i : ◌≡◌ {A = Option Heard} None (Some x) = k in cc)

  by_relayed : (n : Named) (o : Option Relayed) (x : Heard) → get s.relayed n.index ≡ o → option_and_then (if_relayed s n) o ≡ Some x → IsHad c.group sent s.view x
  by_relayed n None x e k = absurd (let i : ◌≡◌ {A = Option Heard} None (Some x) = k in cc)
  by_relayed n (Some y) x e k = go (is_relayed s n y) refl k
    where
      go : (b : Bool) → is_relayed s n y ≡ b → cond b (Some (relayed_by n y)) None ≡ Some x → IsHad c.group sent s.view x
      go true t k = let same : relayed_by n y ≡ x = let i : ◌≡◌ {A = Option Heard} (Some (relayed_by n y)) (Some x) = k in cc in subst (IsHad c.group sent s.view) same (had_as_relayed n y e t)
      go false t k = absurd (let i : ◌≡◌ {A = Option Heard} None (Some x) = k in cc)

  first_had : (n : Named) (a b : Option Heard) (x : Heard) → (a ≡ Some x → IsHad c.group sent s.view x) → (b ≡ Some x → IsHad c.group sent s.view x) → option_or a b ≡ Some x → IsHad c.group sent s.view x
  first_had n None b x f g k = g k
  first_had n (Some y) b x f g k = f k

  had_one : (n : Named) (x : Heard) → had_of s n ≡ Some x → IsHad c.group sent s.view x
  unfolding had_of
  had_one n x k = first_had n _ _ x (by_heard n (get s.heard n.index) x refl) (by_relayed n (get s.relayed n.index) x refl) k

  with_cases : (o : Option Heard) (os : Option (List Heard)) (hs : List Heard) → with_had o os ≡ Some hs → (x : Heard) × (xs : List Heard) × (o ≡ Some x) × (os ≡ Some xs) × (hs ≡ x ∷ xs)
  with_cases None os hs k = absurd (let i : ◌≡◌ {A = Option (List Heard)} None (Some hs) = k in cc)
  with_cases (Some x) None hs k = absurd (let i : ◌≡◌ {A = Option (List Heard)} None (Some hs) = k in cc)
  with_cases (Some x) (Some xs) hs k = (x, xs, refl, refl, let i : ◌≡◌ {A = Option (List Heard)} (Some (x ∷ xs)) (Some hs) = k in cc)

  -- all named view changes are had
  pub had_all : (ns : List Named) (hs : List Heard) → all_had s ns ≡ Some hs → (x : Heard) → Contains hs x → IsHad c.group sent s.view x
  unfolding all_had
  had_all [] hs k x m = absurd (let e : [] ≡ hs = let i : ◌≡◌ {A = Option (List Heard)} (Some []) (Some hs) = k in cc in nowhere x (subst (λ ys. Contains ys x) (sym e) m))
  had_all (n ∷ ns) hs k x m =
      let w = with_cases (had_of s n) (all_had s ns) hs k in
      elim (first_or_rest w.0 x w.1 (subst (λ ys. Contains ys x) w.4 m)) [
        | inl e ↦ subst (IsHad c.group sent s.view) e (had_one n w.0 w.2)
        | inr r ↦ had_all ns w.1 w.3 x r
      ]
