-- What a voter reports as it moves is valid.
use Rattle.std.proofs.Common.{◌≡◌, inl, inr, ℕ, ◌+◌, ◌%◌, ◌<◌, ◌≤◌, Bool, true, false, cond, T, List, [], ◌∷◌, map, length, replicate, Option, Some, None, is_some, Contains, refl, sym, ◌∙◌, ap, subst, arith, nat_lt, nat_le, not, ◌&&◌, ◌||◌, ◌==◌}
use Rattle.std.specs.List.{list_all}
use Rattle.std.specs.Option.{unwrap_or}
use Rattle.std.specs.Ordering.{nat_cmp, is_lt}
use Rattle.std.specs.Cmp.Lexicographic.{slice_cmp}
use Rattle.std.specs.Str.{bytes_eq}
use Rattle.std.specs.FinMap.{FinMap, get, insert, empty, entries, entries_sorted, len, len-entries, len-insert, len-empty, get-empty, contains_key}
use Rattle.std.specs.FinMap.Entries.{is_sorted, below_all}
use Rattle.std.proofs.lemmas.Bool.{and_parts, and_from, true≢false, lt-ltb, le-leb, leb-false, ltb-true, eq-eqb, ne_eqb, cases_eq}
use Rattle.std.proofs.lemmas.Cmp.{nat_cmp_total, nat_list_cmp_total}
use Rattle.std.proofs.lemmas.List.{length-map}
use Rattle.std.proofs.lemmas.Map.Lookups.{exact_unsigned, exact_bytes}
use Rattle.std.proofs.lemmas.Slice.Eq.{bytes_eq-Decides}
use Rattle.pws_base.specs.Places.{is_in_window}
use Rattle.pws_base.proofs.Maps.{entry_get, get_entry, put_cases}
use Rattle.pws_base.proofs.Members.{nowhere, here, first_or_rest, map_has, all_pass}
use Rattle.pws_msg.specs.declared.changes.Checkpoint.{Checkpoint}
use Rattle.pws_msg.specs.declared.changes.Seen.{Seen}
use Rattle.pws_change.specs.Rising.{rises}
use Rattle.pws_change.specs.Sets.{PrePrepared, Digests, p_rows, q_rows, seen_of, row_at, is_full, with_pre_prepared}
use Rattle.pws_change.specs.Valid.{begins_at, is_checkpoint_valid, are_checkpoints_valid, is_p_row_valid, are_p_rows_valid, are_digests_valid, is_q_row_valid, are_q_rows_valid}
use Rattle.pws_change.proofs.RowLemmas.{rows_rise, p_rows_rise, q_rows_rise, seen_rise, p_row_get, q_row_get}
use Rattle.pws_change.proofs.Placed.{lt_is, true_of}
use Rattle.pws_protocol.specs.States.{State, Slot, window}
use Rattle.pws_protocol.specs.Doing.{noted, note_q, noted_p, noted_q, left_view, own_change}
use Rattle.pws_refine.specs.Ready.{IsInWindow, IsRowReady, IsReady}
use Rattle.pws_refine.specs.Laws.{OwnChangeIsValid}
use Rattle.pws_refine.proofs.Noting.{p_noted}

-- the chains as checkpoints
abbrev point : ℕ × List ℕ → Checkpoint
point x = record { place = x.0; digest = x.1 }

abbrev points : FinMap nat_cmp (List ℕ) → List Checkpoint
points m = map point (entries m)

points_rise : (m : FinMap nat_cmp (List ℕ)) → rises (λ a b. nat_lt a.place b.place) (points m) ≡ true
points_rise m = rows_rise nat_cmp (λ (c : Checkpoint). (c.place, c.digest)) point (λ x. refl) (λ a b. nat_lt a.place b.place) (λ a b. lt_is a.place b.place) m

first_is : (low : ℕ) (es : List (ℕ × List ℕ)) (d : List ℕ) → T (is_sorted nat_cmp es) → ((x : ℕ × List ℕ) → Contains es x → low ≤ x.0) → Contains es (low, d) → begins_at low (map point es) ≡ true
first_is low [] d s each c = absurd (nowhere (low, d) c)
first_is low (x ∷ es) d s each c =
    elim (first_or_rest x (low, d) es c) [
      | inl e ↦ eq-eqb x.0 low (ap (λ (y : ℕ × List ℕ). y.0) e)
      | inr r ↦
          let below = below_place x.0 es (and_parts (below_all nat_cmp x.0 es) (is_sorted nat_cmp es) (true_of _ s)).0 (low, d) r in
          let from = each x (here x es) in
          absurd (omega (arith, below, from))
    ]
  where
    below_place : (k : ℕ) (es : List (ℕ × List ℕ)) → below_all nat_cmp k es ≡ true → (y : ℕ × List ℕ) → Contains es y → k < y.0
    below_place k [] b y c = absurd (nowhere y c)
    below_place k (x ∷ es) b y c =
        let p = and_parts (is_lt (nat_cmp k x.0)) (below_all nat_cmp k es) b in
        elim (first_or_rest x y es c) [
          | inl e ↦ subst (λ (z : ℕ × List ℕ). k < z.0) e (ltb-true k x.0 (lt_is k x.0 ∙ p.0))
          | inr r ↦ below_place k es p.1 y r
        ]

zeros : (p : ℕ) (d : List ℕ) → (p ≡ 0 → d ≡ replicate 32 0) → not (p == 0) || bytes_eq d (replicate 32 0) ≡ true
zeros p d h =
    elim (cases_eq p 0) [
      | inl e ↦ ap (λ b. not b || bytes_eq d (replicate 32 0)) (eq-eqb p 0 e) ∙ (bytes_eq-Decides d (replicate 32 0)).1 (h e)
      | inr n ↦ ap (λ b. not b || bytes_eq d (replicate 32 0)) (ne_eqb p 0 n)
    ]

-- the rows of Q stay ready as slots are noted
abbrev AreReady : ℕ → ℕ → PrePrepared → Type 0
AreReady low view m = (p : ℕ) (row : Digests) → get m p ≡ Some row → IsInWindow low p × IsRowReady view row

grows : (n : ℕ) (b : Bool) → nat_le 16 n && not b ≡ false → (b ≡ true → 1 ≤ n) → n ≤ 16 → (1 ≤ cond b n (n + 1)) × (cond b n (n + 1) ≤ 16)
grows n true h some few = (some refl, few)
grows n false h some few = (omega arith, less (nat_le 16 n) refl h)
  where
    less : (c : Bool) → nat_le 16 n ≡ c → c && true ≡ false → n + 1 ≤ 16
    less true e k = absurd (true≢false k)
    less false e k = let l = leb-false 16 n e in omega (arith, l)

module _ (low view : ℕ) (m : PrePrepared) (ready : AreReady low view m) where
  row_few : (p : ℕ) (o : Option Digests) → get m p ≡ o → len (unwrap_or o empty) ≤ 16
  row_few p None e = let z = len-empty (slice_cmp nat_cmp) ℕ in omega (arith, z)
  row_few p (Some row) e = (ready p row e).1.1

  row_some : (p : ℕ) (d : List ℕ) (o : Option Digests) → get m p ≡ o → is_some (get (unwrap_or o empty) d) ≡ true → 1 ≤ len (unwrap_or o empty)
  row_some p d None e h = absurd (true≢false (sym h ∙ ap is_some (get-empty (slice_cmp nat_cmp) d)))
  row_some p d (Some row) e h = (ready p row e).1.0

  row_old : (p : ℕ) (d : List ℕ) (v : ℕ) (o : Option Digests) → get m p ≡ o → get (unwrap_or o empty) d ≡ Some v → v ≤ view
  row_old p d v None e h = absurd (let i : ◌≡◌ {A = Option ℕ} None (Some v) = sym (get-empty (slice_cmp nat_cmp) d) ∙ h in cc)
  row_old p d v (Some row) e h = (ready p row e).1.2 d v h

  put_ready : (p : ℕ) (d : List ℕ) → IsInWindow low p → is_full m p d ≡ false → AreReady low view (with_pre_prepared m p d view)
  put_ready p d within room q row h =
      elim (put_cases nat_cmp_total exact_unsigned m p q (insert (row_at m p) d view) row h) [
        | inl x ↦
            let size = grows (len (row_at m p)) (contains_key (row_at m p) d) room (row_some p d (get m p) refl) (row_few p (get m p) refl) in
            let is = len-insert nat_list_cmp_total (row_at m p) d view in
            let now : IsInWindow low p × IsRowReady view (insert (row_at m p) d view) = (
              within,
              (
                subst (λ n. 1 ≤ n) (sym is) size.0,
                subst (λ n. n ≤ 16) (sym is) size.1,
                λ e v k. elim (put_cases nat_list_cmp_total exact_bytes (row_at m p) d e view v k) [ inl y ↦ let z = y.1 in omega (arith, z) | inr y ↦ row_old p e v (get m p) refl y ],
              ),
            ) in
            subst (λ y. IsInWindow low y × IsRowReady view row) (sym x.0) (subst (λ r. IsInWindow low p × IsRowReady view r) x.1 now)
        | inr x ↦ ready q row x
      ]

  note_ready : (p : ℕ) (o : Option Slot) → (is_some o ≡ true → IsInWindow low p) → AreReady low view (note_q view p o m)
  note_ready p None w = ready
  note_ready p (Some t) w = go (is_full m p t.digest) refl
    where
      go : (b : Bool) → is_full m p t.digest ≡ b → AreReady low view (cond b m (with_pre_prepared m p t.digest view))
      go true e = ready
      go false e = put_ready p t.digest (w refl) e

pub noted_ready : (low view : ℕ) (slots : FinMap nat_cmp Slot) (places : List ℕ) (m : PrePrepared) → ((p : ℕ) → is_some (get slots p) ≡ true → IsInWindow low p) → AreReady low view m → AreReady low view (noted_q view slots places m)
unfolding noted_q
noted_ready low view slots [] m w ready = ready
noted_ready low view slots (p ∷ ps) m w ready = noted_ready low view slots ps (note_q view p (get slots p) m) w (note_ready low view m ready p (get slots p) (w p))

pub slot_in : (s : State) → IsReady s → (p : ℕ) → is_some (get s.slots p) ≡ true → IsInWindow s.low p
slot_in s ready p h = go (get s.slots p) refl h
  where
    go : (o : Option Slot) → get s.slots p ≡ o → is_some o ≡ true → IsInWindow s.low p
    go None e k = absurd (true≢false (sym k))
    go (Some t) e k = ready.slots p t e

in_window : (low p : ℕ) → IsInWindow low p → is_in_window low p ≡ true
in_window low p w = and_from (nat_lt low p) (nat_le p (low + 32)) (lt-ltb low p w.0) (le-leb p (low + 32) w.1)

module _ (s : State) (w : ℕ) (ready : IsReady s) (later : s.view < w) where
  p_valid : are_p_rows_valid s.low w (p_rows (noted_p s.view s.slots (window s.low) s.prepared)) ≡ true
  p_valid =
      let P = noted_p s.view s.slots (window s.low) s.prepared in
      and_from _ _
      (all_pass (is_p_row_valid s.low w) (p_rows P) (λ r c.
      let at = p_row_get P r c in
      let fact : IsInWindow s.low r.place × (r.view ≤ s.view) =
      elim (p_noted s.view s.slots (window s.low) r.place s.prepared) [
        | inl x ↦ ready.prepared r.place r.digest r.view (sym x ∙ at)
        | inr x ↦
            let same : ◌≡◌ {A = Option (List ℕ × ℕ)} (Some (r.digest, r.view)) (Some (x.0.digest, s.view)) = sym at ∙ x.3 in
            let v : r.view ≡ s.view = ap (λ (o : Option (List ℕ × ℕ)). (unwrap_or o ([], 0)).1) same in
            (ready.slots r.place x.0 x.1, omega (arith, v))
      ] in
      let v = fact.1 in
      and_from _ _ (in_window s.low r.place fact.0) (lt-ltb r.view w (omega (arith, v, later)))))
      (p_rows_rise P)

  q_valid : are_q_rows_valid s.low w (q_rows (noted_q s.view s.slots (window s.low) s.pre_prepared)) ≡ true
  q_valid =
      let Q = noted_q s.view s.slots (window s.low) s.pre_prepared in
      let rows = noted_ready s.low s.view s.slots (window s.low) s.pre_prepared (slot_in s ready) ready.pre_prepared in
      and_from _ _
      (all_pass (is_q_row_valid s.low w) (q_rows Q) (λ r c.
      let x = q_row_get Q r c in
      let f = rows r.place x.0 x.1 in
      let size : length (seen_of x.0) ≡ len x.0 = length-map (entries x.0) _ ∙ sym (len-entries x.0) in
      let views : list_all (λ (e : Seen). nat_lt e.view w) (seen_of x.0) ≡ true = all_pass (λ (e : Seen). nat_lt e.view w) (seen_of x.0) (λ e k.
      let y = map_has (λ (z : List ℕ × ℕ). let s : Seen = record { digest = z.0; view = z.1 } in s) (entries x.0) e k in
      let v = f.1.2 y.0.0 y.0.1 (entry_get nat_list_cmp_total x.0 y.0.0 y.0.1 y.1) in
      let same : y.0.1 ≡ e.view = ap (λ (z : Seen). z.view) y.2 in
      lt-ltb e.view w (omega (arith, v, same, later))) in
      let from = f.1.0 in
      let to = f.1.1 in
      let digests : are_digests_valid w (seen_of x.0) ≡ true = and_from _ _ (and_from _ _ (and_from _ _ (le-leb 1 (length (seen_of x.0)) (omega (arith, size, from))) (le-leb (length (seen_of x.0)) 16 (omega (arith, size, to)))) views) (seen_rise x.0) in
      and_from _ _ (in_window s.low r.place f.0) (subst (λ ds. are_digests_valid w ds ≡ true) (sym x.2) digests)))
      (q_rows_rise Q)

  points_valid : are_checkpoints_valid s.low (points s.chains) ≡ true
  points_valid =
      let chains = ready.chains in
      let to = ready.done.1 in
      and_from _ _
      (and_from _ _
      (all_pass (is_checkpoint_valid s.low) (points s.chains) (λ c k.
      let x = map_has point (entries s.chains) c k in
      let at = entry_get nat_cmp_total s.chains x.0.0 x.0.1 x.1 in
      let f = chains.places x.0.0 x.0.1 at in
      let done = f.1 in
      subst (λ c. is_checkpoint_valid s.low c ≡ true) x.2
      (and_from _ _ (and_from _ _ (eq-eqb (x.0.0 % 16) 0 f.2) (le-leb x.0.0 (s.low + 32) (omega (arith, done, to)))) (zeros x.0.0 x.0.1 (λ e. chains.first x.0.1 (subst (λ p. get s.chains p ≡ Some x.0.1) e at))))))
      (points_rise s.chains))
      (first_is s.low (entries s.chains) chains.at_low.0 (entries_sorted s.chains) (λ x c. (chains.places x.0 x.1 (entry_get nat_cmp_total s.chains x.0 x.1 c)).0) (get_entry nat_cmp_total exact_unsigned s.chains s.low chains.at_low.0 chains.at_low.1))

pub own_change_is_valid : OwnChangeIsValid
unfolding own_change left_view noted
own_change_is_valid s w ready later = record {
  view = le-leb 1 w (omega (arith, later));
  low = eq-eqb (s.low % 16) 0 ready.low;
  checkpoints = points_valid s w ready later;
  prepared = p_valid s w ready later;
  pre_prepared = q_valid s w ready later;
}
