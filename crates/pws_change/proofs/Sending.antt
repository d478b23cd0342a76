-- What is valid and agreed on has lists that are short enough to be sent.
use Rattle.std.proofs.Common.{◌≡◌, inl, inr, ℕ, suc, ◌+◌, ◌*◌, ◌-◌, ◌%◌, ◌<◌, ◌≤◌, ◌&&◌, ◌==◌, true, false, List, [], ◌∷◌, length, get_or, All, Contains, sym, ap, subst, nat_lt, nat_le, arith}
use Rattle.std.specs.List.{list_all, count_by}
use Rattle.std.specs.Str.{bytes_eq}
use Rattle.std.proofs.lemmas.Bool.{false≢true, and_parts, eqb-true, ltb-true, leb-true}
use Rattle.std.proofs.lemmas.List.{get_or_default}
use Rattle.std.proofs.lemmas.List.Elements.{All-contains}
use Rattle.std.proofs.lemmas.Slice.Eq.{bytes_eq-Decides}
use Rattle.sha2.proofs.Facts256.{length-sha256}
use Rattle.pws_base.specs.Limits.{max_number}
use Rattle.pws_base.specs.Places.{is_in_window}
use Rattle.pws_base.proofs.Members.{here, there, all_from, all_has, any_has, map_has}
use Rattle.pws_msg.specs.declared.changes.Checkpoint.{Checkpoint}
use Rattle.pws_msg.specs.declared.changes.Named.{Named}
use Rattle.pws_msg.specs.declared.changes.NewView.{NewView}
use Rattle.pws_msg.specs.declared.changes.PRow.{PRow}
use Rattle.pws_msg.specs.declared.changes.QRow.{QRow}
use Rattle.pws_msg.specs.declared.changes.Seen.{Seen}
use Rattle.pws_msg.specs.declared.changes.ViewChange.{ViewChange}
use Rattle.pws_msg.specs.Rows.{IsCheckpoint, IsDigest, IsNamed, IsPRow, IsQRow, IsSeen}
use Rattle.pws_change.specs.declared.heard.Heard.{Heard}
use Rattle.pws_change.specs.Agreements.{Agrees, name_of}
use Rattle.pws_change.specs.Changes.{has_checkpoint, has_entry, is_entry}
use Rattle.pws_change.specs.Choices.{IsChosenAt, chosen_at}
use Rattle.pws_change.specs.Rising.{rises}
use Rattle.pws_change.specs.SendingLaws.{IsBounded, ValidMayBeSent, WasSent, AgreedMayBeSent}
use Rattle.pws_change.specs.Valid.{IsValid, begins_at, is_checkpoint_valid, is_p_row_valid, are_digests_valid, is_q_row_valid}
use Rattle.pws_change.proofs.Counted.{any_counted}

-- items whose keys rise within a range are no more than the range has numbers
module _ {X : Type 0} (key : X → ℕ) where
  pub fit_within : (xs : List X) (from to : ℕ) → rises (λ a b. nat_lt (key a) (key b)) xs ≡ true → ((x : X) → Contains xs x → (from ≤ key x) × (key x < to)) → from ≤ to → from + length xs ≤ to
  fit_within [] from to h each l = omega (arith, l)
  fit_within (x ∷ xs) from to h each l =
      let p = and_parts (list_all (λ y. nat_lt (key x) (key y)) xs) (rises (λ a b. nat_lt (key a) (key b)) xs) h in
      let first = each x (here x xs) in
      let rest = fit_within xs (key x + 1) to p.1 (λ y c. (let a = ltb-true (key x) (key y) (all_has (λ y. nat_lt (key x) (key y)) xs p.0 y c) in let b = (each y (there x y xs c)).1 in (omega (arith, a), b))) (omega (arith, first.1)) in
      omega (arith, first.0, rest)

  -- where the keys are multiples of 16, they are 16 apart
  pub fit_apart : (xs : List X) (from to : ℕ) → from % 16 ≡ 0 → rises (λ a b. nat_lt (key a) (key b)) xs ≡ true → ((x : X) → Contains xs x → (key x % 16 ≡ 0) × (from < key x) × (key x ≤ to)) → from ≤ to → from + 16 * length xs ≤ to
  fit_apart [] from to e h each l = omega (arith, l)
  fit_apart (x ∷ xs) from to e h each l =
      let p = and_parts (list_all (λ y. nat_lt (key x) (key y)) xs) (rises (λ a b. nat_lt (key a) (key b)) xs) h in
      let first = each x (here x xs) in
      let rest = fit_apart xs (key x) to first.0 p.1 (λ y c. (let a = ltb-true (key x) (key y) (all_has (λ y. nat_lt (key x) (key y)) xs p.0 y c) in let b = each y (there x y xs c) in (b.0, a, b.2))) first.2 in
      apart from (key x) (length xs) to e first.0 first.1 rest
    where
      apart : (a b n to : ℕ) → a % 16 ≡ 0 → b % 16 ≡ 0 → a < b → b + 16 * n ≤ to → a + 16 * suc n ≤ to
      apart a b n to p q l h = omega (arith, p, q, l, h)

-- a valid view change
module _ (c : ViewChange) (valid : IsValid c) (bounded : IsBounded c) where
  some_points : (cs : List Checkpoint) → begins_at c.low cs ≡ true → 1 ≤ length cs
  some_points [] h = absurd (false≢true h)
  some_points (x ∷ cs) h = omega arith

  few_points : (cs : List Checkpoint) → c.low % 16 ≡ 0 → list_all (is_checkpoint_valid c.low) cs ≡ true → rises (λ a b. nat_lt a.place b.place) cs ≡ true → begins_at c.low cs ≡ true → length cs ≤ 3
  few_points [] e each h b = absurd (false≢true b)
  few_points (x ∷ cs) e each h b =
      let first : x.place ≡ c.low = eqb-true x.place c.low b in
      let p = and_parts (list_all (λ (y : Checkpoint). nat_lt x.place y.place) cs) (rises (λ a b. nat_lt a.place b.place) cs) h in
      let rest = fit_apart (λ (y : Checkpoint). y.place) cs c.low (c.low + 32) e p.1
      (λ y k. (
      let v = all_has (is_checkpoint_valid c.low) (x ∷ cs) each y (there x y cs k) in
      let v1 = and_parts _ _ (and_parts _ _ v).0 in
      let above = ltb-true x.place y.place (all_has (λ (y : Checkpoint). nat_lt x.place y.place) cs p.0 y k) in
      (eqb-true (y.place % 16) 0 v1.0, omega (arith, above, first), leb-true y.place (c.low + 32) v1.1)))
      (omega arith) in
      omega (arith, rest)

  in_window : (p : ℕ) → is_in_window c.low p ≡ true → (c.low + 1 ≤ p) × (p < c.low + 33)
  in_window p h =
      let t = and_parts (nat_lt c.low p) (nat_le p (c.low + 32)) h in
      let a : c.low < p = ltb-true c.low p t.0 in
      let b : p ≤ c.low + 32 = leb-true p (c.low + 32) t.1 in
      (omega (arith, a), omega (arith, b))

  p_parts : (list_all (is_p_row_valid c.low c.view) c.prepared ≡ true) × (rises (λ a b. nat_lt a.place b.place) c.prepared ≡ true)
  p_parts = and_parts _ _ valid.prepared

  q_parts : (list_all (is_q_row_valid c.low c.view) c.pre_prepared ≡ true) × (rises (λ a b. nat_lt a.place b.place) c.pre_prepared ≡ true)
  q_parts = and_parts _ _ valid.pre_prepared

  p_row : (r : PRow) → Contains c.prepared r → (is_in_window c.low r.place ≡ true) × (nat_lt r.view c.view ≡ true)
  p_row r k = and_parts _ _ (all_has (is_p_row_valid c.low c.view) c.prepared p_parts.0 r k)

  q_row : (r : QRow) → Contains c.pre_prepared r → (is_in_window c.low r.place ≡ true) × (are_digests_valid c.view r.digests ≡ true)
  q_row r k = and_parts _ _ (all_has (is_q_row_valid c.low c.view) c.pre_prepared q_parts.0 r k)

  a_p_row : (r : PRow) → Contains c.prepared r → IsPRow r
  a_p_row r k =
      let v = p_row r k in
      let w = in_window r.place v.0 in
      let u = ltb-true r.view c.view v.1 in
      let b = All-contains (λ (r : PRow). (r.place ≤ max_number) × IsDigest r.digest) c.prepared r bounded.prepared k in
      let top = bounded.view in
      record { place_from = omega (arith, w.0); place_to = b.0; digest = b.1; view = omega (arith, u, top) }

  a_q_row : (r : QRow) → Contains c.pre_prepared r → IsQRow r
  a_q_row r k =
      let v = q_row r k in
      let w = in_window r.place v.0 in
      let x = and_parts _ _ v.1 in
      let y = and_parts _ _ x.0 in
      let z = and_parts _ _ y.0 in
      let b = All-contains (λ (r : QRow). (r.place ≤ max_number) × All (λ (s : Seen). IsDigest s.digest) r.digests) c.pre_prepared r bounded.pre_prepared k in
      let top = bounded.view in
      record {
        place_from = omega (arith, w.0);
        place_to = b.0;
        some = leb-true 1 (length r.digests) z.0;
        few = leb-true (length r.digests) 16 z.1;
        digests = all_from IsSeen r.digests (λ s j. (
            let u = ltb-true s.view c.view (all_has (λ (s : Seen). nat_lt s.view c.view) r.digests y.1 s j) in
            record { digest = All-contains (λ (s : Seen). IsDigest s.digest) r.digests s b.1 j; view = omega (arith, u, top) }));
      }

  points : (list_all (is_checkpoint_valid c.low) c.checkpoints ≡ true) × (rises (λ a b. nat_lt a.place b.place) c.checkpoints ≡ true) × (begins_at c.low c.checkpoints ≡ true)
  points =
      let x = and_parts _ _ valid.checkpoints in
      let y = and_parts _ _ x.0 in
      (y.0, y.1, x.1)

  few_rows : (n : ℕ) → (c.low + 1) + n ≤ c.low + 33 → n ≤ 32
  few_rows n h = omega (arith, h)

pub valid_may_be_sent : ValidMayBeSent
valid_may_be_sent c valid bounded =
    let p = points c valid bounded in
    record {
      view = bounded.view;
      low = bounded.low;
      some_checkpoints = some_points c valid bounded c.checkpoints p.2;
      few_checkpoints = few_points c valid bounded c.checkpoints (eqb-true (c.low % 16) 0 valid.low) p.0 p.1 p.2;
      checkpoints = bounded.checkpoints;
      few_prepared = few_rows c valid bounded (length c.prepared)
          (fit_within (λ (r : PRow). r.place) c.prepared (c.low + 1) (c.low + 33) (p_parts c valid bounded).1 (λ r k. in_window c valid bounded r.place (p_row c valid bounded r k).0) (omega arith));
      prepared = all_from IsPRow c.prepared (a_p_row c valid bounded);
      few_pre_prepared = few_rows c valid bounded (length c.pre_prepared)
          (fit_within (λ (r : QRow). r.place) c.pre_prepared (c.low + 1) (c.low + 33) (q_parts c valid bounded).1 (λ r k. in_window c valid bounded r.place (q_row c valid bounded r k).0) (omega arith));
      pre_prepared = all_from IsQRow c.pre_prepared (a_q_row c valid bounded);
    }

-- a new view that agrees with view changes
module _ (f : ℕ) (new : NewView) (changes : List Heard) (sent : All WasSent changes) (agrees : Agrees f new changes) where
  was_sent : (h : Heard) → Contains changes h → WasSent h
  was_sent h k = All-contains WasSent changes h sent k

  named_from : (n : Named) → Contains new.named n → (h : Heard) × Contains changes h × (name_of h ≡ n)
  named_from n k = map_has name_of changes n (subst (λ ns. Contains ns n) agrees.named k)

  a_name : (n : Named) → Contains new.named n → IsNamed n
  a_name n k =
      let x = named_from n k in
      let w = was_sent x.0 x.1 in
      let i : x.0.index ≡ n.index = ap (λ (m : Named). m.index) x.2 in
      record { index = subst (λ j. j ≤ 9) i w.0; digest = subst IsDigest (ap (λ (m : Named). m.digest) x.2) w.1 }

  -- a change that has the checkpoint
  a_start : (h : Heard) × Contains changes h × (has_checkpoint new.choice.place new.choice.digest h ≡ true)
  a_start =
      let held = agrees.choice.start.may.held in
      any_has (has_checkpoint new.choice.place new.choice.digest) changes (any_counted (has_checkpoint new.choice.place new.choice.digest) changes (omega (arith, held)))

  start_is : (new.choice.place ≤ max_number) × IsDigest new.choice.digest
  start_is =
      let h = a_start in
      let c = any_has (λ (c : Checkpoint). c.place == new.choice.place && bytes_eq c.digest new.choice.digest) h.0.change.checkpoints h.2 in
      let e = and_parts (c.0.place == new.choice.place) (bytes_eq c.0.digest new.choice.digest) c.2 in
      let w = (was_sent h.0 h.1).2 in
      let k = All-contains IsCheckpoint h.0.change.checkpoints c.0 w.checkpoints c.1 in
      (subst (λ p. p ≤ max_number) (eqb-true c.0.place new.choice.place e.0) k.place, subst IsDigest ((bytes_eq-Decides c.0.digest new.choice.digest).0 e.1) k.digest)

  view_is : new.view ≤ max_number
  view_is =
      let h = a_start in
      let e = eqb-true h.0.change.view new.view (all_has (λ (h : Heard). h.change.view == new.view) changes agrees.views h.0 h.1) in
      subst (λ v. v ≤ max_number) e (was_sent h.0 h.1).2.view

  entry_digest : (place : ℕ) (d : List ℕ) (view : ℕ) → 1 ≤ count_by (has_entry place d view) changes → IsDigest d
  entry_digest place d view many =
      let h = any_has (has_entry place d view) changes (any_counted (has_entry place d view) changes many) in
      let r = any_has (is_entry place d view) h.0.change.prepared h.2 in
      let e = and_parts (r.0.place == place) (r.0.view == view && bytes_eq r.0.digest d) r.2 in
      let g = and_parts (r.0.view == view) (bytes_eq r.0.digest d) e.1 in
      let w = (was_sent h.0 h.1).2 in
      subst IsDigest ((bytes_eq-Decides r.0.digest d).0 g.1) (All-contains IsPRow h.0.change.prepared r.0 w.prepared r.1).digest

  chosen_digest : (place : ℕ) (d : List ℕ) → IsChosenAt f changes place d → IsDigest d
  chosen_digest place d (inl x) = entry_digest place d x.0 x.1.meets.named
  chosen_digest place d (inr x) = subst IsDigest (sym x.2) (length-sha256 (0 ∷ []))

  each_chosen : All IsDigest new.choice.chosen
  each_chosen = λ k e l. (
      let place = new.choice.place + 1 + k in
      let at : place - (new.choice.place + 1) ≡ k = omega arith in
      let d : IsDigest (chosen_at new.choice place) = chosen_digest place (chosen_at new.choice place) (agrees.choice.chosen place (omega arith) (omega (arith, l))) in
      subst IsDigest (get_or_default new.choice.chosen k [] e l) (subst (λ i. IsDigest (get_or new.choice.chosen i [])) at d))

pub agreed_may_be_sent : AgreedMayBeSent
agreed_may_be_sent f new changes sent agrees =
    let many = agrees.many in
    let last = agrees.choice.last in
    let start = start_is f new changes sent agrees in
    let few = fit_within (λ (n : Named). n.index) new.named 0 10 agrees.rises (λ n k. (let i = (a_name f new changes sent agrees n k).index in (omega arith, omega (arith, i)))) (omega arith) in
    record {
      view = view_is f new changes sent agrees;
      some_named = omega (arith, many);
      few_named = omega (arith, few);
      named = all_from IsNamed new.named (a_name f new changes sent agrees);
      place = start.0;
      digest = start.1;
      few_chosen = omega (arith, last);
      chosen = each_chosen f new changes sent agrees;
    }
