-- What fits before a move to another view fits after it: what the voter reports as it moves is valid, and may be sent.
use Rattle.std.proofs.Common.{◌≡◌, inl, inr, ℕ, ◌+◌, ◌%◌, ◌<◌, ◌≤◌, ◌==◌, ◌||◌, not, nat_lt, true, T, List, [], ◌∷◌, map, length, replicate, Some, Contains, All, refl, sym, ◌∙◌, ap, subst, arith}
use Rattle.std.specs.List.{list_all}
use Rattle.std.specs.Ordering.{nat_cmp, is_lt}
use Rattle.std.specs.Str.{bytes_eq}
use Rattle.std.specs.Cmp.{nat_cmp_total}
use Rattle.std.specs.FinMap.{FinMap, get, entries, entries_sorted, len, len-entries, get-empty, nat_cmp-IsAntisymmetric}
use Rattle.std.specs.FinMap.Entries.{is_sorted, below_all}
use Rattle.std.proofs.lemmas.Bool.{false≢true, and_parts, and_from, lt-ltb, le-leb, ltb-true, eq-eqb, ne_eqb, cases_eq}
use Rattle.std.proofs.lemmas.Cmp.{nat_list_cmp_total}
use Rattle.std.proofs.lemmas.List.{length-map}
use Rattle.std.proofs.lemmas.Slice.Eq.{bytes_eq-Decides}
use Rattle.pws_base.specs.Places.{is_in_window}
use Rattle.pws_base.specs.Shapes.{size_of_group}
use Rattle.pws_base.proofs.Maps.{entry_get, get_entry, put_cases, put_here, retain_cases}
use Rattle.pws_base.proofs.Members.{nowhere, here, first_or_rest, map_has, all_pass, all_from}
use Rattle.pws_msg.specs.declared.changes.Checkpoint.{Checkpoint}
use Rattle.pws_msg.specs.declared.changes.PRow.{PRow}
use Rattle.pws_msg.specs.declared.changes.QRow.{QRow}
use Rattle.pws_msg.specs.declared.changes.Seen.{Seen}
use Rattle.pws_msg.specs.declared.changes.ViewChange.{ViewChange}
use Rattle.pws_msg.specs.declared.contents.Content.TheVariants as content
use Rattle.pws_msg.specs.Contents.{IsContent, content_digest_of}
use Rattle.pws_msg.specs.Packets.{IsTags}
use Rattle.pws_msg.specs.Reported.{IsViewChange}
use Rattle.pws_msg.specs.Rows.{IsDigest, IsCheckpoint}
use Rattle.pws_change.specs.Rising.{rises}
use Rattle.pws_change.specs.SendingLaws.{IsBounded}
use Rattle.pws_change.specs.Sets.{Prepared, PrePrepared, Digests, p_rows, q_rows, seen_of}
use Rattle.pws_change.specs.Valid.{IsValid, begins_at, is_checkpoint_valid, are_checkpoints_valid, is_p_row_valid, are_p_rows_valid, are_digests_valid, is_q_row_valid, are_q_rows_valid}
use Rattle.pws_change.proofs.Placed.{lt_is, true_of}
use Rattle.pws_change.proofs.RowLemmas.{p_row_get, q_row_get, rows_rise, p_rows_rise, q_rows_rise, seen_rise}
use Rattle.pws_change.proofs.Sending.{valid_may_be_sent}
use Rattle.pws_votes.specs.declared.kinds.VoteKind.TheVariants as kind
use Rattle.pws_votes.specs.Votes.{key, is_checkpoint}
use Rattle.pws_votes.proofs.VoteLemmas.{keys_are_ordered}
use Rattle.pws_protocol.specs.States.{State, HeldChange, window}
use Rattle.pws_protocol.specs.Doing.{did_move, reported, with_change, own_change, left_view, noted, noted_p, noted_q}
use Rattle.pws_voter_laws.proofs.Found.{nothing}
use Rattle.pws_voter_laws.proofs.Noting.{p_fits, q_fits}
use Rattle.pws_voter_laws.proofs.Parts.{IsPlace, place_inside, Whole}

-- the checkpoints that are reported
abbrev point : ℕ × List ℕ → Checkpoint
point x = record { place = x.0; digest = x.1 }

abbrev points : FinMap nat_cmp (List ℕ) → List Checkpoint
points m = map point (entries m)

points_rise : (m : FinMap nat_cmp (List ℕ)) → rises (λ a b. nat_lt a.place b.place) (points m) ≡ true
points_rise m = rows_rise nat_cmp (λ (c : Checkpoint). (c.place, c.digest)) point (λ x. refl) (λ a b. nat_lt a.place b.place) (λ a b. lt_is a.place b.place) m

below_place : (k : ℕ) (es : List (ℕ × List ℕ)) → below_all nat_cmp k es ≡ true → (y : ℕ × List ℕ) → Contains es y → k < y.0
below_place k [] b y c = absurd (nowhere y c)
below_place k (x ∷ es) b y c =
    let p = and_parts (is_lt (nat_cmp k x.0)) (below_all nat_cmp k es) b in
    elim (first_or_rest x y es c) [
      | inl e ↦ subst (λ (z : ℕ × List ℕ). k < z.0) e (ltb-true k x.0 (lt_is k x.0 ∙ p.0))
      | inr r ↦ below_place k es p.1 y r
    ]

first_is : (low : ℕ) (es : List (ℕ × List ℕ)) (d : List ℕ) → T (is_sorted nat_cmp es) → ((x : ℕ × List ℕ) → Contains es x → low ≤ x.0) → Contains es (low, d) → begins_at low (map point es) ≡ true
first_is low [] d s each c = absurd (nowhere (low, d) c)
first_is low (x ∷ es) d s each c =
    elim (first_or_rest x (low, d) es c) [
      | inl e ↦ eq-eqb x.0 low (ap (λ (y : ℕ × List ℕ). y.0) e)
      | inr r ↦ (
          let below = below_place x.0 es (and_parts (below_all nat_cmp x.0 es) (is_sorted nat_cmp es) (true_of _ s)).0 (low, d) r in
          let from = each x (here x es) in
          absurd (omega (arith, below, from)))
    ]

zeros : (p : ℕ) (d : List ℕ) → (p ≡ 0 → d ≡ replicate 32 0) → not (p == 0) || bytes_eq d (replicate 32 0) ≡ true
zeros p d h =
    elim (cases_eq p 0) [
      | inl e ↦ ap (λ b. not b || bytes_eq d (replicate 32 0)) (eq-eqb p 0 e) ∙ (bytes_eq-Decides d (replicate 32 0)).1 (h e)
      | inr n ↦ ap (λ b. not b || bytes_eq d (replicate 32 0)) (ne_eqb p 0 n)
    ]

-- no tags are few
no_tags : IsTags []
no_tags = record { few = omega arith; each = λ k d l. absurd (omega (arith, l)) }

module _ (s : State) (f : Whole s) (w : ℕ) (later : s.view < w) (few : w ≤ 1000000) where
  abbrev P : Prepared
  P = noted_p s.view s.slots (window s.low) s.prepared

  abbrev Q : PrePrepared
  Q = noted_q s.view s.slots (window s.low) s.pre_prepared

  p_fine : (p : ℕ) (d : List ℕ) (v : ℕ) → get P p ≡ Some (d, v) → IsPlace s.low p × (v ≤ s.view) × IsDigest d
  p_fine = p_fits s.low s.view s.slots (λ p t h. let x = f.slots p t h in (x.0, x.3)) (window s.low) s.prepared f.prepared

  q_fine : (p : ℕ) (row : Digests) → get Q p ≡ Some row → IsPlace s.low p × (1 ≤ len row) × (len row ≤ 16) × ((d : List ℕ) (v : ℕ) → get row d ≡ Some v → (v ≤ s.view) × IsDigest d)
  q_fine = q_fits s.low s.view s.slots (λ p t h. let x = f.slots p t h in (x.0, x.3)) (window s.low) s.pre_prepared f.pre_prepared

  p_valid : are_p_rows_valid s.low w (p_rows P) ≡ true
  p_valid = and_from _ _
      (all_pass (is_p_row_valid s.low w) (p_rows P) (λ r c.
      let x = p_fine r.place r.digest r.view (p_row_get P r c) in
      let v = x.1 in
      and_from (is_in_window s.low r.place) (nat_lt r.view w) (place_inside s.low r.place x.0) (lt-ltb r.view w (omega (arith, v, later)))))
      (p_rows_rise P)

  q_valid : are_q_rows_valid s.low w (q_rows Q) ≡ true
  q_valid = and_from _ _
      (all_pass (is_q_row_valid s.low w) (q_rows Q) (λ r c.
      let x = q_row_get Q r c in
      let y = q_fine r.place x.0 x.1 in
      let size : length (seen_of x.0) ≡ len x.0 = length-map (entries x.0) _ ∙ sym (len-entries x.0) in
      let views : list_all (λ (e : Seen). nat_lt e.view w) (seen_of x.0) ≡ true = all_pass (λ (e : Seen). nat_lt e.view w) (seen_of x.0) (λ e k.
      let z = map_has (λ (z : List ℕ × ℕ). let s : Seen = record { digest = z.0; view = z.1 } in s) (entries x.0) e k in
      let v = (y.3 z.0.0 z.0.1 (entry_get nat_list_cmp_total x.0 z.0.0 z.0.1 z.1)).0 in
      let same : z.0.1 ≡ e.view = ap (λ (q : Seen). q.view) z.2 in
      lt-ltb e.view w (omega (arith, v, same, later))) in
      let from = y.1 in
      let to = y.2 in
      let digests : are_digests_valid w (seen_of x.0) ≡ true = and_from _ _ (and_from _ _ (and_from _ _ (le-leb 1 (length (seen_of x.0)) (omega (arith, size, from))) (le-leb (length (seen_of x.0)) 16 (omega (arith, size, to)))) views) (seen_rise x.0) in
      and_from (is_in_window s.low r.place) (are_digests_valid w r.digests) (place_inside s.low r.place y.0) (subst (λ ds. are_digests_valid w ds ≡ true) (sym x.2) digests)))
      (q_rows_rise Q)

  lowest : (d : List ℕ) × (get s.chains s.low ≡ Some d)
  lowest = f.there s.low (omega arith) f.low.0 f.low.2

  points_valid : are_checkpoints_valid s.low (points s.chains) ≡ true
  points_valid = and_from _ _
      (and_from _ _
      (all_pass (is_checkpoint_valid s.low) (points s.chains) (λ c k.
      let x = map_has point (entries s.chains) c k in
      let y = f.chains x.0.0 x.0.1 (entry_get nat_cmp_total s.chains x.0.0 x.0.1 x.1) in
      let to = y.1 in
      let far = f.low.1 in
      subst (λ c. is_checkpoint_valid s.low c ≡ true) x.2
      (and_from _ _ (and_from _ _ (eq-eqb (x.0.0 % 16) 0 y.2) (le-leb x.0.0 (s.low + 32) (omega (arith, to, far)))) (zeros x.0.0 x.0.1 y.3))))
      (points_rise s.chains))
      (first_is s.low (entries s.chains) lowest.0 (entries_sorted s.chains) (λ x c. (f.chains x.0 x.1 (entry_get nat_cmp_total s.chains x.0 x.1 c)).0) (get_entry nat_cmp_total nat_cmp-IsAntisymmetric s.chains s.low lowest.0 lowest.1))

  abbrev change : ViewChange
  change = record { view = w; low = s.low; checkpoints = points s.chains; prepared = p_rows P; pre_prepared = q_rows Q }

  valid : IsValid change
  valid = record {
    view = le-leb 1 w (omega (arith, later));
    low = eq-eqb (s.low % 16) 0 f.low.2;
    checkpoints = points_valid;
    prepared = p_valid;
    pre_prepared = q_valid;
  }

  bounded : IsBounded change
  bounded = record {
    view = few;
    low = let a = f.low.0 in let b = f.numbers.1 in omega (arith, a, b);
    checkpoints = all_from IsCheckpoint (points s.chains) (λ c k.
        let x = map_has point (entries s.chains) c k in
        let y = f.chains x.0.0 x.0.1 (entry_get nat_cmp_total s.chains x.0.0 x.0.1 x.1) in
        let to = y.1 in
        let b = f.numbers.1 in
        subst IsCheckpoint x.2 (record { place = omega (arith, to, b); digest = y.5 }));
    prepared = all_from (λ (r : PRow). (r.place ≤ 1000000) × IsDigest r.digest) (p_rows P) (λ r c.
        let x = p_fine r.place r.digest r.view (p_row_get P r c) in
        (x.0.2, x.2));
    pre_prepared = all_from (λ (r : QRow). (r.place ≤ 1000000) × All (λ (e : Seen). IsDigest e.digest) r.digests) (q_rows Q) (λ r c.
        let x = q_row_get Q r c in
        let y = q_fine r.place x.0 x.1 in (
          y.0.2,
          subst (λ ds. All (λ (e : Seen). IsDigest e.digest) ds) (sym x.2) (all_from (λ (e : Seen). IsDigest e.digest) (seen_of x.0) (λ e k.
              let z = map_has (λ (z : List ℕ × ℕ). let s : Seen = record { digest = z.0; view = z.1 } in s) (entries x.0) e k in
              subst (λ (e : Seen). IsDigest e.digest) z.2 (y.3 z.0.0 z.0.1 (entry_get nat_list_cmp_total x.0 z.0.0 z.0.1 z.1)).1)),
        ));
  }

  pub in_range : IsViewChange change
  in_range = valid_may_be_sent change valid bounded

  abbrev held : HeldChange
  held = record { digest = content_digest_of (content.ViewChange change); change = change; tags = [] }

  pub move_fits : (s.me.f ≡ 0 → ⊥) → Whole (did_move s w).state
  unfolding did_move reported with_change left_view noted own_change
  move_fits n = record {
    who = f.who;
    evidence = f.evidence;
    bodies = f.bodies;
    book = f.book;
    votes = λ k d h. f.votes k d (retain_cases keys_are_ordered.exact s.book.votes (λ k. is_checkpoint k.kind) k d h).1;
    numbers = (few, f.numbers.1, (let m = f.numbers.2 in omega (arith, m, later)));
    own_votes = λ p d h. f.own_votes p d (retain_cases keys_are_ordered.exact s.book.votes (λ k. is_checkpoint k.kind) (key kind.Checkpoint p s.me.index) d h).1;
    waited = omega arith;
    marks = (f.marks.0, omega arith, omega arith);
    acks = λ i row h. absurd (nothing row (sym (get-empty nat_cmp i) ∙ h));
    needed = f.needed;
    low = f.low;
    pending = λ p e h. absurd (nothing e (sym (get-empty nat_cmp p) ∙ h));
    slots = λ p t h. absurd (nothing t (sym (get-empty nat_cmp p) ∙ h));
    way = λ h. (refl, refl, refl, omega (arith, later));
    started = λ h. absurd (false≢true h);
    new_view = tt;
    texts = f.texts;
    dones = f.dones;
    there = f.there;
    chains = f.chains;
    chain = f.chain;
    prepared = λ p d v h. let x = p_fine p d v h in let u = x.1 in (x.0, omega (arith, u, later), x.2);
    pre_prepared = λ p row h. let x = q_fine p row h in (x.0, x.1, x.2, λ d v k. let y = x.3 d v k in let u = y.0 in (omega (arith, u, later), y.1));
    heard = λ j c h. elim (put_cases nat_cmp_total nat_cmp-IsAntisymmetric s.heard s.me.index j held c h) [
      | inl x ↦ (
        subst (λ k. k < size_of_group s.me.f) (sym x.0) f.who.0,
        subst (λ (c : HeldChange). IsValid c.change) x.1 valid,
        subst (λ (c : HeldChange). IsContent (content.ViewChange c.change)) x.1 in_range,
        subst (λ (c : HeldChange). c.digest ≡ content_digest_of (content.ViewChange c.change)) x.1 refl,
        subst (λ (c : HeldChange). IsTags c.tags) x.1 no_tags,
      )
      | inr x ↦ f.heard j c x
    ];
    own = λ h. (held, put_here nat_cmp_total s.heard s.me.index held, refl);
    relayed = λ j c h. absurd (nothing c (sym (get-empty nat_cmp j) ∙ h));
    alone_view = λ z. absurd (n z);
    alone_waited = λ z. absurd (n z);
    alone_held = λ z. absurd (n z);
  }
