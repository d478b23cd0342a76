-- What fits before the primary starts its view fits after it: its new view agrees with the changes that count, and may be
-- sent.
use Rattle.std.proofs.Common.{◌≡◌, inl, inr, ℕ, zero, suc, ◌+◌, ◌<◌, ◌≤◌, ◌==◌, not, nat_lt, true, List, [], ◌∷◌, map, filter, Option, Some, None, Contains, refl, sym, ◌∙◌, ap, subst, arith}
use Rattle.std.specs.List.{fold, filter_map, cons_option, list_all, range_with_len}
use Rattle.std.specs.Option.{option_map_or, option_and_then}
use Rattle.std.specs.Ordering.{nat_cmp}
use Rattle.std.specs.Cmp.{nat_cmp_total}
use Rattle.std.specs.FinMap.{FinMap, empty, get, insert, get-empty, nat_cmp-IsAntisymmetric}
use Rattle.std.proofs.lemmas.Bool.{and_parts, and_from, lt-ltb, eq-eqb}
use Rattle.std.proofs.lemmas.List.{length-map}
use Rattle.sha2.proofs.Facts256.{length-sha256}
use Rattle.pws_base.specs.Shapes.{size_of_group}
use Rattle.pws_base.proofs.Maps.{put_cases}
use Rattle.pws_base.proofs.Members.{here, there, map_has, all_pass, all_from, filter_has}
use Rattle.pws_event.specs.Counters.{Counters}
use Rattle.pws_msg.specs.declared.changes.Choice.{Choice}
use Rattle.pws_msg.specs.declared.changes.Named.{Named}
use Rattle.pws_msg.specs.declared.changes.NewView.{NewView}
use Rattle.pws_msg.specs.declared.changes.ViewChange.{ViewChange}
use Rattle.pws_msg.specs.declared.contents.Content.TheVariants as content
use Rattle.pws_msg.specs.Contents.{IsContent, content_text, content_digest_of}
use Rattle.pws_msg.specs.Packets.{IsTags}
use Rattle.pws_msg.specs.Reported.{IsViewChange, IsNewView}
use Rattle.pws_msg.specs.Rows.{IsDigest}
use Rattle.pws_change.specs.declared.heard.Heard.{Heard}
use Rattle.pws_change.specs.declared.decisions.Decision.{Decision}
use Rattle.pws_change.specs.declared.decisions.Decision.TheVariants.{Chosen}
use Rattle.pws_change.specs.Agreements.{Agrees, name_of}
use Rattle.pws_change.specs.Choices.{IsChoice, last_of}
use Rattle.pws_change.specs.Decisions.{decision_of}
use Rattle.pws_change.specs.Rising.{rises}
use Rattle.pws_change.specs.SendingLaws.{WasSent}
use Rattle.pws_change.specs.Valid.{IsValid}
use Rattle.pws_change.proofs.Deciding.{decision_is_choice}
use Rattle.pws_change.proofs.Sending.{agreed_may_be_sent}
use Rattle.pws_protocol.specs.States.{State, HeldChange, Relayed, members}
use Rattle.pws_protocol.specs.Gathered.{counted, counted_at, possible_choice}
use Rattle.pws_protocol.specs.Actions as act
use Rattle.pws_protocol.specs.Actions.{next_need_chosen}
use Rattle.pws_protocol.specs.Doing.{did, did_offer, with_offer, entered}
use Rattle.pws_voter_laws.specs.Enabled.{IsEnabled}
use Rattle.pws_voter_laws.proofs.Entering.{in_all, last_few, entered_fits}
use Rattle.pws_voter_laws.proofs.Found.{nothing, same, guarded, then_is, mapped, in_range}
use Rattle.pws_voter_laws.proofs.Parts.{Whole}
use Rattle.pws_voter_laws.proofs.Resting.{chosen_by}
use Rattle.pws_voter_laws.proofs.Tests.{eq_is, ne_is, member_in, choice_is, need_chosen_is, offer_is}

-- indices that a filtered map takes from a range rise
module _ (g : ℕ → Option Heard) (own : (j : ℕ) (h : Heard) → g j ≡ Some h → h.index ≡ j) where
  later : (n a : ℕ) (h : Heard) → Contains (filter_map g (range_with_len a n)) h → a ≤ h.index
  later n a h c =
      let m = mapped g (range_with_len a n) h c in
      let r = (in_range n a m.0 m.1).0 in
      let e = own m.0 h m.2 in
      omega (arith, r, e)

  indices_rise : (n a : ℕ) → rises (λ x y. nat_lt x.index y.index) (map name_of (filter_map g (range_with_len a n))) ≡ true
  indices_rise zero a = refl
  indices_rise (suc n) a = by (g a) refl (indices_rise n (a + 1))
    where
      by : (o : Option Heard) → g a ≡ o → rises (λ x y. nat_lt x.index y.index) (map name_of (filter_map g (range_with_len (a + 1) n))) ≡ true
          → rises (λ x y. nat_lt x.index y.index) (map name_of (cons_option o (filter_map g (range_with_len (a + 1) n)))) ≡ true
      by None e r = r
      by (Some h) e r =
          let first = own a h e in
          and_from (list_all (λ (y : Named). nat_lt h.index y.index) (map name_of (filter_map g (range_with_len (a + 1) n)))) _
          (all_pass (λ (y : Named). nat_lt h.index y.index) (map name_of (filter_map g (range_with_len (a + 1) n))) (λ y c.
          let m = map_has name_of (filter_map g (range_with_len (a + 1) n)) y c in
          let l = later n (a + 1) m.0 m.1 in
          let i : m.0.index ≡ y.index = ap (λ (z : Named). z.index) m.2 in
          lt-ltb h.index y.index (omega (arith, first, l, i))))
          r

-- a change that counts is one that is heard, for the view
abbrev IsCounted : State → Heard → Type 0
IsCounted s h = (c : HeldChange) × (get s.heard h.index ≡ Some c) × (c.change.view ≡ s.view) × (h.digest ≡ c.digest) × (h.change ≡ c.change) × (h.index < size_of_group s.me.f)

abbrev gives : State → ℕ → Option Heard
gives s j = option_and_then (counted_at s j) (get s.heard j)

made : (s : State) (j : ℕ) (h : Heard) → gives s j ≡ Some h → (c : HeldChange) × (get s.heard j ≡ Some c) × (c.change.view ≡ s.view) × (record { index = j; digest = c.digest; change = c.change } ≡ h)
made s j h e =
    let t = then_is (counted_at s j) (get s.heard j) h e in
    let new : Heard = record { index = j; digest = t.0.digest; change = t.0.change } in
    let g = guarded _ (Some new) h t.2 in
    (t.0, t.1, eq_is t.0.change.view s.view (and_parts (t.0.change.view == s.view) _ g.0).0, same new h g.1)

counted_in : (s : State) (h : Heard) → Contains (counted s) h → IsCounted s h
unfolding counted
counted_in s h c =
    let m = mapped (gives s) (members s) h c in
    let x = made s m.0 h m.2 in
    subst (IsCounted s) x.3 (x.0, x.1, x.2, refl, refl, member_in s m.0 m.1)

index_is : (s : State) (j : ℕ) (h : Heard) → gives s j ≡ Some h → h.index ≡ j
index_is s j h e = ap (λ (y : Heard). y.index) (sym (made s j h e).3)

counted_rise : (s : State) → rises (λ x y. nat_lt x.index y.index) (map name_of (counted s)) ≡ true
unfolding counted
counted_rise s = indices_rise (gives s) (index_is s) (size_of_group s.me.f) 0

module _ (s : State) (f : Whole s) where
  counted_change : (h : Heard) → Contains (counted s) h → IsViewChange h.change
  counted_change h c = let x = counted_in s h c in subst IsViewChange (sym x.4) (f.heard h.index x.0 x.1).2

  was_sent : (h : Heard) → Contains (counted s) h → WasSent h
  was_sent h c =
      let x = counted_in s h c in
      let y = f.heard h.index x.0 x.1 in
      let l = x.5 in
      let few = f.who.1 in
      (omega (arith, l, few), subst IsDigest (sym (x.3 ∙ y.3)) (length-sha256 (content_text (content.ViewChange x.0.change))), counted_change h c)

  module _ (c : Choice) (may : possible_choice s ≡ Some c) where
    abbrev offer : NewView
    offer = record { view = s.view; named = map name_of (counted s); choice = c }

    decided : IsChoice s.me.f (counted s) (Chosen c)
    decided = subst (λ (d : Decision). IsChoice s.me.f (counted s) d) (chosen_by (decision_of s.me.f (counted s)) c (choice_is s c may).3) (decision_is_choice s.me.f (counted s))

    agrees : Agrees s.me.f offer (counted s)
    agrees = record {
      rises = counted_rise s;
      many = let q = (choice_is s c may).2 in let l = length-map (counted s) name_of in omega (arith, q, l);
      named = refl;
      views = all_pass (λ (h : Heard). h.change.view == s.view) (counted s) (λ h k. let x = counted_in s h k in eq-eqb h.change.view s.view (ap (λ (y : ViewChange). y.view) x.4 ∙ x.2));
      choice = decided;
    }

    pub in_range_offer : IsNewView offer
    in_range_offer = agreed_may_be_sent s.me.f offer (counted s) (all_from WasSent (counted s) was_sent) agrees

    -- the changes of the others as passed on
    abbrev AreRelayed : FinMap nat_cmp Relayed → Type 0
    AreRelayed m = (j : ℕ) (r : Relayed) → get m j ≡ Some r → (j < size_of_group s.me.f) × IsValid r.change × IsContent (content.ViewChange r.change) × (r.digest ≡ content_digest_of (content.ViewChange r.change)) × (r.change.view ≡ s.view) × IsTags r.tags

    abbrev relayed_one : FinMap nat_cmp Relayed → ℕ → FinMap nat_cmp Relayed
    relayed_one m j = option_map_or (λ (c : HeldChange). insert m j (record { digest = c.digest; change = c.change; tags = c.tags; is_verified = true })) (get s.heard j) m

    one_relayed : (m : FinMap nat_cmp Relayed) (j : ℕ) → ((c : HeldChange) → get s.heard j ≡ Some c → c.change.view ≡ s.view) → AreRelayed m → AreRelayed (relayed_one m j)
    one_relayed m j seen a = by (get s.heard j) refl
      where
        by : (o : Option HeldChange) → get s.heard j ≡ o → AreRelayed (option_map_or (λ (c : HeldChange). insert m j (record { digest = c.digest; change = c.change; tags = c.tags; is_verified = true })) o m)
        by None e = a
        by (Some c) e =
            let new : Relayed = record { digest = c.digest; change = c.change; tags = c.tags; is_verified = true } in
            let x = f.heard j c e in
            (λ q r h. elim (put_cases nat_cmp_total nat_cmp-IsAntisymmetric m j q new r h) [
              | inl y ↦ (
                subst (λ k. k < size_of_group s.me.f) (sym y.0) x.0,
                subst (λ (r : Relayed). IsValid r.change) y.1 x.1,
                subst (λ (r : Relayed). IsContent (content.ViewChange r.change)) y.1 x.2,
                subst (λ (r : Relayed). r.digest ≡ content_digest_of (content.ViewChange r.change)) y.1 x.3,
                subst (λ (r : Relayed). r.change.view ≡ s.view) y.1 (seen c e),
                subst (λ (r : Relayed). IsTags r.tags) y.1 x.4,
              )
              | inr y ↦ a q r y
            ])

    all_relayed : (js : List ℕ) (m : FinMap nat_cmp Relayed) → ((j : ℕ) → Contains js j → (c : HeldChange) → get s.heard j ≡ Some c → c.change.view ≡ s.view) → AreRelayed m → AreRelayed (fold relayed_one m js)
    all_relayed [] m seen a = a
    all_relayed (j ∷ js) m seen a = all_relayed js (relayed_one m j) (λ k c. seen k (there j k js c)) (one_relayed m j (seen j (here j js)) a)

    seen_counted : (j : ℕ) → Contains (filter (λ j. not (j == s.me.index)) (map (λ (h : Heard). h.index) (counted s))) j → (c : HeldChange) → get s.heard j ≡ Some c → c.change.view ≡ s.view
    seen_counted j k c e =
        let r = filter_has (λ j. not (j == s.me.index)) (map (λ (h : Heard). h.index) (counted s)) j k in
        let m = map_has (λ (h : Heard). h.index) (counted s) j r.0 in
        let x = counted_in s m.0 m.1 in
        let both : ◌≡◌ {A = Option HeldChange} (Some x.0) (Some c) = sym x.1 ∙ (ap (λ i. get s.heard i) m.2 ∙ e) in
        ap (λ (y : HeldChange). y.change.view) (sym (same x.0 c both)) ∙ x.2

    pub offered : (s.me.f ≡ 0 → ⊥) → Whole (with_offer s c)
    unfolding with_offer
    offered n = record {
      who = f.who;
      evidence = f.evidence;
      bodies = f.bodies;
      book = f.book;
      votes = f.votes;
      numbers = f.numbers;
      own_votes = f.own_votes;
      waited = f.waited;
      marks = f.marks;
      acks = f.acks;
      needed = f.needed;
      low = f.low;
      pending = f.pending;
      slots = f.slots;
      way = f.way;
      started = λ h l k. nothing offer (sym k);
      new_view = (refl, in_range_offer);
      texts = f.texts;
      dones = f.dones;
      there = f.there;
      chains = f.chains;
      chain = f.chain;
      prepared = f.prepared;
      pre_prepared = f.pre_prepared;
      heard = f.heard;
      own = f.own;
      relayed = all_relayed (filter (λ j. not (j == s.me.index)) (map (λ (h : Heard). h.index) (counted s))) empty seen_counted (λ j r h. absurd (nothing r (sym (get-empty nat_cmp j) ∙ h)));
      alone_view = f.alone_view;
      alone_waited = f.alone_waited;
      alone_held = λ z. absurd (n z);
    }

    -- its last place is a number
    pub offer_last : last_of c ≤ 1000000
    offer_last = last_few s.me.f (counted s) c decided counted_change in_range_offer.place

    offer_whole : (s.me.f ≡ 0 → ⊥) → Whole (entered (with_offer s c) c)
    unfolding with_offer
    offer_whole n =
        entered_fits _ c (offered n) (choice_is s c may).0 (λ k. nothing offer (sym k))
        offer_last (λ d k. in_all IsDigest c.chosen d in_range_offer.chosen k)

pub offer_fits : (s : State) (asked : Counters) (c : Choice) → Whole s → IsEnabled s asked (act.Offer c) → Whole (did s (act.Offer c)).state
unfolding did did_offer
offer_fits s asked c f h = offer_whole s f c (offer_is s c h.1) (ne_is s.me.f 0 h.0)

-- a digest of the possible choice that is asked for
pub chosen_digest : (s : State) → Whole s → (d : List ℕ) → next_need_chosen s ≡ Some d → IsDigest d
chosen_digest s f d h = let n = need_chosen_is s d h in in_all IsDigest n.0.chosen d (in_range_offer s f n.0 n.1).chosen n.2
