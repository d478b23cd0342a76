-- What fits before an event is executed fits after it: the own next place, or what others say of it.
use Rattle.std.proofs.Common.{◌≡◌, inl, inr, ℕ, ◌+◌, ◌≤◌, ◌%◌, ◌==◌, Bool, true, false, if◌then◌else◌, List, ◌++◌, Some, refl, sym, ◌∙◌, subst, arith}
use Rattle.std.specs.Ordering.{nat_cmp}
use Rattle.std.specs.Cmp.{nat_cmp_total}
use Rattle.std.specs.FinMap.{FinMap, get, insert, get-empty, nat_cmp-IsAntisymmetric}
use Rattle.std.proofs.lemmas.Bool.{cases_eq}
use Rattle.sha2.proofs.Facts256.{length-sha256}
use Rattle.pws_base.proofs.Maps.{put_cases, put_here, put_other}
use Rattle.pws_event.specs.declared.events.Event.{Event}
use Rattle.pws_event.specs.Events.{digest_of}
use Rattle.pws_event.specs.Counters.{Counters}
use Rattle.pws_msg.specs.Rows.{IsDigest}
use Rattle.pws_protocol.specs.States.{State, first_chain}
use Rattle.pws_protocol.specs.Actions as act
use Rattle.pws_protocol.specs.Doing.{did, did_execute, executed, next_chain}
use Rattle.pws_voter_laws.specs.Enabled.{IsEnabled}
use Rattle.pws_voter_laws.proofs.Found.{nothing}
use Rattle.pws_voter_laws.proofs.Parts.{Whole}
use Rattle.pws_voter_laws.proofs.Tests.{eq_is, ne_is, execute_is_open, adopt_is_open}

module _ (s : State) (f : Whole s) (e : Event) (few : s.done + 1 ≤ 1000000) (near : s.done + 1 ≤ s.low + 32) where
  digest : IsDigest (next_chain s e)
  digest = length-sha256 (s.chain ++ digest_of e)

  -- the chains after it, by whether its place is a multiple of 16
  abbrev chains_by : Bool → FinMap nat_cmp (List ℕ)
  chains_by b = if b then insert s.chains (s.done + 1) (next_chain s e) else s.chains

  there_by : (b : Bool) → ((s.done + 1) % 16 == 0) ≡ b → (p : ℕ) → s.low ≤ p → p ≤ s.done + 1 → p % 16 ≡ 0 → (d : List ℕ) × (get (chains_by b) p ≡ Some d)
  there_by true q p low top m = elim (cases_eq p (s.done + 1)) [
    | inl z ↦ (next_chain s e, subst (λ n. get (insert s.chains (s.done + 1) (next_chain s e)) n ≡ Some (next_chain s e)) (sym z) (put_here nat_cmp_total s.chains (s.done + 1) (next_chain s e)))
    | inr n ↦ (let o = f.there p low (omega (arith, top, n)) m in (o.0, put_other nat_cmp_total nat_cmp-IsAntisymmetric s.chains (s.done + 1) p (next_chain s e) n ∙ o.1))
  ]
  there_by false q p low top m = elim (cases_eq p (s.done + 1)) [
    | inl z ↦ absurd (ne_is ((s.done + 1) % 16) 0 q (subst (λ n. n % 16 ≡ 0) z m))
    | inr n ↦ f.there p low (omega (arith, top, n)) m
  ]

  -- what was there before is below the new place
  old_chain : (p : ℕ) (d : List ℕ) → get s.chains p ≡ Some d → (s.low ≤ p) × (p ≤ s.done + 1) × (p % 16 ≡ 0) × (p ≡ 0 → d ≡ first_chain) × (p ≡ s.done + 1 → d ≡ next_chain s e) × IsDigest d
  old_chain p d h = let o = f.chains p d h in let u = o.1 in (o.0, omega (arith, u), o.2, o.3, λ y. absurd (omega (arith, u, y)), o.5)

  chain_by : (b : Bool) → ((s.done + 1) % 16 == 0) ≡ b → (p : ℕ) (d : List ℕ) → get (chains_by b) p ≡ Some d
      → (s.low ≤ p) × (p ≤ s.done + 1) × (p % 16 ≡ 0) × (p ≡ 0 → d ≡ first_chain) × (p ≡ s.done + 1 → d ≡ next_chain s e) × IsDigest d
  chain_by true q p d h = elim (put_cases nat_cmp_total nat_cmp-IsAntisymmetric s.chains (s.done + 1) p (next_chain s e) d h) [
    | inl x ↦ (
        let z = x.0 in
        let l = f.low.0 in
        (omega (arith, z, l), omega (arith, z), subst (λ n. n % 16 ≡ 0) (sym z) (eq_is ((s.done + 1) % 16) 0 q), λ y. absurd (omega (arith, z, y)), λ y. sym x.1, subst IsDigest x.1 digest))
    | inr x ↦ old_chain p d x
  ]
  chain_by false q p d h = old_chain p d h

  -- a chain that was there stays
  chain_stays : (b : Bool) (p : ℕ) (d : List ℕ) → get s.chains p ≡ Some d → get (chains_by b) p ≡ Some d
  chain_stays true p d h = let u = (f.chains p d h).1 in put_other nat_cmp_total nat_cmp-IsAntisymmetric s.chains (s.done + 1) p (next_chain s e) (λ y. omega (arith, u, y)) ∙ h
  chain_stays false p d h = h

  executed_fits : Whole (did_execute s e).state
  unfolding did_execute executed
  executed_fits = record {
    who = f.who;
    evidence = f.evidence;
    bodies = f.bodies;
    book = f.book;
    votes = f.votes;
    numbers = (f.numbers.0, few, omega arith);
    own_votes = λ p d h. chain_stays ((s.done + 1) % 16 == 0) p d (f.own_votes p d h);
    waited = omega arith;
    marks = f.marks;
    acks = f.acks;
    needed = f.needed;
    low = ((let l = f.low.0 in omega (arith, l)), near, f.low.2);
    pending = f.pending;
    slots = f.slots;
    way = f.way;
    started = f.started;
    new_view = f.new_view;
    texts = f.texts;
    dones = λ j x h. absurd (nothing x (sym (get-empty nat_cmp j) ∙ h));
    there = there_by ((s.done + 1) % 16 == 0) refl;
    chains = chain_by ((s.done + 1) % 16 == 0) refl;
    chain = digest;
    prepared = f.prepared;
    pre_prepared = f.pre_prepared;
    heard = f.heard;
    own = f.own;
    relayed = f.relayed;
    alone_view = λ z. let a = f.alone_view z in (a.0, a.1, a.2, refl);
    alone_waited = λ z. refl;
    alone_held = λ z. let a = f.alone_held z in (a.0, a.1, a.2, a.3, refl);
  }

pub execute_fits : (s : State) (asked : Counters) (e : Event) → Whole s → IsEnabled s asked (act.Execute e) → Whole (did s (act.Execute e)).state
unfolding did
execute_fits s asked e f h =
    let o = execute_is_open s e h in
    let p = (f.slots (s.done + 1) o.0 o.1).0 in
    executed_fits s f e p.2 p.1

pub adopt_fits : (s : State) (asked : Counters) (e : Event) → Whole s → IsEnabled s asked (act.Adopt e) → Whole (did s (act.Adopt e)).state
unfolding did
adopt_fits s asked e f h =
    let o = adopt_is_open s e h in
    let d = f.dones o.1.0 e o.1.1 in
    let a = d.1 in
    let b = d.3 in
    executed_fits s f e (omega (arith, a)) (omega (arith, b))
