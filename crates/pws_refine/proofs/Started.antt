-- How a voter begins, and that a voter that fits is ready.
use Rattle.std.proofs.Common.{◌≡◌, inl, inr, ℕ, ◌%◌, ◌≤◌, List, [], ◌∷◌, length, map, Option, Some, None, refl, sym, ◌∙◌, ap, subst, arith}
use Rattle.std.specs.Ordering.{nat_cmp}
use Rattle.std.specs.declared.cmp.Ordering.{Ordering}
use Rattle.std.specs.Cmp.Lexicographic.{slice_cmp}
use Rattle.std.specs.FinMap.{insert, empty, entries, len-entries, len-empty}
use Rattle.std.proofs.lemmas.Cmp.{nat_cmp_total}
use Rattle.std.proofs.lemmas.Map.Lookups.{exact_unsigned}
use Rattle.pws_base.proofs.Maps.{put_cases, put_here}
use Rattle.pws_msg.specs.declared.changes.PRow.{PRow}
use Rattle.pws_msg.specs.declared.changes.QRow.{QRow}
use Rattle.pws_change.specs.Sets.{Digests, p_rows, q_rows, seen_of}
use Rattle.pws_votes.specs.Votes.{key_cmp}
use Rattle.pws_safety.specs.Voters.{new_core}
use Rattle.pws_protocol.specs.Keys.{statement_cmp}
use Rattle.pws_protocol.specs.States.{start, first_chain}
use Rattle.pws_protocol.proofs.Noting.{nothing_there, at_first}
use Rattle.pws_refine.specs.Contexts.{Context}
use Rattle.pws_refine.specs.Ready.{ChainsReady, IsReady}
use Rattle.pws_refine.specs.Laws.{StartStands, FitsIsReady}
use Rattle.pws_refine.proofs.Slots.{slots_none}

first_chains : ChainsReady 0 0 (insert empty 0 first_chain)
first_chains = record {
  at_low = (first_chain, put_here nat_cmp_total empty 0 first_chain);
  places = λ p d h. elim (put_cases nat_cmp_total exact_unsigned empty 0 p first_chain d h) [
    | inl x ↦ subst (λ n. (0 ≤ n) × (n ≤ 0) × (n % 16 ≡ 0)) (sym x.0) (omega arith, omega arith, refl)
    | inr x ↦ absurd (nothing_there nat_cmp p d x)
  ];
  first = λ d h. elim (put_cases nat_cmp_total exact_unsigned empty 0 0 first_chain d h) [
    | inl x ↦ sym x.1
    | inr x ↦ absurd (nothing_there nat_cmp 0 d x)
  ];
}

-- the empty map has no entries
no_items : {X : Type 0} (xs : List X) → length xs ≡ 0 → xs ≡ []
no_items [] h = refl
no_items (x ∷ xs) h = absurd (omega (arith, h))

no_entries : {K X : Type 0} (R : K → K → Ordering) → entries (empty {K = K} {X = X} {R = R}) ≡ []
no_entries {X = X} R = no_items (entries empty) (sym (len-entries empty) ∙ len-empty R X)

no_p_rows : p_rows empty ≡ []
no_p_rows = ap (map (λ (e : ℕ × (List ℕ × ℕ)). let r : PRow = record { place = e.0; digest = e.1.0; view = e.1.1 } in r)) (no_entries nat_cmp)

no_q_rows : q_rows empty ≡ []
no_q_rows = ap (map (λ (e : ℕ × Digests). let r : QRow = record { place = e.0; digests = seen_of e.1 } in r)) (no_entries nat_cmp)

start_ready : (c : Context) → IsReady (start c.me c.layout)
start_ready c = record {
  low = refl;
  done = (omega arith, omega arith);
  chains = first_chains;
  slots = λ p t h. absurd (nothing_there nat_cmp p t h);
  committed = λ p t h. absurd (nothing_there nat_cmp p t h);
  prepared = λ p d v h. absurd (nothing_there nat_cmp p (d, v) h);
  pre_prepared = λ p row h. absurd (nothing_there nat_cmp p row h);
  evidence = at_first c.me.group c.layout;
}

none_some : {A : Type 0} (x : A) → ◌≡◌ {A = Option A} None (Some x) → ⊥
none_some {A} x h = let i : ◌≡◌ {A = Option A} None (Some x) = h in cc

pub start_stands : StartStands
start_stands c sent = (
  λ i. record new_core { slot = slots_none i; prepared = no_p_rows i; pre_prepared = no_q_rows i },
  record {
    is_of = record { me = refl; book = refl; group = refl; layout = refl };
    ready = start_ready c;
    links = record {
      heard = λ j x h. absurd (nothing_there nat_cmp j x h);
      own = λ l. absurd (omega (arith, l));
      acks = λ i j row d h k. absurd (nothing_there nat_cmp i row h);
      new_view = λ v h. absurd (none_some v h);
      relayed = λ j x h. absurd (nothing_there nat_cmp j x h);
      pending = λ p e h. absurd (nothing_there nat_cmp p e h);
      prepares = λ p k d h. absurd (nothing_there key_cmp _ d h);
      commits = λ p k d h. absurd (nothing_there key_cmp _ d h);
      checkpoints = λ p k d h. absurd (nothing_there key_cmp _ d h);
      dones = λ k e h. absurd (nothing_there nat_cmp k e h);
      evidence = λ k x h. absurd (nothing_there statement_cmp k x h);
      texts = λ d e h. absurd (nothing_there (slice_cmp nat_cmp) d e h);
    };
  },
)

pub fits_is_ready : FitsIsReady
fits_is_ready s f = record {
  low = f.low.2;
  done = (f.low.0, f.low.1);
  chains = record {
    at_low = f.chains.there s.low (omega arith) f.low.0 f.low.2;
    places = f.chains.only;
    first = f.chains.first;
  };
  slots = λ p t h. let x = f.places.1 p t h in (x.0, x.1);
  committed = f.committed;
  prepared = λ p d v h. let x = f.rows.places.0 p (d, v) h in ((x.0, x.1), f.rows.prepared p d v h);
  pre_prepared = λ p row h.
      let x = f.rows.places.1 p row h in
      let size = f.rows.row p row h in
      ((x.0, x.1), (size.0, size.1, λ d v k. f.rows.pre_prepared p row d v h k));
  evidence = f.evidence;
}
