-- A voter that has heard nothing fits.
use Rattle.std.proofs.Common.{◌≡◌, inl, inr, ℕ, ◌%◌, ◌≤◌, List, length, Some, refl, sym, ◌∙◌, subst, cond, ap, arith}
use Rattle.std.specs.Ordering.{nat_cmp, is_eq}
use Rattle.std.specs.Cmp.{nat_cmp_total, tied_itself}
use Rattle.std.specs.Cmp.Lexicographic.{slice_cmp}
use Rattle.std.specs.FinMap.{empty, get, insert, get-insert, nat_cmp-IsAntisymmetric}
use Rattle.std.specs.FinSet.{contains-empty}
use Rattle.std.proofs.lemmas.Bool.{false≢true}
use Rattle.pws_msg.specs.Rows.{IsDigest}
use Rattle.pws_votes.specs.declared.kinds.VoteKind.TheVariants as kind
use Rattle.pws_votes.specs.Votes.{key, key_cmp}
use Rattle.pws_protocol.specs.Keys.{body_cmp}
use Rattle.pws_protocol.specs.Evidence.{no_evidence}
use Rattle.pws_protocol.specs.States.{Me, start, first_chain}
use Rattle.pws_protocol.specs.Fits.{FitsSizes, FitsMarks, FitsVotes, FitsAcks, FitsDigests, FitsTags, FitsChains, FitsRows, FitsChanges, IsAloneAtFirst, IsWithin}
use Rattle.pws_protocol.specs.Laws.{StartFits}
use Rattle.pws_protocol.proofs.Noting.{put_cases, nothing_there, at_first}

nowhere : {X : Type 0} (low : ℕ) → IsWithin {X = X} low empty
nowhere low p x h = absurd (nothing_there nat_cmp p x h)

-- the one chain digest
one_chain : (p : ℕ) (d : List ℕ) → get (insert (empty {X = List ℕ} {R = nat_cmp}) 0 first_chain) p ≡ Some d → (p ≡ 0) × (d ≡ first_chain)
one_chain p d h = elim (put_cases nat_cmp_total nat_cmp-IsAntisymmetric (empty {X = List ℕ} {R = nat_cmp}) 0 p first_chain d h) [
  | inl s ↦ (s.0, sym s.1)
  | inr s ↦ absurd (nothing_there nat_cmp p d s)
]

chain_there : get (insert (empty {X = List ℕ} {R = nat_cmp}) 0 first_chain) 0 ≡ Some first_chain
chain_there = get-insert nat_cmp_total (empty {X = List ℕ} {R = nat_cmp}) 0 first_chain 0 ∙ ap (λ r. cond (is_eq r) (Some first_chain) (get (empty {X = List ℕ} {R = nat_cmp}) 0)) (tied_itself nat_cmp_total 0)

module _ (me : Me) (layout : List ℕ) where
  chains_fit : FitsChains (start me layout)
  chains_fit = record {
    there = λ p a b e. (first_chain, (let z : 0 ≡ p = omega arith in subst (λ q. get (insert (empty {X = List ℕ} {R = nat_cmp}) 0 first_chain) q ≡ Some first_chain) z chain_there));
    only = λ p d h. (let z = (one_chain p d h).0 in (omega arith, omega (arith, z), subst (λ q. q % 16 ≡ 0) (sym z) refl));
    first = λ d h. (one_chain 0 d h).1;
    last = λ d h. (one_chain 0 d h).1;
  }

  rows_fit : FitsRows (start me layout)
  rows_fit = record {
    places = (nowhere 0, nowhere 0);
    prepared = λ p d v h. absurd (nothing_there nat_cmp p (d, v) h);
    row = λ p row h. absurd (nothing_there nat_cmp p row h);
    pre_prepared = λ p row d v h k. absurd (nothing_there nat_cmp p row h);
  }

  changes_fit : FitsChanges (start me layout)
  changes_fit = record {
    heard = λ j c h. absurd (nothing_there nat_cmp j c h);
    relayed = λ j c h. absurd (nothing_there nat_cmp j c h);
    own = λ l. absurd (omega arith);
  }

  marks_fit : FitsMarks (start me layout)
  marks_fit = record { floor = omega arith; last = (omega arith, omega arith) }

  votes_fit : FitsVotes (start me layout)
  votes_fit = record {
    voter = λ k d h. absurd (nothing_there key_cmp k d h);
    place = λ k d h. absurd (nothing_there key_cmp k d h);
    own = λ p d h. absurd (nothing_there key_cmp (key kind.Checkpoint p me.index) d h);
  }

  acks_fit : FitsAcks (start me layout)
  acks_fit = record {
    from = λ i row h. absurd (nothing_there nat_cmp i row h);
    about = λ i j row d h k. absurd (nothing_there nat_cmp i row h);
  }

  digests_fit : FitsDigests (start me layout)
  digests_fit = record {
    chain = refl;
    chains = λ p d h. subst IsDigest (sym (one_chain p d h).1) refl;
    slots = λ p t h. absurd (nothing_there nat_cmp p t h);
    votes = λ k d h. absurd (nothing_there key_cmp k d h);
    prepared = λ p d v h. absurd (nothing_there nat_cmp p (d, v) h);
    pre_prepared = λ p row d v h k. absurd (nothing_there nat_cmp p row h);
    acks = λ i j row d h k. absurd (nothing_there nat_cmp i row h);
    needed = λ d h. absurd (false≢true (sym (contains-empty (slice_cmp nat_cmp) d) ∙ h));
    heard = λ j c h. absurd (nothing_there nat_cmp j c h);
    relayed = λ j c h. absurd (nothing_there nat_cmp j c h);
  }

  tags_fit : FitsTags (start me layout)
  tags_fit = record {
    heard = λ j c h. absurd (nothing_there nat_cmp j c h);
    relayed = λ j c h. absurd (nothing_there nat_cmp j c h);
  }

  sizes_fit : length layout ≤ 16 → FitsSizes (no_evidence me.group layout)
  sizes_fit groups = record {
    layout = groups;
    bodies = λ k b h. absurd (nothing_there body_cmp k b h);
  }

  alone_fits : IsAloneAtFirst (start me layout)
  alone_fits = record { view = (refl, refl, refl, refl, refl); nothing = (refl, refl, refl, refl, refl) }

pub start_fits : StartFits
start_fits me layout index small shape groups = record {
  me = (index, small, shape);
  group = refl;
  book = (refl, refl);
  numbers = (omega arith, omega arith, omega arith, omega arith);
  low = (omega arith, omega arith, refl);
  places = (nowhere 0, nowhere 0);
  accepted = λ p t h. absurd (nothing_there nat_cmp p t h);
  committed = λ p t h k. absurd (nothing_there nat_cmp p t h);
  pending = λ p e h. absurd (nothing_there nat_cmp p e h);
  on_the_way = λ h. absurd (false≢true (sym h));
  started = λ h l. absurd (omega arith);
  new_view = tt;
  texts = λ d e h. absurd (nothing_there (slice_cmp nat_cmp) d e h);
  dones = λ j e h. absurd (nothing_there nat_cmp j e h);
  chains = chains_fit me layout;
  rows = rows_fit me layout;
  changes = changes_fit me layout;
  evidence = at_first me.group layout;
  sizes = sizes_fit me layout groups;
  marks = marks_fit me layout;
  votes = votes_fit me layout;
  acks = acks_fit me layout;
  digests = digests_fit me layout;
  tags = tags_fit me layout;
  alone = λ h. alone_fits me layout;
}
