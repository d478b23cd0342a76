-- The key of two replicas, whichever is named first.
use Rattle.std.proofs.Common.{◌≡◌, List, ℕ, Option, None, cond, sym, ◌∙◌, ap}
use Rattle.std.specs.FinMap.{get}
use Rattle.pws_base.specs.declared.shapes.ReplicaId.{ReplicaId}
use Rattle.pws_base.specs.Replicas.{is_same}
use Rattle.pws_auth.specs.Pairs.{pair_of}
use Rattle.pws_auth.specs.Keys.{Keys, key_for}
use Rattle.pws_auth.proofs.Puts.{same_itself, turned}
use Rattle.pws_auth.proofs.Rows.{same_turned}
use Rattle.pws_auth.proofs.Found.{none_with_itself}

pub shared : (t : Keys) (a b : ReplicaId) → key_for t a b ≡ key_for t b a
unfolding key_for
shared t a b =
    ap (λ s. cond s None (get t.keys (pair_of a b))) (same_turned a b)
    ∙ ap (λ p. cond (is_same b a) None (get t.keys p)) (turned a b)

pub alone : (t : Keys) (a : ReplicaId) → ◌≡◌ {A = Option (List ℕ)} (key_for t a a) None
alone t a = sym (none_with_itself t a a (same_itself a))
