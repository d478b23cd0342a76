-- A move changes one replica, and only adds to what was sent.
use Rattle.std.proofs.Common.{◌≡◌, Bool, false, cond, List, [], ◌++◌, Option, Some, None, refl, sym, ◌∙◌, ap}
use Rattle.std.specs.FinMap.{FinMap, get, insert, get-insert}
use Rattle.std.specs.List.{filter_map}
use Rattle.std.specs.Ordering.{is_eq}
use Rattle.std.specs.declared.cmp.Ordering.{Ordering}
use Rattle.std.specs.declared.cmp.Ordering.TheVariants.{Less, Equal, Greater}
use Rattle.std.proofs.lemmas.List.{append-nil}
use Rattle.pws_base.specs.declared.shapes.ReplicaId.{ReplicaId}
use Rattle.pws_base.specs.Replicas.{replica_cmp}
use Rattle.pws_base.proofs.ReplicaOrder.{replicas_total, replicas_exact}
use Rattle.pws_msg.specs.Packets.{PacketFields}
use Rattle.pws_runs.specs.ReplicaStates.{ReplicaState, Input}
use Rattle.pws_runs.specs.Worlds.{Setting, WorldState}
use Rattle.pws_runs.specs.Steps.{step}
use Rattle.pws_runs.specs.Moves.{Move, receiver, input_of, sent_by, world_after, moved_by, moved}

not_equal : (o : Ordering) → (o ≡ Equal → ⊥) → is_eq o ≡ false
not_equal Less h = refl
not_equal Equal h = absurd (h refl)
not_equal Greater h = refl

other_stays : (m : FinMap replica_cmp ReplicaState) (to r : ReplicaId) (s : ReplicaState) → (r ≡ to → ⊥) → get (insert m to s) r ≡ get m r
other_stays m to r s ne =
    get-insert replicas_total m to s r
    ∙ ap (λ (b : Bool). cond b (Some s) (get m r)) (not_equal (replica_cmp r to) (λ h. ne (replicas_exact r to h)))

others_by : (e : Setting) (w : WorldState) (to r : ReplicaId) (s : Option ReplicaState) (i : Option Input) → (r ≡ to → ⊥) → get (moved_by e w to s i).replicas r ≡ get w.replicas r
unfolding world_after
others_by e w to r None i ne = refl
others_by e w to r (Some s) None ne = refl
others_by e w to r (Some s) (Some i) ne = other_stays w.replicas to r (step (e.serve to.group) s i).state ne

pub others_stay : (e : Setting) (w : WorldState) (m : Move) (r : ReplicaId) → (r ≡ receiver m → ⊥) → get (moved e w m).replicas r ≡ get w.replicas r
unfolding moved
others_stay e w m r ne = others_by e w (receiver m) r (get w.replicas (receiver m)) (input_of w m) ne

-- what was sent goes on
abbrev GoesOn : List PacketFields → List PacketFields → Type 0
GoesOn before after = (more : List PacketFields) × (after ≡ before ++ more)

sent_by_all : (e : Setting) (w : WorldState) (to : ReplicaId) (s : Option ReplicaState) (i : Option Input) → GoesOn w.sent (moved_by e w to s i).sent
unfolding world_after
sent_by_all e w to None i = ([], sym (append-nil w.sent))
sent_by_all e w to (Some s) None = ([], sym (append-nil w.sent))
sent_by_all e w to (Some s) (Some i) = (filter_map sent_by (step (e.serve to.group) s i).outs, refl)

pub sent_goes_on : (e : Setting) (w : WorldState) (m : Move) → GoesOn w.sent (moved e w m).sent
unfolding moved
sent_goes_on e w m = sent_by_all e w (receiver m) (get w.replicas (receiver m)) (input_of w m)
