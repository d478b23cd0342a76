-- What evidence keeps after a statement was noted, and after it was settled.
use Rattle.std.proofs.Common.{◌≡◌, ◌⊎◌, inl, inr, Bool, true, false, cond, List, ℕ, Option, Some, None, refl, ap, ◌&&◌, is_some}
use Rattle.std.specs.FinMap.{get}
use Rattle.pws_base.specs.declared.shapes.ReplicaId.{ReplicaId}
use Rattle.pws_base.proofs.Maps.{put_cases, retain_cases}
use Rattle.pws_event.specs.Counters.{Counters}
use Rattle.pws_msg.specs.declared.contents.Content.{Content}
use Rattle.pws_votes.specs.declared.kinds.Vote.TheVariants.{Kept, Outside, Already}
use Rattle.pws_protocol.specs.declared.keys.Matter.{Matter}
use Rattle.pws_protocol.specs.declared.keys.StatementKey.{StatementKey}
use Rattle.pws_protocol.specs.declared.keys.BodyKey.{BodyKey}
use Rattle.pws_protocol.specs.Keys.{statement_key}
use Rattle.pws_protocol.specs.Evidence.{Evidence, matter_of, is_inside, settled, same_statement, first_of, new_body, with_body, with_statement, Noted, noted, note_after, note_about, note}
use Rattle.pws_protocol.proofs.Keyed.{keys_are_ordered}

-- of one store after another: the same group, and statements that stood, or this sender's
pub record IsAfter (sender : ReplicaId) (c : Content) (e f : Evidence) : Type 0 where
  pub group : f.group ≡ e.group
  pub layout : f.layout ≡ e.layout
  pub statements : (k : StatementKey) (x : Content) → get f.statements k ≡ Some x → (get e.statements k ≡ Some x) ⊎ ((k.sender ≡ sender) × (c ≡ x))

module _ (sender : ReplicaId) (c : Content) (e : Evidence) where
  still : IsAfter sender c e e
  still = record { group = refl; layout = refl; statements = λ k x h. inl h }

  body_after : (f : Evidence) (new : Option BodyKey) (body : List ℕ) → IsAfter sender c e f → IsAfter sender c e (with_body f new body)
  body_after f None body i = i
  body_after f (Some k) body i = record { group = i.group; layout = i.layout; statements = i.statements }

  statement_after : (m : Matter) → IsAfter sender c e (with_statement e (statement_key sender m) c)
  statement_after m = record {
    group = refl;
    layout = refl;
    statements = λ k x h. elim (put_cases keys_are_ordered.statements keys_are_ordered.statements_exact e.statements (statement_key sender m) k c x h) [
      | inl y ↦ inr (ap (λ (z : StatementKey). z.sender) y.0, y.1)
      | inr y ↦ inl y
    ];
  }

  by_test : (b : Bool) (f : Evidence) → IsAfter sender c e f → IsAfter sender c e (cond b (noted f Kept) (noted e Already)).evidence
  by_test true f i = i
  by_test false f i = still

  first_after : (o : Option Content) (m : Matter) (new : Option BodyKey) (body : List ℕ) → IsAfter sender c e (note_after o e (statement_key sender m) c new body).evidence
  unfolding note_after
  first_after None m new body = body_after (with_statement e (statement_key sender m) c) new body (statement_after m)
  first_after (Some first) m new body = by_test (same_statement first c && is_some new) (with_body e new body) (body_after e new body still)

  by_inside : (b : Bool) (n : Noted) → IsAfter sender c e n.evidence → IsAfter sender c e (cond b n (noted e Outside)).evidence
  by_inside true n i = i
  by_inside false n i = still

  matter_after : (o : Option Matter) (asked : Counters) (body : List ℕ) → IsAfter sender c e (note_about o e asked sender c body).evidence
  matter_after None asked body = still
  matter_after (Some m) asked body = by_inside (is_inside e asked m) (note_after (first_of e sender m) e (statement_key sender m) c (new_body e sender c body) body) (first_after (first_of e sender m) m (new_body e sender c body) body)

pub note_after_is : (e : Evidence) (asked : Counters) (sender : ReplicaId) (c : Content) (body : List ℕ) → IsAfter sender c e (note e asked sender c body).evidence
unfolding note
note_after_is e asked sender c body = matter_after sender c e (matter_of e.group sender c) asked body

-- what is left after settling stood before
pub settled_statement : (e : Evidence) (asked : Counters) (k : StatementKey) (x : Content) → get (settled e asked).statements k ≡ Some x → get e.statements k ≡ Some x
unfolding settled
settled_statement e asked k x h = (retain_cases keys_are_ordered.statements_exact e.statements (λ y. is_inside e asked y.matter) k x h).1

pub settled_group : (e : Evidence) (asked : Counters) → ((settled e asked).group ≡ e.group) × ((settled e asked).layout ≡ e.layout)
unfolding settled
settled_group e asked = (refl, refl)
