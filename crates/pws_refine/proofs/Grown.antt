-- All stands as more is said and more occurs.
use Rattle.std.proofs.Common.{inl, inr, ℕ}
use Rattle.pws_event.specs.Events.{digest_of}
use Rattle.pws_msg.specs.declared.changes.ViewChange.{ViewChange}
use Rattle.pws_safety.specs.Statement.{Statement, PrePrepare, Prepare, Commit, Ack}
use Rattle.pws_safety.specs.Statement as say
use Rattle.pws_safety.specs.Statements.{Told, primary}
use Rattle.pws_safety.specs.Voters.{IsHeard}
use Rattle.pws_refine.specs.Laws.{with_more, StandsAsMoreIsSaid}

pub stands_as_more_is_said : StandsAsMoreIsSaid
stands_as_more_is_said c occurs backed speaks occurs_event before after s grow_occurs grow_speaks grow_events grow st =
    let l = st.links in
    let d = with_more c occurs backed speaks occurs_event in
    let told : (k : ℕ) (x : Statement) → Told c.group before k x → Told d.group after k x = λ k x t. elim t [ inl b ↦ inl b | inr m ↦ inr (grow k x m) ] in
    let heard : (v j : ℕ) (x : ViewChange) → IsHeard c.group before v j x → IsHeard d.group after v j x =
    λ v j x i. record { replica = i.replica; told = told j (say.ViewChange x) i.told; in_view = i.in_view; valid = i.valid; occurs = grow_occurs x i.occurs } in
    record {
      is_of = record { me = st.is_of.me; book = st.is_of.book; group = st.is_of.group; layout = st.is_of.layout };
      ready = st.ready;
      links = record {
        heard = λ j x e. let y = l.heard j x e in (heard x.change.view j x.change y.0, y.1);
        own = l.own;
        acks = λ i j row e h k. let x = l.acks i j row e h k in (x.0, x.1, told i (Ack s.view j e) x.2);
        new_view = λ v e. let x = l.new_view v e in (x.0, told (primary c.group s.view) (say.NewView v) x.1, x.2);
        relayed = λ j r e. let x = l.relayed j r e in (x.0, x.1, x.2, grow_occurs r.change x.3, x.4, λ v. told j (say.ViewChange r.change) (x.5 v));
        pending = λ p e k. let x = l.pending p e k in (x.0, x.1, x.2, x.3, x.4, x.5, told (primary c.group s.view) (PrePrepare s.view p (digest_of e)) x.6, grow_events e x.7);
        prepares = λ p k e h. let x = l.prepares p k e h in (x.0, told k (Prepare s.view p e) x.1);
        commits = λ p k e h. told k (Commit s.view p e) (l.commits p k e h);
        checkpoints = λ p k e h. grow_speaks _ _ (l.checkpoints p k e h);
        dones = λ k e h. let x = l.dones k e h in (grow_speaks _ _ x.0, x.1);
        evidence = λ k x h. grow_speaks k.sender x (l.evidence k x h);
        texts = l.texts;
      };
    }
