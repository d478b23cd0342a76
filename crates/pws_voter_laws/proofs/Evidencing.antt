-- What fits after evidence was noted or settled.
use Rattle.std.proofs.Common.{◌≡◌, ◌⊎◌, inl, inr, ℕ, ◌≤◌, ◌&&◌, is_some, Bool, true, false, if◌then◌else◌, List, length, Option, Some, None, refl, sym, ◌∙◌, subst}
use Rattle.std.specs.Prelude.{slice_get}
use Rattle.std.specs.FinMap.{get}
use Rattle.pws_base.specs.declared.shapes.ReplicaId.{ReplicaId}
use Rattle.pws_base.proofs.Maps.{put_cases, retain_cases}
use Rattle.pws_event.specs.Counters.{Counters}
use Rattle.pws_msg.specs.Contents.{IsContent}
use Rattle.pws_msg.specs.declared.contents.Content.{Content}
use Rattle.pws_votes.specs.declared.kinds.Vote.TheVariants.{Kept, Outside, Already}
use Rattle.pws_protocol.specs.declared.keys.Matter.{Matter}
use Rattle.pws_protocol.specs.declared.keys.Matter.TheVariants.{Replied}
use Rattle.pws_protocol.specs.declared.keys.StatementKey.{StatementKey}
use Rattle.pws_protocol.specs.declared.keys.BodyKey.{BodyKey}
use Rattle.pws_protocol.specs.Keys.{statement_key}
use Rattle.pws_protocol.specs.Evidence.{Evidence, matter_of, first_of, is_inside, settled, same_statement, new_body, with_body, with_statement, Noted, noted, note_after, note_about, note}
use Rattle.pws_protocol.specs.States.{State}
use Rattle.pws_protocol.specs.Reactions.{settled_state}
use Rattle.pws_protocol.specs.Fits.{FitsEvidence}
use Rattle.pws_protocol.proofs.Keyed.{keys_are_ordered}
use Rattle.pws_protocol.proofs.Noting.{after_noting, after_settling}
use Rattle.pws_voter_laws.proofs.Parts.{Whole}

settled_evidence : (e : Evidence) (asked : Counters) → FitsEvidence e → FitsEvidence (settled e asked)
settled_evidence = after_settling

-- the group and the layout stay, and the bodies are those of before, or this one
abbrev pub Goes : List ℕ → Evidence → Evidence → Type 0
Goes body e n = (n.group ≡ e.group) × (n.layout ≡ e.layout) × ((k : BodyKey) (b : List ℕ) → get n.bodies k ≡ Some b → (get e.bodies k ≡ Some b) ⊎ (body ≡ b))

with_goes : (e n : Evidence) (new : Option BodyKey) (body : List ℕ) → Goes body e n → Goes body e (with_body n new body)
with_goes e n None body g = g
with_goes e n (Some x) body g = (g.0, g.1, λ k b h. elim (put_cases keys_are_ordered.bodies keys_are_ordered.bodies_exact n.bodies x k body b h) [ inl y ↦ inr y.1 | inr y ↦ g.2 k b y ])

itself : (body : List ℕ) (e : Evidence) → Goes body e e
itself body e = (refl, refl, λ k b h. inl h)

by_test : (body : List ℕ) (e n : Evidence) (b : Bool) → Goes body e n → Goes body e (if b then noted n Kept else noted e Already).evidence
by_test body e n true g = g
by_test body e n false g = itself body e

after_goes : (e : Evidence) (o : Option Content) (k : StatementKey) (c : Content) (new : Option BodyKey) (body : List ℕ) → Goes body e (note_after o e k c new body).evidence
unfolding note_after
after_goes e None k c new body = with_goes e (with_statement e k c) new body (refl, refl, λ k b h. inl h)
after_goes e (Some first) k c new body = by_test body e (with_body e new body) (same_statement first c && is_some new) (with_goes e e new body (itself body e))

by_inside : (body : List ℕ) (e : Evidence) (n : Noted) (b : Bool) → Goes body e n.evidence → Goes body e (if b then n else noted e Outside).evidence
by_inside body e n true g = g
by_inside body e n false g = itself body e

about_goes : (e : Evidence) (asked : Counters) (sender : ReplicaId) (o : Option Matter) (c : Content) (body : List ℕ) → Goes body e (note_about o e asked sender c body).evidence
about_goes e asked sender None c body = itself body e
about_goes e asked sender (Some m) c body =
    by_inside body e (note_after (first_of e sender m) e (statement_key sender m) c (new_body e sender c body) body) (is_inside e asked m)
    (after_goes e (first_of e sender m) (statement_key sender m) c (new_body e sender c body) body)

pub note_goes : (e : Evidence) (asked : Counters) (sender : ReplicaId) (c : Content) (body : List ℕ) → Goes body e (note e asked sender c body).evidence
unfolding note
note_goes e asked sender c body = about_goes e asked sender (matter_of e.group sender c) c body

pub noted_fits : (s : State) (asked : Counters) (sender : ReplicaId) (c : Content) (body : List ℕ) → Whole s → IsContent c → length body ≤ 32768 → Whole (record s { evidence = (note s.evidence asked sender c body).evidence })
noted_fits s asked sender c body f i short =
    let g = note_goes s.evidence asked sender c body in
    record {
      who = (f.who.0, f.who.1, subst (λ l. slice_get l s.me.group ≡ Some s.me.f) (sym g.1) f.who.2, g.0 ∙ f.who.3, subst (λ (l : List ℕ). length l ≤ 16) (sym g.1) f.who.4);
      evidence = after_noting s.evidence asked sender c body i f.evidence;
      bodies = λ k b h. elim (g.2 k b h) [ inl x ↦ f.bodies k b x | inr x ↦ subst (λ (y : List ℕ). length y ≤ 32768) x short ];
      book = f.book;
      votes = f.votes;
      numbers = f.numbers;
      own_votes = f.own_votes;
      waited = f.waited;
      marks = f.marks;
      acks = f.acks;
      needed = f.needed;
      low = f.low;
      pending = f.pending;
      slots = f.slots;
      way = f.way;
      started = f.started;
      new_view = f.new_view;
      texts = f.texts;
      dones = f.dones;
      there = f.there;
      chains = f.chains;
      chain = f.chain;
      prepared = f.prepared;
      pre_prepared = f.pre_prepared;
      heard = f.heard;
      own = f.own;
      relayed = f.relayed;
      alone_view = f.alone_view;
      alone_waited = f.alone_waited;
      alone_held = f.alone_held;
    }

pub settled_fits : (s : State) (asked : Counters) → Whole s → Whole (settled_state s asked)
unfolding settled_state settled
settled_fits s asked f = record {
  who = f.who;
  evidence = settled_evidence s.evidence asked f.evidence;
  bodies = λ k b h. f.bodies k b (retain_cases keys_are_ordered.bodies_exact s.evidence.bodies (λ k. is_inside s.evidence asked (Replied k.called k.number)) k b h).1;
  book = f.book;
  votes = f.votes;
  numbers = f.numbers;
  own_votes = f.own_votes;
  waited = f.waited;
  marks = f.marks;
  acks = f.acks;
  needed = f.needed;
  low = f.low;
  pending = f.pending;
  slots = f.slots;
  way = f.way;
  started = f.started;
  new_view = f.new_view;
  texts = f.texts;
  dones = f.dones;
  there = f.there;
  chains = f.chains;
  chain = f.chain;
  prepared = f.prepared;
  pre_prepared = f.pre_prepared;
  heard = f.heard;
  own = f.own;
  relayed = f.relayed;
  alone_view = f.alone_view;
  alone_waited = f.alone_waited;
  alone_held = f.alone_held;
}
