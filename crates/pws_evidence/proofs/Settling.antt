-- Evidence that is settled stays so.
use Rattle.std.proofs.Common.{◌≡◌, inl, inr, ℕ, ◌≤◌, ◌&&◌, ◌==◌, not, Bool, true, false, if◌then◌else◌, List, length, is_some, Option, Some, None, refl, sym, ◌∙◌, ap, subst}
use Rattle.std.specs.Prelude.{Result, Ok, Err, OnOk, OnErr}
use Rattle.std.specs.Str.{bytes_eq}
use Rattle.std.specs.FinMap.{get, contains_key}
use Rattle.std.proofs.lemmas.Bool.{and_parts, false≢true}
use Rattle.std.proofs.lemmas.Slice.Eq.{bytes_eq-Decides}
use Rattle.sha2.specs.Sha256.{sha256}
use Rattle.pws_base.specs.declared.shapes.ReplicaId.{ReplicaId}
use Rattle.pws_base.specs.Shapes.{has_replica}
use Rattle.pws_base.proofs.Maps.{put_cases, put_here, put_other, retain_cases, retain_kept}
use Rattle.pws_event.specs.Counters.{Counters}
use Rattle.pws_msg.specs.declared.contents.Content.{Content}
use Rattle.pws_msg.specs.declared.contents.Content.TheVariants as content
use Rattle.pws_msg.specs.Contents.{IsContent}
use Rattle.pws_msg.specs.Statements.{ReplyNoteFields}
use Rattle.pws_votes.specs.declared.kinds.Vote.TheVariants.{Kept, Outside, Already}
use Rattle.pws_protocol.specs.declared.keys.Matter.{Matter}
use Rattle.pws_protocol.specs.declared.keys.Matter.TheVariants.{Replied}
use Rattle.pws_protocol.specs.declared.keys.StatementKey.{StatementKey}
use Rattle.pws_protocol.specs.declared.keys.BodyKey.{BodyKey}
use Rattle.pws_protocol.specs.Keys.{replica, statement_key, body_key, statement_cmp, body_cmp}
use Rattle.pws_protocol.specs.Evidence.{Evidence, matter_of, is_inside, settled, same_statement, new_body, with_body, with_statement, noted, note, note_after, note_about}
use Rattle.pws_protocol.specs.Held.{evidence_held}
use Rattle.pws_protocol.proofs.Keyed.{keys_are_ordered}
use Rattle.pws_protocol.proofs.Noting.{at_first, after_settling, nothing_there}
use Rattle.pws_evidence.specs.Stores.{IsStore}
use Rattle.pws_evidence.specs.Bounds.{max_evidence, IsSettled, IsNaming, StartIsSettled, SettlingSettles, HearingKeepsSettled}
use Rattle.pws_evidence.proofs.Bounded.{evidence_is_bounded}
use Rattle.pws_evidence.proofs.Stored.{inside_is, after_body, after_statement}

pub start_is_settled : StartIsSettled
start_is_settled group layout asked p = record {
  placed = p;
  fits = at_first group layout;
  senders = λ k c h. absurd (nothing_there statement_cmp k c h);
  inside = λ k c h. absurd (nothing_there statement_cmp k c h);
  short = λ k b h. absurd (nothing_there body_cmp k b h);
  named = λ k b h. absurd (nothing_there body_cmp k b h);
}

pub settling_settles : SettlingSettles
unfolding settled
settling_settles e before asked s =
    let p : StatementKey → Bool = λ k. is_inside e asked k.matter in
    let q : BodyKey → Bool = λ x. is_inside e asked (Replied x.called x.number) in
    record {
      placed = s.placed;
      fits = after_settling e asked s.fits;
      senders = λ k c h. s.senders k c (retain_cases keys_are_ordered.statements_exact e.statements p k c h).1;
      inside = λ k c h. sym (inside_is (settled e asked) asked k.matter) ∙ (inside_is e asked k.matter ∙ (retain_cases keys_are_ordered.statements_exact e.statements p k c h).0);
      short = λ k b h. s.short k b (retain_cases keys_are_ordered.bodies_exact e.bodies q k b h).1;
      named = λ k b h.
          let c = retain_cases keys_are_ordered.bodies_exact e.bodies q k b h in
          let d = s.named k b c.1 in
          (d.0, d.1, retain_kept keys_are_ordered.statements_exact e.statements p (statement_key (replica k.called d.0) (Replied k.called k.number)) c.0 ∙ d.2, d.3);
    }

none_some : {X : Type 0} (x : X) → ◌≡◌ {A = Option X} None (Some x) → ⊥
none_some x h = cc

module _ (e : Evidence) (asked : Counters) (s : IsSettled e asked) where
  store : IsStore e
  store = record { fits = s.fits; short = s.short }

  -- with a first statement
  statement_settled : (n : StatementKey) (c : Content) → matter_of e.group n.sender c ≡ Some n.matter → IsContent c → has_replica e.layout n.sender ≡ true → is_inside e asked n.matter ≡ true
      → get e.statements n ≡ None → IsSettled (with_statement e n c) asked
  statement_settled n c m i r t f = record {
    placed = s.placed;
    fits = (after_statement e n c m i store).fits;
    senders = λ k x h. elim (put_cases keys_are_ordered.statements keys_are_ordered.statements_exact e.statements n k c x h) [
      | inl q ↦ subst (λ (y : StatementKey). has_replica e.layout y.sender ≡ true) (sym q.0) r
      | inr q ↦ s.senders k x q
    ];
    inside = λ k x h. sym (inside_is (with_statement e n c) asked k.matter) ∙ (inside_is e asked k.matter ∙ elim (put_cases keys_are_ordered.statements keys_are_ordered.statements_exact e.statements n k c x h) [
      | inl q ↦ subst (λ (y : StatementKey). is_inside e asked y.matter ≡ true) (sym q.0) t
      | inr q ↦ s.inside k x q
    ]);
    short = s.short;
    named = λ k b h.
        let d = s.named k b h in
        let key = statement_key (replica k.called d.0) (Replied k.called k.number) in
        (d.0, d.1, put_other keys_are_ordered.statements keys_are_ordered.statements_exact e.statements n key c (λ q. none_some (content.Reply d.1) (sym f ∙ (ap (get e.statements) (sym q) ∙ d.2))) ∙ d.2, d.3);
  }

  -- with a body that a reply names
  body_settled : (n : BodyKey) (body : List ℕ) → sha256 body ≡ n.digest → length body ≤ 32768 → IsNaming e n → IsSettled (with_body e (Some n) body) asked
  body_settled n body d l a = record {
    placed = s.placed;
    fits = (after_body e n body d l store).fits;
    senders = s.senders;
    inside = λ k x h. sym (inside_is (with_body e (Some n) body) asked k.matter) ∙ (inside_is e asked k.matter ∙ s.inside k x h);
    short = (after_body e n body d l store).short;
    named = λ k b h. elim (put_cases keys_are_ordered.bodies keys_are_ordered.bodies_exact e.bodies n k body b h) [
      | inl q ↦ subst (λ (y : BodyKey). IsNaming e y) (sym q.0) a
      | inr q ↦ s.named k b q
    ];
  }

  -- what a reply of this sender names
  named_by : (sender : ReplicaId) → Content → Type 0
  named_by sender (content.Reply r) = IsNaming e (body_key sender.group r.number r.digest)
  named_by sender c = Unit {0}

  if_settled : (sender : ReplicaId) (r : ReplyNoteFields) (body : List ℕ) (b t : Bool) → bytes_eq (sha256 body) r.digest ≡ b → length body ≤ 32768 → IsNaming e (body_key sender.group r.number r.digest)
      → IsSettled (with_body e (if b && t then Some (body_key sender.group r.number r.digest) else None) body) asked
  if_settled sender r body true true h l a = body_settled (body_key sender.group r.number r.digest) body ((bytes_eq-Decides (sha256 body) r.digest).0 h) l a
  if_settled sender r body true false h l a = s
  if_settled sender r body false t h l a = s

  -- with the body of a packet, where it is to be held
  packet_settled : (old : Evidence) (sender : ReplicaId) (c : Content) (body : List ℕ) → length body ≤ 32768 → named_by sender c → IsSettled (with_body e (new_body old sender c body) body) asked
  unfolding named_by
  packet_settled old sender (content.Reply r) body l a = if_settled sender r body (bytes_eq (sha256 body) r.digest) (not (contains_key old.bodies (body_key sender.group r.number r.digest))) refl l a
  packet_settled old sender (content.Request r) body l a = s
  packet_settled old sender (content.Part r) body l a = s
  packet_settled old sender (content.Expired r) body l a = s
  packet_settled old sender (content.Reading r) body l a = s
  packet_settled old sender (content.PrePrepare r) body l a = s
  packet_settled old sender (content.Prepare r) body l a = s
  packet_settled old sender (content.Commit r) body l a = s
  packet_settled old sender (content.Checkpoint r) body l a = s
  packet_settled old sender (content.ViewChange r) body l a = s
  packet_settled old sender (content.Ack r) body l a = s
  packet_settled old sender (content.NewView r) body l a = s
  packet_settled old sender (content.Relay r) body l a = s
  packet_settled old sender (content.Fetch r) body l a = s
  packet_settled old sender (content.Done r) body l a = s
  packet_settled old sender (content.Need r) body l a = s
  packet_settled old sender (content.Give r) body l a = s

reply_matter : (b : Bool) (g n : ℕ) (m : Matter) → ◌≡◌ {A = Option Matter} (if b then Some (Replied g n) else None) (Some m) → Replied g n ≡ m
reply_matter true g n m h = let f : ◌≡◌ {A = Option Matter} (Some (Replied g n)) (Some m) = h in cc
reply_matter false g n m h = absurd (none_some m h)

module _ (e : Evidence) (asked : Counters) (s : IsSettled e asked) (sender : ReplicaId) (m : Matter) where
  -- a reply that is kept names its body
  kept_names : (first c : Content) → get e.statements (statement_key sender m) ≡ Some first → matter_of e.group sender c ≡ Some m → same_statement first c ≡ true → named_by e asked s sender c
  unfolding same_statement named_by
  kept_names (content.Reply a) (content.Reply r) f h t =
      let parts = and_parts (a.number == r.number) (bytes_eq a.digest r.digest) (and_parts (a.caller == r.caller) (a.number == r.number && bytes_eq a.digest r.digest) t).1 in
      let same : Replied sender.group r.number ≡ m = reply_matter (r.caller == e.group) sender.group r.number m h in
      (sender.index, a, ap (λ n. get e.statements (statement_key sender n)) same ∙ f, (bytes_eq-Decides a.digest r.digest).0 parts.1)
  kept_names first (content.Request r) f h t = tt
  kept_names first (content.Part r) f h t = tt
  kept_names first (content.Expired r) f h t = tt
  kept_names first (content.Reading r) f h t = tt
  kept_names first (content.PrePrepare r) f h t = tt
  kept_names first (content.Prepare r) f h t = tt
  kept_names first (content.Commit r) f h t = tt
  kept_names first (content.Checkpoint r) f h t = tt
  kept_names first (content.ViewChange r) f h t = tt
  kept_names first (content.Ack r) f h t = tt
  kept_names first (content.NewView r) f h t = tt
  kept_names first (content.Relay r) f h t = tt
  kept_names first (content.Fetch r) f h t = tt
  kept_names first (content.Done r) f h t = tt
  kept_names first (content.Need r) f h t = tt
  kept_names first (content.Give r) f h t = tt
  kept_names (content.Request a) (content.Reply r) f h t = absurd (false≢true t)
  kept_names (content.Part a) (content.Reply r) f h t = absurd (false≢true t)
  kept_names (content.Expired a) (content.Reply r) f h t = absurd (false≢true t)
  kept_names (content.Reading a) (content.Reply r) f h t = absurd (false≢true t)
  kept_names (content.PrePrepare a) (content.Reply r) f h t = absurd (false≢true t)
  kept_names (content.Prepare a) (content.Reply r) f h t = absurd (false≢true t)
  kept_names (content.Commit a) (content.Reply r) f h t = absurd (false≢true t)
  kept_names (content.Checkpoint a) (content.Reply r) f h t = absurd (false≢true t)
  kept_names (content.ViewChange a) (content.Reply r) f h t = absurd (false≢true t)
  kept_names (content.Ack a) (content.Reply r) f h t = absurd (false≢true t)
  kept_names (content.NewView a) (content.Reply r) f h t = absurd (false≢true t)
  kept_names (content.Relay a) (content.Reply r) f h t = absurd (false≢true t)
  kept_names (content.Fetch a) (content.Reply r) f h t = absurd (false≢true t)
  kept_names (content.Done a) (content.Reply r) f h t = absurd (false≢true t)
  kept_names (content.Need a) (content.Reply r) f h t = absurd (false≢true t)
  kept_names (content.Give a) (content.Reply r) f h t = absurd (false≢true t)

  -- and so does one that is put
  put_names : (c : Content) (t : IsSettled (with_statement e (statement_key sender m) c) asked) → matter_of e.group sender c ≡ Some m → named_by (with_statement e (statement_key sender m) c) asked t sender c
  unfolding named_by
  put_names (content.Reply r) t h =
      let same : Replied sender.group r.number ≡ m = reply_matter (r.caller == e.group) sender.group r.number m h in
      let put = with_statement e (statement_key sender m) (content.Reply r) in
      (sender.index, r, ap (λ n. get put.statements (statement_key sender n)) same ∙ put_here keys_are_ordered.statements e.statements (statement_key sender m) (content.Reply r), refl)
  put_names (content.Request r) t h = tt
  put_names (content.Part r) t h = tt
  put_names (content.Expired r) t h = tt
  put_names (content.Reading r) t h = tt
  put_names (content.PrePrepare r) t h = tt
  put_names (content.Prepare r) t h = tt
  put_names (content.Commit r) t h = tt
  put_names (content.Checkpoint r) t h = tt
  put_names (content.ViewChange r) t h = tt
  put_names (content.Ack r) t h = tt
  put_names (content.NewView r) t h = tt
  put_names (content.Relay r) t h = tt
  put_names (content.Fetch r) t h = tt
  put_names (content.Done r) t h = tt
  put_names (content.Need r) t h = tt
  put_names (content.Give r) t h = tt

  module _ (c : Content) (body : List ℕ) (i : IsContent c) (l : length body ≤ 32768) (r : has_replica e.layout sender ≡ true) (h : matter_of e.group sender c ≡ Some m) where
    again : (first : Content) (b t : Bool) → get e.statements (statement_key sender m) ≡ Some first → same_statement first c ≡ b
        → IsSettled (if b && t then noted (with_body e (new_body e sender c body) body) Kept else noted e Already).evidence asked
    again first true true f q = packet_settled e asked s e sender c body l (kept_names first c f h q)
    again first true false f q = s
    again first false t f q = s

    after : (o : Option Content) → get e.statements (statement_key sender m) ≡ o → is_inside e asked m ≡ true → IsSettled (note_after o e (statement_key sender m) c (new_body e sender c body) body).evidence asked
    unfolding note_after
    after None f t =
        let put = statement_settled e asked s (statement_key sender m) c h i r t f in
        packet_settled (with_statement e (statement_key sender m) c) asked put e sender c body l (put_names c put h)
    after (Some first) f t = again first (same_statement first c) (is_some (new_body e sender c body)) f refl

    inside_or_not : (b : Bool) → is_inside e asked m ≡ b → IsSettled (if b then note_after (get e.statements (statement_key sender m)) e (statement_key sender m) c (new_body e sender c body) body else noted e Outside).evidence asked
    inside_or_not true t = after (get e.statements (statement_key sender m)) refl t
    inside_or_not false t = s

about : (e : Evidence) (asked : Counters) (sender : ReplicaId) (c : Content) (body : List ℕ) → IsContent c → length body ≤ 32768 → has_replica e.layout sender ≡ true → IsSettled e asked
    → (o : Option Matter) → matter_of e.group sender c ≡ o → IsSettled (note_about o e asked sender c body).evidence asked
about e asked sender c body i l r s None h = s
about e asked sender c body i l r s (Some m) h = inside_or_not e asked s sender m c body i l r h (is_inside e asked m) refl

pub hearing_keeps_settled : HearingKeepsSettled
unfolding note
hearing_keeps_settled e asked sender c body i l r s = about e asked sender c body i l r s (matter_of e.group sender c) refl

-- what is held after a content is heard
pub heard_bounded : {A B : Type 0} (r : Result A B) (e new : Evidence) (asked : Counters) (sender : ReplicaId) (c : Content) (body : List ℕ)
    → OnOk r (new ≡ (note e asked sender c body).evidence) → OnErr r (new ≡ e) → IsContent c → length body ≤ 32768
    → IsSettled e asked → has_replica e.layout sender ≡ true → evidence_held new ≤ max_evidence
heard_bounded (Ok x) e new asked sender c body ok err i l s h =
    subst (λ (y : Evidence). evidence_held y ≤ max_evidence) (sym ok) (evidence_is_bounded (note e asked sender c body).evidence asked (hearing_keeps_settled e asked sender c body i l h s))
heard_bounded (Err x) e new asked sender c body ok err i l s h =
    subst (λ (y : Evidence). evidence_held y ≤ max_evidence) (sym err) (evidence_is_bounded e asked s)
