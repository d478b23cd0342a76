-- A store of evidence fits from its start on.
use Rattle.std.proofs.Common.{◌≡◌, ◌⊎◌, inl, inr, ℕ, ◌&&◌, not, Bool, true, false, cond, is_some, if◌then◌else◌, List, Option, Some, None, refl, sym, ◌∙◌, ap, subst}
use Rattle.std.specs.Ordering.{eq_by_cmp}
use Rattle.std.specs.declared.cmp.Ordering.{Ordering}
use Rattle.std.specs.Str.{bytes_eq}
use Rattle.std.specs.Cmp.{IsTotalOrder}
use Rattle.std.specs.FinMap.{FinMap, IsAntisymmetric, empty, get, insert, contains_key, retain_keys, get-empty, get-insert, get-retain_keys}
use Rattle.std.proofs.lemmas.Map.Views.{tells_apart}
use Rattle.std.proofs.lemmas.Slice.Eq.{bytes_eq-Decides}
use Rattle.sha2.specs.Sha256.{sha256}
use Rattle.pws_base.specs.declared.shapes.ReplicaId.{ReplicaId}
use Rattle.pws_event.specs.Counters.{Counters}
use Rattle.pws_msg.specs.Contents.{IsContent}
use Rattle.pws_msg.specs.declared.contents.Content.{Content}
use Rattle.pws_msg.specs.declared.contents.Content.TheVariants as content
use Rattle.pws_protocol.specs.declared.keys.Matter.{Matter}
use Rattle.pws_protocol.specs.declared.keys.Matter.TheVariants.{Replied}
use Rattle.pws_protocol.specs.declared.keys.StatementKey.{StatementKey}
use Rattle.pws_protocol.specs.declared.keys.BodyKey.{BodyKey}
use Rattle.pws_protocol.specs.Keys.{statement_cmp, body_cmp, statement_key, body_key}
use Rattle.pws_protocol.specs.Evidence.{Evidence, no_evidence, matter_of, first_of, is_inside, settled, same_statement, new_body, with_body, with_statement, Noted, noted, note_after, note_about, note}
use Rattle.pws_votes.specs.declared.kinds.Vote.TheVariants.{Kept, Outside, Already}
use Rattle.pws_protocol.specs.Fits.{FitsEvidence}
use Rattle.pws_protocol.specs.Laws.{EvidenceFits}
use Rattle.pws_protocol.proofs.Keyed.{keys_are_ordered}

put_by : {K X : Type 0} {R : K → K → Ordering} → IsAntisymmetric R → (k q : K) (v x : X) (old : Option X) (b : Bool) → eq_by_cmp R q k ≡ b → cond b (Some v) old ≡ Some x → ((q ≡ k) × (v ≡ x)) ⊎ (old ≡ Some x)
put_by exact k q v x old true e h = inl (tells_apart exact q k e, cc)
put_by exact k q v x old false e h = inr h

-- what a map gives after an insertion is the new value, or an old one
pub put_cases : {K X : Type 0} {R : K → K → Ordering} → IsTotalOrder R → IsAntisymmetric R → (m : FinMap R X) (k q : K) (v x : X) → get (insert m k v) q ≡ Some x → ((q ≡ k) × (v ≡ x)) ⊎ (get m q ≡ Some x)
put_cases {R = R} o exact m k q v x h = put_by exact k q v x (get m q) (eq_by_cmp R q k) refl (sym (get-insert o m k v q) ∙ h)

kept_by : {X : Type 0} (b : Bool) (old : Option X) (x : X) → cond b old None ≡ Some x → old ≡ Some x
kept_by true old x h = h
kept_by {X} false old x h = absurd (let i : ◌≡◌ {A = Option X} None (Some x) = h in cc)

-- what is kept was there
was_there : {K X : Type 0} {R : K → K → Ordering} → IsAntisymmetric R → (m : FinMap R X) (p : K → Bool) (q : K) (x : X) → get (retain_keys m p) q ≡ Some x → get m q ≡ Some x
was_there exact m p q x h = kept_by (p q) (get m q) x (sym (get-retain_keys m p q (λ y e. ap p (sym (exact q y e)))) ∙ h)

pub nothing_there : {K X : Type 0} (R : K → K → Ordering) (q : K) (x : X) → get (empty {X = X} {R = R}) q ≡ Some x → ⊥
nothing_there {X = X} R q x h = let i : ◌≡◌ {A = Option X} None (Some x) = sym (get-empty R q) ∙ h in cc

pub at_first : (group : ℕ) (layout : List ℕ) → FitsEvidence (no_evidence group layout)
at_first group layout = record {
  statements = λ k c h. absurd (nothing_there statement_cmp k c h);
  bodies = λ k b h. absurd (nothing_there body_cmp k b h);
}

pub after_settling : (e : Evidence) (asked : Counters) → FitsEvidence e → FitsEvidence (settled e asked)
unfolding settled
after_settling e asked f = record {
  statements = λ k c h. f.statements k c (was_there keys_are_ordered.statements_exact e.statements (λ x. is_inside e asked x.matter) k c h);
  bodies = λ k b h. f.bodies k b (was_there keys_are_ordered.bodies_exact e.bodies (λ x. is_inside e asked (Replied x.called x.number)) k b h);
}

-- a new body stands under its digest
abbrev Brings : Option BodyKey → List ℕ → Type 0
Brings None body = Unit {0}
Brings (Some k) body = sha256 body ≡ k.digest

after_body : (e : Evidence) (new : Option BodyKey) (body : List ℕ) → Brings new body → FitsEvidence e → FitsEvidence (with_body e new body)
after_body e None body b f = f
after_body e (Some n) body b f = record {
  statements = f.statements;
  bodies = λ k x h. elim (put_cases keys_are_ordered.bodies keys_are_ordered.bodies_exact e.bodies n k body x h) [
    | inl s ↦ subst (λ y. sha256 y ≡ k.digest) s.1 (subst (λ (y : BodyKey). sha256 body ≡ y.digest) (sym s.0) b)
    | inr s ↦ f.bodies k x s
  ];
}

after_statement : (e : Evidence) (sender : ReplicaId) (m : Matter) (c : Content) → matter_of e.group sender c ≡ Some m → IsContent c → FitsEvidence e → FitsEvidence (with_statement e (statement_key sender m) c)
after_statement e sender m c i r f = record {
  statements = λ k x h. elim (put_cases keys_are_ordered.statements keys_are_ordered.statements_exact e.statements (statement_key sender m) k c x h) [
    | inl s ↦ subst (λ (y : Content). (matter_of e.group k.sender y ≡ Some k.matter) × IsContent y) s.1 (subst (λ (y : StatementKey). (matter_of e.group y.sender c ≡ Some y.matter) × IsContent c) (sym s.0) (i, r))
    | inr s ↦ f.statements k x s
  ];
  bodies = f.bodies;
}

brought_if : (k : BodyKey) (body : List ℕ) (a b : Bool) → (a ≡ true → sha256 body ≡ k.digest) → Brings (if a && b then Some k else None) body
brought_if k body true true h = h refl
brought_if k body true false h = tt
brought_if k body false b h = tt

brought : (e : Evidence) (sender : ReplicaId) (c : Content) (body : List ℕ) → Brings (new_body e sender c body) body
brought e sender (content.Reply r) body = brought_if (body_key sender.group r.number r.digest) body (bytes_eq (sha256 body) r.digest) (not (contains_key e.bodies (body_key sender.group r.number r.digest))) (λ h. (bytes_eq-Decides (sha256 body) r.digest).0 h)
brought e sender _ body = tt

-- the same statement again
by_test : (e f : Evidence) (b : Bool) → FitsEvidence e → FitsEvidence f → FitsEvidence (if b then noted f Kept else noted e Already).evidence
by_test e f true x y = y
by_test e f false x y = x

after_first : (e : Evidence) (sender : ReplicaId) (m : Matter) (o : Option Content) (c : Content) (body : List ℕ) → matter_of e.group sender c ≡ Some m → IsContent c → FitsEvidence e
    → FitsEvidence (note_after o e (statement_key sender m) c (new_body e sender c body) body).evidence
unfolding note_after
after_first e sender m None c body i r f = after_body (with_statement e (statement_key sender m) c) (new_body e sender c body) body (brought e sender c body) (after_statement e sender m c i r f)
after_first e sender m (Some first) c body i r f =
    by_test e (with_body e (new_body e sender c body) body) (same_statement first c && is_some (new_body e sender c body)) f
    (after_body e (new_body e sender c body) body (brought e sender c body) f)

by_inside : (e : Evidence) (n : Noted) (b : Bool) → FitsEvidence e → FitsEvidence n.evidence → FitsEvidence (if b then n else noted e Outside).evidence
by_inside e n true x y = y
by_inside e n false x y = x

after_matter : (e : Evidence) (asked : Counters) (sender : ReplicaId) (o : Option Matter) (c : Content) (body : List ℕ) → matter_of e.group sender c ≡ o → IsContent c → FitsEvidence e
    → FitsEvidence (note_about o e asked sender c body).evidence
after_matter e asked sender None c body i r f = f
after_matter e asked sender (Some m) c body i r f =
    by_inside e (note_after (first_of e sender m) e (statement_key sender m) c (new_body e sender c body) body) (is_inside e asked m) f
    (after_first e sender m (first_of e sender m) c body i r f)

pub after_noting : (e : Evidence) (asked : Counters) (sender : ReplicaId) (c : Content) (body : List ℕ) → IsContent c → FitsEvidence e → FitsEvidence (note e asked sender c body).evidence
unfolding note
after_noting e asked sender c body r f = after_matter e asked sender (matter_of e.group sender c) c body refl r f

pub evidence_fits : EvidenceFits
evidence_fits = (at_first, after_settling, after_noting)
