-- What holds of every store is kept.
use Rattle.std.proofs.Common.{◌≡◌, ◌≤◌, inl, inr, ℕ, List, [], length, filter, Option, Some, None, refl, sym, ◌∙◌, ap, subst}
use Rattle.std.specs.Prelude.{slice_get, slice_index}
use Rattle.std.specs.Option.{unwrap_or}
use Rattle.std.proofs.lemmas.Option.{unwrap_or-slice_get}
use Rattle.std.specs.FinMap.{FinMap, get, insert, remove, retain_keys, from_entries}
use Rattle.sha2.specs.Sha256.{sha256}
use Rattle.pws_base.proofs.Maps.{put_cases, remove_cases, retain_cases}
use Rattle.pws_event.specs.Counters.{Counters}
use Rattle.pws_msg.specs.Contents.{IsContent}
use Rattle.pws_msg.specs.declared.contents.Content.{Content}
use Rattle.pws_protocol.specs.declared.keys.Matter.{Matter}
use Rattle.pws_protocol.specs.declared.keys.Matter.TheVariants.{Requested, Replied, Expired, Read}
use Rattle.pws_protocol.specs.declared.keys.StatementKey.{StatementKey}
use Rattle.pws_protocol.specs.declared.keys.BodyKey.{BodyKey}
use Rattle.pws_protocol.specs.Keys.{statement_cmp, body_cmp}
use Rattle.pws_protocol.specs.Evidence.{Evidence, no_evidence, matter_of, is_inside, is_call_inside, settled, with_body, with_statement}
use Rattle.pws_protocol.proofs.Keyed.{keys_are_ordered}
use Rattle.pws_protocol.proofs.Noting.{at_first, after_settling, nothing_there}
use Rattle.pws_evidence.specs.Stores.{IsStore, without_statement}
use Rattle.pws_evidence.proofs.Maps.{retained, taken_back}

-- evidence of these entries
abbrev pub evidence_of : ℕ → List ℕ → List (StatementKey × Content) → List (BodyKey × List ℕ) → Evidence
evidence_of group layout es fs = record { group = group; layout = layout; statements = from_entries es; bodies = from_entries fs }

nothing_kept : (group : ℕ) (layout : List ℕ) → IsStore (no_evidence group layout)
nothing_kept group layout = record { fits = at_first group layout; short = λ k b h. absurd (nothing_there body_cmp k b h) }

pub none_kept : (group : ℕ) (layout : List ℕ) (es : List (StatementKey × Content)) (fs : List (BodyKey × List ℕ)) → es ≡ [] → fs ≡ [] → IsStore (evidence_of group layout es fs)
none_kept group layout es fs e f = subst (λ (xs : List (StatementKey × Content)). IsStore (evidence_of group layout xs fs)) (sym e) (subst (λ (ys : List (BodyKey × List ℕ)). IsStore (evidence_of group layout [] ys)) (sym f) (nothing_kept group layout))

pub after_body : (e : Evidence) (k : BodyKey) (body : List ℕ) → sha256 body ≡ k.digest → length body ≤ 32768 → IsStore e → IsStore (with_body e (Some k) body)
after_body e n body d l s = record {
  fits = record {
    statements = s.fits.statements;
    bodies = λ k x h. elim (put_cases keys_are_ordered.bodies keys_are_ordered.bodies_exact e.bodies n k body x h) [
      | inl c ↦ subst (λ y. sha256 y ≡ k.digest) c.1 (subst (λ (y : BodyKey). sha256 body ≡ y.digest) (sym c.0) d)
      | inr c ↦ s.fits.bodies k x c
    ];
  };
  short = λ k x h. elim (put_cases keys_are_ordered.bodies keys_are_ordered.bodies_exact e.bodies n k body x h) [
    | inl c ↦ subst (λ (y : List ℕ). length y ≤ 32768) c.1 l
    | inr c ↦ s.short k x c
  ];
}

pub after_statement : (e : Evidence) (k : StatementKey) (c : Content) → matter_of e.group k.sender c ≡ Some k.matter → IsContent c → IsStore e → IsStore (with_statement e k c)
after_statement e n c i r s = record {
  fits = record {
    statements = λ k x h. elim (put_cases keys_are_ordered.statements keys_are_ordered.statements_exact e.statements n k c x h) [
      | inl q ↦ subst (λ (y : Content). (matter_of e.group k.sender y ≡ Some k.matter) × IsContent y) q.1 (subst (λ (y : StatementKey). (matter_of e.group y.sender c ≡ Some y.matter) × IsContent c) (sym q.0) (i, r))
      | inr q ↦ s.fits.statements k x q
    ];
    bodies = s.fits.bodies;
  };
  short = s.short;
}

pub after_removal : (e : Evidence) (k : StatementKey) → IsStore e → IsStore (without_statement e k)
after_removal e k s = record {
  fits = record {
    statements = λ q x h. s.fits.statements q x (remove_cases keys_are_ordered.statements e.statements k q x h).0;
    bodies = s.fits.bodies;
  };
  short = s.short;
}

pub after_settle : (e : Evidence) (asked : Counters) → IsStore e → IsStore (settled e asked)
unfolding settled
after_settle e asked s = record {
  fits = after_settling e asked s.fits;
  short = λ k b h. s.short k b (retain_cases keys_are_ordered.bodies_exact e.bodies (λ x. is_inside e asked (Replied x.called x.number)) k b h).1;
}

-- a matter is inside by the group and the layout alone
pub inside_is : (e : Evidence) (asked : Counters) (m : Matter) → is_inside (no_evidence e.group e.layout) asked m ≡ is_inside e asked m
unfolding is_inside
inside_is e asked (Requested c n) = refl
inside_is e asked (Replied c n) = refl
inside_is e asked (Expired c n) = refl
inside_is e asked (Read a) = refl

pub body_put : (e : Evidence) (m : FinMap body_cmp (List ℕ)) (k : BodyKey) (v body : List ℕ) → m ≡ insert e.bodies k v → v ≡ body → record e { bodies = m } ≡ with_body e (Some k) body
body_put e m k v body h q = ap (λ (b : FinMap body_cmp (List ℕ)). record e { bodies = b }) (h ∙ ap (insert e.bodies k) q)

pub statement_put : (e : Evidence) (m : FinMap statement_cmp Content) (k : StatementKey) (c : Content) → m ≡ insert e.statements k c → record e { statements = m } ≡ with_statement e k c
statement_put e m k c h = ap (λ (b : FinMap statement_cmp Content). record e { statements = b }) h

pub statement_taken : (e : Evidence) (m : FinMap statement_cmp Content) (k : StatementKey) → m ≡ remove e.statements k → record e { statements = m } ≡ without_statement e k
statement_taken e m k h = ap (λ (b : FinMap statement_cmp Content). record e { statements = b }) h

-- what was put under a new key and is taken back leaves the evidence as it was
pub put_and_taken : (e : Evidence) (k : StatementKey) (c : Content) → get e.statements k ≡ None → without_statement (with_statement e k c) k ≡ e
put_and_taken e k c h = ap (λ (b : FinMap statement_cmp Content). record e { statements = b }) (taken_back keys_are_ordered.statements keys_are_ordered.statements_exact e.statements k c h)

call_is : (e : Evidence) (asked : Counters) (k : BodyKey) → is_call_inside (no_evidence e.group e.layout) asked k.called k.number ≡ is_inside e asked (Replied k.called k.number)
unfolding is_inside
call_is e asked k = refl

statements_settled : (e : Evidence) (asked : Counters) (es fs : List (StatementKey × Content)) → e.statements ≡ from_entries es → fs ≡ filter (λ x. is_inside (no_evidence e.group e.layout) asked x.0.matter) es → from_entries {R = statement_cmp} fs ≡ retain_keys e.statements (λ k. is_inside e asked k.matter)
statements_settled e asked es fs s h =
    ap (from_entries {R = statement_cmp}) h
    ∙ (retained keys_are_ordered.statements keys_are_ordered.statements_exact es (λ k. is_inside (no_evidence e.group e.layout) asked k.matter)
    ∙ (ap (λ (m : FinMap statement_cmp Content). retain_keys m (λ k. is_inside (no_evidence e.group e.layout) asked k.matter)) (sym s)
    ∙ (λ i. retain_keys e.statements (λ k. inside_is e asked k.matter i))))

bodies_settled : (e : Evidence) (asked : Counters) (es fs : List (BodyKey × List ℕ)) → e.bodies ≡ from_entries es → fs ≡ filter (λ x. is_call_inside (no_evidence e.group e.layout) asked x.0.called x.0.number) es → from_entries {R = body_cmp} fs ≡ retain_keys e.bodies (λ k. is_inside e asked (Replied k.called k.number))
bodies_settled e asked es fs s h =
    ap (from_entries {R = body_cmp}) h
    ∙ (retained keys_are_ordered.bodies keys_are_ordered.bodies_exact es (λ k. is_call_inside (no_evidence e.group e.layout) asked k.called k.number)
    ∙ (ap (λ (m : FinMap body_cmp (List ℕ)). retain_keys m (λ k. is_call_inside (no_evidence e.group e.layout) asked k.called k.number)) (sym s)
    ∙ (λ i. retain_keys e.bodies (λ k. call_is e asked k i))))

-- evidence whose entries are inside is settled
pub settled_is : (group : ℕ) (layout : List ℕ) (asked : Counters) (es gs : List (StatementKey × Content)) (fs hs : List (BodyKey × List ℕ))
    → gs ≡ filter (λ x. is_inside (no_evidence group layout) asked x.0.matter) es → hs ≡ filter (λ x. is_call_inside (no_evidence group layout) asked x.0.called x.0.number) fs
    → evidence_of group layout gs hs ≡ settled (evidence_of group layout es fs) asked
unfolding settled
settled_is group layout asked es gs fs hs p q =
    let e = evidence_of group layout es fs in
    λ i. record { group = group; layout = layout; statements = statements_settled e asked es gs refl p i; bodies = bodies_settled e asked fs hs refl q i }

-- the number f of a group that isn't there is 0
pub none_there : (layout : List ℕ) (group : ℕ) → ◌≡◌ {A = Option ℕ} None (slice_get layout group) → 0 ≡ slice_index layout group
none_there layout group h = ap (λ (o : Option ℕ). unwrap_or o 0) h ∙ unwrap_or-slice_get layout group 0
