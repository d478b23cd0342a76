-- What a voter's evidence supports is supported by what can be heard.
use Rattle.std.proofs.Common.{◌≡◌, true, false, Option, Some, None, Contains, refl, ap, subst, ◌==◌}
use Rattle.std.specs.Option.{option_map_or}
use Rattle.std.proofs.lemmas.Bool.{false≢true, and_parts, eqb-true}
use Rattle.pws_base.specs.declared.shapes.ReplicaId.{ReplicaId}
use Rattle.pws_base.proofs.Members.{all_has}
use Rattle.pws_event.specs.declared.events.Event.{Event}
use Rattle.pws_event.specs.Events.{digest_of}
use Rattle.pws_event.specs.Counters.{Counters}
use Rattle.pws_msg.specs.Statements.{OwnRequestFields, ReplyNoteFields, CallNameFields, OwnReadingFields}
use Rattle.pws_msg.specs.declared.readings.ReadingValue.{ReadingValue}
use Rattle.pws_msg.specs.declared.readings.ReadingValue.TheVariants as value
use Rattle.pws_msg.specs.declared.contents.Content.{Content}
use Rattle.pws_msg.specs.declared.contents.Content.TheVariants as content
use Rattle.pws_protocol.specs.declared.keys.Matter.{Matter}
use Rattle.pws_protocol.specs.Keys.{statement_key}
use Rattle.pws_protocol.specs.Evidence.{Evidence, matter_of, same_value, is_request, is_reply, is_expired, is_reading, same_statement, first_of, is_kept}
use Rattle.pws_protocol.specs.Support.{supported_by, supports}
use Rattle.pws_protocol.specs.Candidates.{candidates}
use Rattle.pws_protocol.specs.Fits.{FitsEvidence}
use Rattle.pws_protocol.specs.States.{State}
use Rattle.pws_protocol.proofs.Supporting.{more_is_supported}
use Rattle.pws_protocol.proofs.Proposing.{candidates_are_supported}
use Rattle.pws_refine.specs.Contexts.{Context, IsLawful, IsOf}
use Rattle.pws_refine.specs.Links.{EvidenceLinks}
use Rattle.pws_refine.proofs.Places.{same_bytes}

value_is : (a b : ReadingValue) → same_value a b ≡ true → a ≡ b
value_is (value.Time a) (value.Time b) h = ap value.Time (eqb-true a b h)
value_is (value.Share a) (value.Share b) h = ap value.Share (same_bytes a b h)
value_is (value.Time a) (value.Share b) h = absurd (false≢true h)
value_is (value.Share a) (value.Time b) h = absurd (false≢true h)

request_is : (a : OwnRequestFields) (b : Content) → is_request a b ≡ true → content.Request a ≡ b
request_is a (content.Request b) h =
    let p = and_parts (a.number == b.number) _ h in
    let q = and_parts (a.low == b.low) _ p.1 in
    let number : a.number ≡ b.number = eqb-true a.number b.number p.0 in
    let low : a.low ≡ b.low = eqb-true a.low b.low q.0 in
    let body : a.body ≡ b.body = same_bytes a.body b.body q.1 in
    λ i. content.Request (record { number = number i; low = low i; body = body i })
request_is a _ h = absurd (false≢true h)

reply_is : (a : ReplyNoteFields) (b : Content) → is_reply a b ≡ true → content.Reply a ≡ b
reply_is a (content.Reply b) h =
    let p = and_parts (a.caller == b.caller) _ h in
    let q = and_parts (a.number == b.number) _ p.1 in
    let caller : a.caller ≡ b.caller = eqb-true a.caller b.caller p.0 in
    let number : a.number ≡ b.number = eqb-true a.number b.number q.0 in
    let digest : a.digest ≡ b.digest = same_bytes a.digest b.digest q.1 in
    λ i. content.Reply (record { caller = caller i; number = number i; digest = digest i })
reply_is a _ h = absurd (false≢true h)

expired_is : (a : CallNameFields) (b : Content) → is_expired a b ≡ true → content.Expired a ≡ b
expired_is a (content.Expired b) h =
    let p = and_parts (a.called == b.called) _ h in
    let called : a.called ≡ b.called = eqb-true a.called b.called p.0 in
    let number : a.number ≡ b.number = eqb-true a.number b.number p.1 in
    λ i. content.Expired (record { called = called i; number = number i })
expired_is a _ h = absurd (false≢true h)

reading_is : (a : OwnReadingFields) (b : Content) → is_reading a b ≡ true → content.Reading a ≡ b
reading_is a (content.Reading b) h =
    let p = and_parts (a.ask == b.ask) _ h in
    let ask : a.ask ≡ b.ask = eqb-true a.ask b.ask p.0 in
    let v : a.value ≡ b.value = value_is a.value b.value p.1 in
    λ i. content.Reading (record { ask = ask i; value = v i })
reading_is a _ h = absurd (false≢true h)

statement_is : (a b : Content) → same_statement a b ≡ true → a ≡ b
unfolding same_statement
statement_is (content.Request a) b h = request_is a b h
statement_is (content.Reply a) b h = reply_is a b h
statement_is (content.Expired a) b h = expired_is a b h
statement_is (content.Reading a) b h = reading_is a b h
statement_is _ b h = absurd (false≢true h)

module _ (c : Context) (e : Evidence) (links : EvidenceLinks c e.statements) where
  first_spoken : (r : ReplicaId) (m : Matter) (o : Option Content) (x : Content) → first_of e r m ≡ o → option_map_or (λ first. same_statement first x) o false ≡ true → c.speaks r x ≡ true
  first_spoken r m None x k h = absurd (false≢true h)
  first_spoken r m (Some y) x k h = subst (λ z. c.speaks r z ≡ true) (statement_is y x h) (links (statement_key r m) y k)

  about_spoken : (r : ReplicaId) (x : Content) (o : Option Matter) → option_map_or (λ m. option_map_or (λ first. same_statement first x) (first_of e r m) false) o false ≡ true → c.speaks r x ≡ true
  about_spoken r x None h = absurd (false≢true h)
  about_spoken r x (Some m) h = first_spoken r m (first_of e r m) x refl h

  -- what is kept can be heard
  kept_spoken : (r : ReplicaId) (x : Content) → is_kept e r x ≡ true → c.speaks r x ≡ true
  unfolding is_kept
  kept_spoken r x h = about_spoken r x (matter_of e.group r x) h

  pub spoken_supports : (x : Event) → supports e x ≡ true → supported_by c.speaks e.layout e.group x ≡ true
  unfolding supports
  spoken_supports x h = more_is_supported (is_kept e) c.speaks e.layout e.group x kept_spoken h

-- an event that the evidence supports, and that occurs, is backed
pub supported_is_backed : (c : Context) (s : State) → IsLawful c → IsOf c s → EvidenceLinks c s.evidence.statements → (x : Event) → supports s.evidence x ≡ true → c.occurs_event x ≡ true → c.group.backed (digest_of x) ≡ true
supported_is_backed c s law is links x h o =
    law.backs x
    (subst (λ g. supported_by c.speaks c.layout g x ≡ true) is.group
    (subst (λ l. supported_by c.speaks l s.evidence.group x ≡ true) is.layout (spoken_supports c s.evidence links x h)))
    o

-- a candidate is supported
pub candidate_supported : (e : Evidence) (asked : Counters) → FitsEvidence e → (x : Event) → Contains (candidates e asked) x → supports e x ≡ true
candidate_supported e asked fits x m = all_has (supports e) (candidates e asked) (candidates_are_supported e asked fits) x m
