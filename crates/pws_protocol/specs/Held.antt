-- How many bytes a voter holds: a text, a body or a content counts its length, a digest or a tag 32; this project's own.
-- The sum has four parts: `evidence_held`, `changes_held`, `events_held` and `digests_held`.
use Rattle.std.specs.Prelude.{ℕ, ◌+◌, ◌*◌, length, sum, map}
use Rattle.std.specs.Option.{option_map_or}
use Rattle.std.specs.declared.cmp.Ordering.{Ordering}
use Rattle.std.specs.FinMap.{FinMap, values, len}
use Rattle.std.specs.FinSet as set
use Rattle.pws_event.specs.declared.events.Event.{Event}
use Rattle.pws_event.specs.Events.{event_text}
use Rattle.pws_msg.specs.declared.contents.Content.{Content}
use Rattle.pws_msg.specs.declared.contents.Content.TheVariants as content
use Rattle.pws_msg.specs.Contents.{content_text}
use Rattle.pws_protocol.specs.Evidence.{Evidence}
use Rattle.pws_protocol.specs.States.{State, HeldChange, Relayed}

-- how long a content's text is
abbrev pub content_size : Content → ℕ
content_size c = length (content_text c)

-- how long an event's text is
abbrev pub event_size : Event → ℕ
event_size e = length (event_text e)

-- the sum over the values of a map
abbrev pub over : {K X : Type 0} {R : K → K → Ordering} → (X → ℕ) → FinMap R X → ℕ
over size m = sum (map size (values m))

-- 32 for each entry
abbrev pub by_entry : {K X : Type 0} {R : K → K → Ordering} → FinMap R X → ℕ
by_entry m = 32 * len m

-- evidence: statements, and bodies with their digests
unfoldable pub evidence_held : Evidence → ℕ
evidence_held e = over content_size e.statements + over (λ b. 32 + length b) e.bodies

-- changes with the tags of their packets
abbrev heard_size : HeldChange → ℕ
heard_size c = content_size (content.ViewChange c.change) + 32 * length c.tags

-- the same of one that was passed on
abbrev relayed_size : Relayed → ℕ
relayed_size c = content_size (content.ViewChange c.change) + 32 * length c.tags

-- all that belongs to view changes
unfoldable pub changes_held : State → ℕ
changes_held s =
    over heard_size s.heard + over relayed_size s.relayed + option_map_or (λ v. content_size (content.NewView v)) s.new_view 0
    + over by_entry s.acks

-- events, those held by digest with the digest
unfoldable pub events_held : State → ℕ
events_held s = over event_size s.pending + over event_size s.dones + over (λ e. 32 + event_size e) s.texts

-- digests: the chain at done and the chains, slots, votes, P, Q, what was asked for
unfoldable pub digests_held : State → ℕ
digests_held s =
    32 + by_entry s.chains + by_entry s.slots + by_entry s.book.votes + by_entry s.prepared + over by_entry s.pre_prepared
    + 32 * set.len s.needed

-- all that a voter holds
unfoldable pub held : State → ℕ
held s = evidence_held s.evidence + changes_held s + events_held s + digests_held s
