-- The texts of a world of which a digest is taken; this project's own.
use Rattle.std.specs.Prelude.{ℕ, ◌+◌, ◌-◌, ◌&&◌, ◌++◌, not, Bool, if◌then◌else◌, List, [], ◌∷◌, length, sum_by, option_to_list, Result, Ok, Err}
use Rattle.std.specs.List.{fold, flat_map, list_any}
use Rattle.std.specs.Option.{unwrap_or}
use Rattle.std.specs.Str.{bytes_eq}
use Rattle.sha2.specs.Sha256.{sha256}
use Rattle.pws_event.specs.declared.events.Event.{Event}
use Rattle.pws_event.specs.declared.events.Event.TheVariants as event
use Rattle.pws_event.specs.Events.{event_text}
use Rattle.pws_event.specs.Lists.{PlacedEvent, chain_at, digest_at}
use Rattle.pws_service.specs.declared.acts.Act.{Act}
use Rattle.pws_service.specs.declared.acts.Act.TheVariants as act
use Rattle.pws_msg.specs.Contents.{content_text}
use Rattle.pws_msg.specs.Packets.{PacketFields, packet_text}
use Rattle.pws_msg.specs.PacketFields.{packet_of}
use Rattle.pws_msg.specs.declared.contents.Content.{Content}
use Rattle.pws_msg.specs.declared.contents.Content.TheVariants as content
use Rattle.pws_msg.specs.declared.errors.PacketError.{PacketError}
use Rattle.pws_runs.specs.ReplicaStates.{Input, Bytes, Opened, Tick, Output, Send, Executed, Acted, PassedOver}
use Rattle.pws_runs.specs.Saying.{statements_of}
use Rattle.pws_runs.specs.Worlds.{WorldState}

-- the body of a Reply event
abbrev pub body_texts : Event → List (List ℕ)
body_texts (event.Reply r) = r.body ∷ []
body_texts _ = []

-- of an event: its text, and the body of a reply
abbrev pub event_texts : Event → List (List ℕ)
event_texts e = event_text e ∷ body_texts e

-- of the event inside a content
abbrev pub inner_texts : Content → List (List ℕ)
inner_texts (content.PrePrepare p) = event_texts p.event
inner_texts (content.Done d) = event_texts d.event
inner_texts (content.Give e) = event_texts e
inner_texts _ = []

-- of a content: its text, and the event inside it
abbrev content_texts : Content → List (List ℕ)
content_texts c = content_text c ∷ inner_texts c

-- of a packet: its content, its vouchers' contents, the events inside them, and its body
unfoldable pub packet_texts : PacketFields → List (List ℕ)
packet_texts p = flat_map (λ v. content_texts v.content) (statements_of p) ++ option_to_list p.body

-- of bytes as they were read; those that spell no packet have none
abbrev pub texts_read : Result PacketFields PacketError → List (List ℕ)
texts_read (Ok p) = packet_texts p
texts_read (Err e) = []

-- of an input
abbrev pub input_texts : Input → List (List ℕ)
input_texts (Bytes bytes) = texts_read (packet_of bytes)
input_texts (Opened c) = packet_texts c.packet
input_texts (Tick ms random) = []

-- the text of the chain at a place: the chain before it and the digest of its event
abbrev pub chain_text : List PlacedEvent → ℕ → List ℕ
chain_text places place = unwrap_or (chain_at places (place - 1)) [] ++ unwrap_or (digest_at places place) []

-- the text of an agreed seed: the joined shares
abbrev pub share_texts : Event → List (List ℕ)
share_texts (event.Random r) = flat_map (λ s. s.bytes) r.shares ∷ []
share_texts _ = []

-- of an act: the body of a reply
abbrev pub act_texts : Act → List (List ℕ)
act_texts (act.Reply caller number body) = body ∷ []
act_texts _ = []

-- of an output, in a step that left these places
abbrev pub output_texts : List PlacedEvent → Output → List (List ℕ)
output_texts places (Send group to p) = packet_texts p
output_texts places (Executed place e taken) = event_texts e ++ chain_text places place ∷ share_texts e
output_texts places (Acted a) = act_texts a
output_texts places (PassedOver why) = []

-- of a whole step
abbrev pub step_texts : Input → List PlacedEvent → List Output → List (List ℕ)
step_texts i places outs = input_texts i ++ flat_map (output_texts places) outs

-- one more text, unless it is among them
abbrev pub with_text : List (List ℕ) → List ℕ → List (List ℕ)
with_text texts t = if list_any (bytes_eq t) texts then texts else texts ++ t ∷ []

-- more texts in order
unfoldable pub with_texts : List (List ℕ) → List (List ℕ) → List (List ℕ)
with_texts texts more = fold with_text texts more

-- whether two different texts have one digest
abbrev pub collide : List ℕ → List ℕ → Bool
collide a b = not (bytes_eq a b) && bytes_eq (sha256 a) (sha256 b)

-- whether two of the texts collide
unfoldable pub has_collision : List (List ℕ) → Bool
has_collision texts = list_any (λ a. list_any (collide a) texts) texts

-- the lengths of the packets sent and of the digested texts together
unfoldable pub pool_size : WorldState → ℕ
pool_size w = sum_by (λ p. length (packet_text p)) w.sent + sum_by length w.texts

-- 512 MiB, which they may not pass
abbrev pub pool_limit : ℕ
pool_limit = 536870912
