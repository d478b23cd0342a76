-- The report of a world; this project's own format.
use Rattle.std.specs.Prelude.{ℕ, Bool, if◌then◌else◌, List, [], ◌++◌, length, codes, decimal, Option, Some, None}
use Rattle.std.specs.List.{flat_map, enumerate_from, range_with_len}
use Rattle.std.specs.Option.{option_map_or, unwrap_or}
use Rattle.std.specs.FinMap.{get}
use Rattle.hex.specs.Hex.{encode_lower}
use Rattle.sha2.specs.Sha256.{sha256}
use Rattle.pws_base.specs.declared.shapes.ReplicaId.{ReplicaId}
use Rattle.pws_event.specs.declared.events.Event.{Event}
use Rattle.pws_event.specs.declared.events.Event.TheVariants as event
use Rattle.pws_event.specs.Lists.{PlacedEvent, chain_at}
use Rattle.pws_msg.specs.Packets.{PacketFields, packet_text}
use Rattle.pws_runs.specs.ReplicaStates.{ReplicaState, Serve}
use Rattle.pws_runs.specs.Calls.{took_effect}
use Rattle.pws_runs.specs.Worlds.{Setting, WorldState, members_of, is_sound}

-- one space
abbrev pub space : List ℕ
space = codes " "

-- a line feed
abbrev pub line_end : List ℕ
line_end = codes "\n"

-- a word and two numbers
abbrev pub named : List ℕ → ℕ → ℕ → List ℕ
named word a b = word ++ space ++ decimal a ++ space ++ decimal b

-- an event by its kind and its numbers
abbrev pub event_words : Event → List ℕ
event_words event.Null = codes "null"
event_words (event.Request r) = named (codes "request") r.caller r.number
event_words (event.Reply r) = named (codes "reply") r.called r.number
event_words (event.Abort a) = named (codes "abort") a.called a.number
event_words (event.Clock c) = codes "clock " ++ decimal c.ask
event_words (event.Random r) = codes "random " ++ decimal r.ask

-- a place without its event is bare
abbrev place_words : Option Event → List ℕ
place_words e = option_map_or event_words e (codes "bare")

-- whether it took effect
abbrev pub fate : Bool → List ℕ
fate taken = if taken then codes " taken " else codes " void "

-- a place: its event, whether it took effect, and its digest
abbrev pub place_line : Serve → ReplicaState → ℕ → PlacedEvent → List ℕ
place_line serve s place p =
    codes "place " ++ decimal place ++ space ++ place_words p.event
    ++ fate (took_effect serve s.me.group s.keys.layout s.places place) ++ encode_lower p.digest ++ line_end

-- all places of a replica
abbrev pub place_lines : Serve → ReplicaState → List ℕ
place_lines serve s = flat_map (λ x. place_line serve s x.0 x.1) (enumerate_from 1 s.places)

-- a replica by its name
abbrev pub replica_words : ReplicaId → List ℕ
replica_words r = decimal r.group ++ codes "." ++ decimal r.index

-- its view, low mark and length of its list, and the chain at its last place
abbrev state_line : ReplicaState → List ℕ
state_line s =
    codes " view " ++ decimal s.voter.view ++ codes " low " ++ decimal s.voter.low ++ codes " done " ++ decimal (length s.places)
    ++ codes " chain " ++ encode_lower (unwrap_or (chain_at s.places (length s.places)) []) ++ line_end

-- what is told of a correct replica; of a compromised one nothing is
abbrev pub state_lines : Serve → Option ReplicaState → List ℕ
state_lines serve None = codes " bad\n"
state_lines serve (Some s) = state_line s ++ place_lines serve s

-- a replica
abbrev replica_lines : Setting → WorldState → ReplicaId → List ℕ
replica_lines e w r = codes "replica " ++ replica_words r ++ state_lines (e.serve r.group) (get w.replicas r)

-- whether a group is sound
abbrev soundness : Bool → List ℕ
soundness sound = if sound then codes " sound\n" else codes " unsound\n"

-- a group, and its replicas
abbrev group_lines : Setting → WorldState → ℕ → List ℕ
group_lines e w group = codes "group " ++ decimal group ++ soundness (is_sound e group) ++ flat_map (replica_lines e w) (members_of e.keys.layout group)

-- a packet: its number, sender, receivers, length and digest
abbrev pub packet_line : ℕ → PacketFields → List ℕ
packet_line number p =
    codes "packet " ++ decimal number ++ space ++ replica_words p.sender ++ space ++ decimal p.receiver ++ space ++ decimal (length (packet_text p))
    ++ space ++ encode_lower (sha256 (packet_text p)) ++ line_end

-- the whole text
unfoldable pub report_of : Setting → WorldState → List ℕ
report_of e w =
    codes "pws-report 1\nsteps " ++ decimal w.steps ++ codes "\nsent " ++ decimal (length w.sent) ++ line_end
    ++ flat_map (group_lines e w) (range_with_len 0 (length e.keys.layout))
    ++ flat_map (λ x. packet_line x.0 x.1) (enumerate_from 1 w.sent)
    ++ codes "end\n"
