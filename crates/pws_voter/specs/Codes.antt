-- For proofs alone. How the values of a voter's state are stored.
use Rattle.std.specs.Prelude.{ℕ, Bool, List, Option}
use Rattle.std.proofs.Common.{refl}
use Rattle.std.specs.Coded.{Coded, code_by, coded×, coded_ℕ, coded_bool, coded_list, coded_option}
use Rattle.std.specs.Ordering.{nat_cmp}
use Rattle.std.specs.Cmp.Lexicographic.{slice_cmp}
use Rattle.std.specs.FinMap.{FinMap}
use Rattle.std.specs.FinMap as finite
use Rattle.std.specs.FinSet.{FinSet}
use Rattle.std.specs.FinSet as set
use Rattle.pws_base.specs.declared.shapes.ReplicaId.{ReplicaId}
use Rattle.pws_base.specs.Replicas.{replica_code}
use Rattle.pws_event.specs.declared.events.Event.{Event}
use Rattle.pws_event.specs.contracts.events.Event as event_row
use Rattle.pws_msg.specs.declared.changes.ViewChange.{ViewChange}
use Rattle.pws_msg.specs.contracts.changes.ViewChange as change_row
use Rattle.pws_msg.specs.declared.changes.NewView.{NewView}
use Rattle.pws_msg.specs.contracts.changes.NewView as new_view_row
use Rattle.pws_msg.specs.declared.contents.Content.{Content}
use Rattle.pws_msg.specs.contracts.contents.Content as content_row
use Rattle.pws_msg.specs.Packets.{VoucherFields}
use Rattle.pws_protocol.specs.States.{Me, Slot, HeldChange, Relayed, State}
use Rattle.pws_protocol.specs.Evidence.{Evidence}
use Rattle.pws_change.specs.Sets.{Prepared, prepared_code, PrePrepared, pre_prepared_code}
use Rattle.pws_votes.specs.Votes.{Book, book_code}
use Rattle.pws_evidence.specs.Stores.{evidence_code}
use Rattle.pws_protocol.specs.Hearing.{Vouched, SaidFields}

-- a list of bytes
abbrev pub bytes_code : Coded (List ℕ)
bytes_code = coded_list coded_ℕ

-- an event, a view change, a content
abbrev pub event_code : Coded Event
event_code = event_row.the_row.coded

abbrev pub change_code : Coded ViewChange
change_code = change_row.the_row.coded

abbrev pub content_code : Coded Content
content_code = content_row.the_row.coded

-- the voter's replica
abbrev pub me_code : Coded Me
me_code = code_by (ℕ × (ℕ × ℕ)) (coded× coded_ℕ (coded× coded_ℕ coded_ℕ)) (λ m. (m.group, (m.index, m.f))) (λ p. record { group = p.0; index = p.1.0; f = p.1.1 }) (λ _. refl)

-- a slot
abbrev pub slot_code : Coded Slot
slot_code = code_by (List ℕ × (Bool × Bool)) (coded× bytes_code (coded× coded_bool coded_bool)) (λ t. (t.digest, (t.is_prepared, t.is_committed))) (λ p. record { digest = p.0; is_prepared = p.1.0; is_committed = p.1.1 }) (λ _. refl)

-- a change as it was heard
abbrev pub held_change_code : Coded HeldChange
held_change_code = code_by (List ℕ × (ViewChange × List (List ℕ))) (coded× bytes_code (coded× change_code (coded_list bytes_code))) (λ c. (c.digest, (c.change, c.tags))) (λ p. record { digest = p.0; change = p.1.0; tags = p.1.1 }) (λ _. refl)

-- one that was passed on
abbrev pub relayed_code : Coded Relayed
relayed_code = code_by (List ℕ × (ViewChange × (List (List ℕ) × Bool))) (coded× bytes_code (coded× change_code (coded× (coded_list bytes_code) coded_bool))) (λ c. (c.digest, (c.change, (c.tags, c.is_verified)))) (λ p. record { digest = p.0; change = p.1.0; tags = p.1.1.0; is_verified = p.1.1.1 }) (λ _. refl)

-- a voucher
abbrev voucher_code : Coded VoucherFields
voucher_code = code_by (ReplicaId × (Content × List (List ℕ))) (coded× replica_code (coded× content_code (coded_list bytes_code))) (λ v. (v.sender, (v.content, v.tags))) (λ p. record { sender = p.0; content = p.1.0; tags = p.1.1 }) (λ _. refl)

-- a voucher, and whether it verified
abbrev pub vouched_code : Coded Vouched
vouched_code = code_by (VoucherFields × Bool) (coded× voucher_code coded_bool) (λ v. (v.voucher, v.is_verified)) (λ p. record { voucher = p.0; is_verified = p.1 }) (λ _. refl)

-- a packet that was opened
abbrev pub said_code : Coded SaidFields
said_code = code_by (ReplicaId × (Content × (Option (List ℕ) × (List (List ℕ) × List Vouched)))) (coded× replica_code (coded× content_code (coded× (coded_option bytes_code) (coded× (coded_list bytes_code) (coded_list vouched_code))))) (λ x. (x.sender, (x.content, (x.body, (x.tags, x.vouchers))))) (λ p. record { sender = p.0; content = p.1.0; body = p.1.1.0; tags = p.1.1.1.0; vouchers = p.1.1.1.1 }) (λ _. refl)

-- the parts of a state
abbrev pub digests_code : Coded (FinMap nat_cmp (List ℕ))
digests_code = finite.code coded_ℕ bytes_code

abbrev pub events_code : Coded (FinMap nat_cmp Event)
events_code = finite.code coded_ℕ event_code

abbrev slots_code : Coded (FinMap nat_cmp Slot)
slots_code = finite.code coded_ℕ slot_code

abbrev texts_code : Coded (FinMap (slice_cmp nat_cmp) Event)
texts_code = finite.code bytes_code event_code

abbrev pub needed_code : Coded (FinSet (slice_cmp nat_cmp))
needed_code = set.code bytes_code

abbrev heard_code : Coded (FinMap nat_cmp HeldChange)
heard_code = finite.code coded_ℕ held_change_code

abbrev acks_code : Coded (FinMap nat_cmp (FinMap nat_cmp (List ℕ)))
acks_code = finite.code coded_ℕ digests_code

abbrev new_view_code : Coded (Option NewView)
new_view_code = coded_option new_view_row.the_row.coded

abbrev relays_code : Coded (FinMap nat_cmp Relayed)
relays_code = finite.code coded_ℕ relayed_code

-- a state
abbrev pub state_code : Coded State
state_code =
    code_by (Me × (ℕ × (Bool × (ℕ × (ℕ × (ℕ × (ℕ × (ℕ × (ℕ × ((List ℕ) × ((FinMap nat_cmp (List ℕ)) × ((FinMap nat_cmp Event) × ((FinMap nat_cmp Slot) × (Book × (Prepared × (PrePrepared × ((FinMap (slice_cmp nat_cmp) Event) × ((FinSet (slice_cmp nat_cmp)) × (Evidence × ((FinMap nat_cmp HeldChange) × ((FinMap nat_cmp (FinMap nat_cmp (List ℕ))) × ((Option NewView) × ((FinMap nat_cmp Relayed) × ((FinMap nat_cmp Event)))))))))))))))))))))))))
    (coded× me_code (coded× coded_ℕ (coded× coded_bool (coded× coded_ℕ (coded× coded_ℕ (coded× coded_ℕ (coded× coded_ℕ (coded× coded_ℕ (coded× coded_ℕ (coded× bytes_code (coded× digests_code (coded× events_code (coded× slots_code (coded× book_code (coded× prepared_code (coded× pre_prepared_code (coded× texts_code (coded× needed_code (coded× evidence_code (coded× heard_code (coded× acks_code (coded× new_view_code (coded× relays_code events_code)))))))))))))))))))))))
    (λ s. (s.me, (s.view, (s.active, (s.low, (s.done, (s.floor, (s.last, (s.waited, (s.moves, (s.chain, (s.chains, (s.pending, (s.slots, (s.book, (s.prepared, (s.pre_prepared, (s.texts, (s.needed, (s.evidence, (s.heard, (s.acks, (s.new_view, (s.relayed, (s.dones)))))))))))))))))))))))))
    (λ p. record { me = p.0; view = p.1.0; active = p.1.1.0; low = p.1.1.1.0; done = p.1.1.1.1.0; floor = p.1.1.1.1.1.0; last = p.1.1.1.1.1.1.0; waited = p.1.1.1.1.1.1.1.0; moves = p.1.1.1.1.1.1.1.1.0; chain = p.1.1.1.1.1.1.1.1.1.0; chains = p.1.1.1.1.1.1.1.1.1.1.0; pending = p.1.1.1.1.1.1.1.1.1.1.1.0; slots = p.1.1.1.1.1.1.1.1.1.1.1.1.0; book = p.1.1.1.1.1.1.1.1.1.1.1.1.1.0; prepared = p.1.1.1.1.1.1.1.1.1.1.1.1.1.1.0; pre_prepared = p.1.1.1.1.1.1.1.1.1.1.1.1.1.1.1.0; texts = p.1.1.1.1.1.1.1.1.1.1.1.1.1.1.1.1.0; needed = p.1.1.1.1.1.1.1.1.1.1.1.1.1.1.1.1.1.0; evidence = p.1.1.1.1.1.1.1.1.1.1.1.1.1.1.1.1.1.1.0; heard = p.1.1.1.1.1.1.1.1.1.1.1.1.1.1.1.1.1.1.1.0; acks = p.1.1.1.1.1.1.1.1.1.1.1.1.1.1.1.1.1.1.1.1.0; new_view = p.1.1.1.1.1.1.1.1.1.1.1.1.1.1.1.1.1.1.1.1.1.0; relayed = p.1.1.1.1.1.1.1.1.1.1.1.1.1.1.1.1.1.1.1.1.1.1.0; dones = p.1.1.1.1.1.1.1.1.1.1.1.1.1.1.1.1.1.1.1.1.1.1.1 }) (λ _. refl)
