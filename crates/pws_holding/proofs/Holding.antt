-- What each part of a voter holds at most.
use Rattle.std.proofs.Common.{◌≡◌, ◌⊎◌, inl, inr, ℕ, ◌+◌, ◌*◌, ◌%◌, ◌<◌, ◌≤◌, List, [], ◌∷◌, length, map, Option, Some, None, subst, arith}
use Rattle.std.specs.Prelude.{IfSome}
use Rattle.std.specs.List.{Contains, flat_map, range_with_len}
use Rattle.std.specs.Option.{option_map_or}
use Rattle.std.specs.Ordering.{nat_cmp}
use Rattle.std.specs.Cmp.{nat_cmp_total}
use Rattle.std.specs.FinMap.{FinMap, get, len}
use Rattle.std.specs.FinSet as set
use Rattle.std.proofs.lemmas.Cmp.{nat_list_cmp_total}
use Rattle.std.proofs.Math.Nat.{mul-le-mul_right}
use Rattle.std.proofs.lemmas.List.{length-map}
use Rattle.std.proofs.lemmas.List.FromFn.{length-range_with_len}
use Rattle.pws_base.specs.Shapes.{size_of_group}
use Rattle.pws_base.proofs.Members.{here, there, has_map}
use Rattle.pws_event.specs.declared.events.Event.{Event}
use Rattle.pws_event.proofs.Lengths.{event_small}
use Rattle.pws_msg.specs.declared.changes.NewView.{NewView}
use Rattle.pws_msg.specs.declared.changes.ViewChange.{ViewChange}
use Rattle.pws_msg.specs.Reported.{IsViewChange, IsNewView}
use Rattle.pws_msg.specs.declared.contents.Content.TheVariants as content
use Rattle.pws_msg.specs.Packets.{IsTags}
use Rattle.pws_msg.proofs.Lengths.{view_change_small, new_view_small}
use Rattle.pws_votes.specs.declared.kinds.VoteKind.{VoteKind}
use Rattle.pws_votes.specs.declared.kinds.VoteKind.TheVariants as kind
use Rattle.pws_votes.specs.Votes.{Key, key}
use Rattle.pws_votes.proofs.Found.{keys_total}
use Rattle.pws_protocol.specs.States.{State, HeldChange, Relayed}
use Rattle.pws_protocol.specs.Gathered.{possible_choice}
use Rattle.pws_protocol.specs.Fits.{Fits, IsWithin}
use Rattle.pws_protocol.specs.Held.{content_size, event_size, over, by_entry, changes_held, events_held, digests_held}
use Rattle.pws_voter_laws.proofs.Found.{range_has}
use Rattle.pws_voter_laws.proofs.Resting.{chosen_few}
use Rattle.pws_holding.specs.Tidy.{IsTidy}
use Rattle.pws_holding.specs.Bounds.{PartsAreSmall, VotersHoldLittle}
use Rattle.pws_holding.proofs.Counting.{few_keys, over_most, flat_length, flat_has}
use Rattle.pws_holding.proofs.Named.{named_by, named_in, named_few}

-- maps by index of a replica, and by place of the window
indices_few : {X : Type 0} (m : FinMap nat_cmp X) → ((j : ℕ) (x : X) → get m j ≡ Some x → j < 10) → len m ≤ 10
indices_few m h = few_keys nat_cmp_total (range_with_len 0 10) m (λ j x g. range_has 10 0 j (omega arith) (omega (arith, h j x g)))

places_few : {X : Type 0} (low : ℕ) (m : FinMap nat_cmp X) → IsWithin low m → len m ≤ 32
places_few low m h =
    subst (λ n. len m ≤ n) (length-range_with_len (low + 1) 32) (few_keys nat_cmp_total (range_with_len (low + 1) 32) m (λ p x g. let i = h p x g in range_has 32 (low + 1) p (omega (arith, i.0)) (omega (arith, i.1))))

-- so are the sums over them
indices_most : {X : Type 0} (size : X → ℕ) (k : ℕ) (m : FinMap nat_cmp X) → ((j : ℕ) (x : X) → get m j ≡ Some x → j < 10) → ((j : ℕ) (x : X) → get m j ≡ Some x → size x ≤ k) → over size m ≤ 10 * k
indices_most size k m h g =
    let most = over_most nat_cmp_total size k m g in
    let few : len m * k ≤ 10 * k = mul-le-mul_right k (indices_few m h) in
    omega (arith, most, few)

group_few : (s : State) → Fits s → (j : ℕ) → j < size_of_group s.me.f → j < 10
group_few s f j h = let m = f.me.1 in omega (arith, m, h)

-- changes
change_size : (c : ViewChange) (tags : List (List ℕ)) → IsViewChange c → IsTags tags → content_size (content.ViewChange c) + 32 * length tags ≤ 20312
change_size c tags h t = omega (arith, view_change_small c h, t.few)

new_view_size : (o : Option NewView) → IfSome o IsNewView → option_map_or (λ v. content_size (content.NewView v)) o 0 ≤ 1401
new_view_size None h = omega arith
new_view_size (Some v) h = omega (arith, new_view_small v h)

new_view_fits : (s : State) (o : Option NewView) → IfSome o (λ v. (v.view ≡ s.view) × IsNewView v) → IfSome o IsNewView
new_view_fits s None h = h
new_view_fits s (Some v) h = h.1

ack_row : (s : State) → Fits s → (i : ℕ) (row : FinMap nat_cmp (List ℕ)) → get s.acks i ≡ Some row → by_entry row ≤ 320
ack_row s f i row g = let n = indices_few row (λ j d k. f.acks.about i j row d g k) in omega (arith, n)

changes_small : (s : State) → Fits s → changes_held s ≤ 410841
unfolding changes_held
changes_small s f =
    let heard = indices_most (λ (c : HeldChange). content_size (content.ViewChange c.change) + 32 * length c.tags) 20312 s.heard (λ j c g. group_few s f j (f.changes.heard j c g).0) (λ j c g. change_size c.change c.tags (f.changes.heard j c g).2 (f.tags.heard j c g)) in
    let relayed = indices_most (λ (c : Relayed). content_size (content.ViewChange c.change) + 32 * length c.tags) 20312 s.relayed (λ j c g. group_few s f j (f.changes.relayed j c g).0) (λ j c g. change_size c.change c.tags (f.changes.relayed j c g).2 (f.tags.relayed j c g)) in
    let new = new_view_size s.new_view (new_view_fits s s.new_view f.new_view) in
    let acks = indices_most by_entry 320 s.acks (λ i row g. group_few s f i (f.acks.from i row g)) (ack_row s f) in
    omega (arith, heard, relayed, new, acks)

-- events
texts_small : (s : State) → Fits s → IsTidy s → over (λ e. 32 + event_size e) s.texts ≤ 576 * 32814
texts_small s f t =
    let named = named_few s (possible_choice s) (places_few s.low s.slots f.places.1) (places_few s.low s.pre_prepared f.rows.places.1) (λ p row g. (f.rows.row p row g).1) (chosen_few s) in
    let few = few_keys nat_list_cmp_total (named_by s (possible_choice s)) s.texts (λ d e g. named_in s (possible_choice s) d (t d e g)) in
    let most = over_most nat_list_cmp_total (λ (e : Event). 32 + event_size e) 32814 s.texts (λ d e g. omega (arith, event_small e (f.texts d e g).2)) in
    omega (arith, named, few, most)

events_small : (s : State) → Fits s → IsTidy s → events_held s ≤ 20277708
unfolding events_held
events_small s f t =
    let pending = over_most nat_cmp_total event_size 32782 s.pending (λ p e g. event_small e (f.pending p e g).3) in
    let places = places_few s.low s.pending f.places.0 in
    let dones = indices_most event_size 32782 s.dones (λ j e g. group_few s f j (f.dones j e g).0) (λ j e g. event_small e (f.dones j e g).2) in
    let texts = texts_small s f t in
    omega (arith, pending, places, dones, texts)

-- digests
chain_place : (low p : ℕ) → low % 16 ≡ 0 → p % 16 ≡ 0 → low ≤ p → p ≤ low + 32 → Contains (low ∷ (low + 16) ∷ (low + 32) ∷ []) p
chain_place low p a b c d = elim three [
  | inl e ↦ subst (λ q. Contains (low ∷ (low + 16) ∷ (low + 32) ∷ []) q) e (here low ((low + 16) ∷ (low + 32) ∷ []))
  | inr e ↦ elim e [
    | inl e ↦ subst (λ q. Contains (low ∷ (low + 16) ∷ (low + 32) ∷ []) q) e (there low (low + 16) ((low + 16) ∷ (low + 32) ∷ []) (here (low + 16) ((low + 32) ∷ [])))
    | inr e ↦ subst (λ q. Contains (low ∷ (low + 16) ∷ (low + 32) ∷ []) q) e (there low (low + 32) ((low + 16) ∷ (low + 32) ∷ []) (there (low + 16) (low + 32) ((low + 32) ∷ []) (here (low + 32) [])))
  ]
]
  where
    three : (low ≡ p) ⊎ ((low + 16 ≡ p) ⊎ (low + 32 ≡ p))
    three = grind arith

chains_few : (s : State) → Fits s → len s.chains ≤ 3
chains_few s f =
    few_keys nat_cmp_total (s.low ∷ (s.low + 16) ∷ (s.low + 32) ∷ []) s.chains (λ p d g. let o = f.chains.only p d g in let l = f.low in chain_place s.low p l.2 o.2 o.0 (omega (arith, o.1, l.1)))

-- the votes that a book may have, by kind, place and voter
of_place : VoteKind → ℕ → List Key
of_place k p = map (λ i. key k p i) (range_with_len 0 10)

of_kind : ℕ → VoteKind → List Key
unfolding of_place
of_kind low k = flat_map (of_place k) (range_with_len (low + 1) 32)

kinds : List VoteKind
kinds = kind.Prepare ∷ kind.Commit ∷ kind.Checkpoint ∷ []

kind_in : (k : VoteKind) → Contains kinds k
unfolding kinds
kind_in kind.Prepare = here kind.Prepare (kind.Commit ∷ kind.Checkpoint ∷ [])
kind_in kind.Commit = there kind.Prepare kind.Commit (kind.Commit ∷ kind.Checkpoint ∷ []) (here kind.Commit (kind.Checkpoint ∷ []))
kind_in kind.Checkpoint = there kind.Prepare kind.Checkpoint (kind.Commit ∷ kind.Checkpoint ∷ []) (there kind.Commit kind.Checkpoint (kind.Checkpoint ∷ []) (here kind.Checkpoint []))

vote_in : (low : ℕ) (k : Key) → low < k.place → k.place ≤ low + 32 → k.voter < 10 → Contains (flat_map (of_kind low) kinds) k
unfolding of_kind of_place
vote_in low k a b c =
    let voter = has_map (λ i. key k.kind k.place i) (range_with_len 0 10) k.voter (range_has 10 0 k.voter (omega arith) (omega (arith, c))) in
    let place = flat_has (of_place k.kind) (range_with_len (low + 1) 32) k.place k (range_has 32 (low + 1) k.place (omega (arith, a)) (omega (arith, b))) voter in
    flat_has (of_kind low) kinds k.kind k (kind_in k.kind) place

place_length : (k : VoteKind) (p : ℕ) → length (of_place k p) ≤ 10
unfolding of_place
place_length k p = omega (arith, length-map (range_with_len 0 10) (λ i. key k p i), length-range_with_len 0 10)

kind_length : (low : ℕ) (k : VoteKind) → length (of_kind low k) ≤ 320
unfolding of_kind
kind_length low k =
    let t = flat_length (of_place k) 10 (range_with_len (low + 1) 32) (λ p c. place_length k p) in
    subst (λ n. length (flat_map (of_place k) (range_with_len (low + 1) 32)) ≤ n * 10) (length-range_with_len (low + 1) 32) t

votes_length : (low : ℕ) → length (flat_map (of_kind low) kinds) ≤ 960
unfolding kinds
votes_length low = flat_length (of_kind low) 320 kinds (λ k c. kind_length low k)

votes_few : (s : State) → Fits s → len s.book.votes ≤ 960
votes_few s f =
    let few = few_keys keys_total (flat_map (of_kind s.low) kinds) s.book.votes (λ k d g. let i = f.votes.place k d g in vote_in s.low k i.0 i.1 (group_few s f k.voter (f.votes.voter k d g))) in
    omega (arith, few, votes_length s.low)

digests_small : (s : State) → Fits s → digests_held s ≤ 49280 + 32 * set.len s.needed
unfolding digests_held
digests_small s f =
    let chains = chains_few s f in
    let slots = places_few s.low s.slots f.places.1 in
    let votes = votes_few s f in
    let prepared = places_few s.low s.prepared f.rows.places.0 in
    let rows = places_few s.low s.pre_prepared f.rows.places.1 in
    let most = over_most nat_cmp_total by_entry 512 s.pre_prepared (λ p row g. let n = (f.rows.row p row g).1 in omega (arith, n)) in
    omega (arith, chains, slots, votes, prepared, rows, most)

pub parts_are_small : PartsAreSmall
parts_are_small s f t = record { changes = changes_small s f; events = events_small s f t; digests = digests_small s f }

pub voters_hold_little : VotersHoldLittle
voters_hold_little s f t n = let p = parts_are_small s f t in omega (arith, p.changes, p.events, p.digests, n)
