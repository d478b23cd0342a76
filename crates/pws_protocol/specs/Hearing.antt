-- What is kept of an input: one word for each row; after Castro and Liskov (2002), the windows this project's own.
use Rattle.std.specs.Prelude.{ℕ, ◌+◌, ◌%◌, ◌==◌, ◌&&◌, ◌||◌, ◌++◌, not, Bool, true, false, nat_lt, is_some, if◌then◌else◌, List, [], ◌∷◌, slice_get, Option, Some, None}
use Rattle.std.specs.List.{fold, list_any}
use Rattle.std.specs.Option.{option_map_or, unwrap_or}
use Rattle.std.specs.Str.{bytes_eq}
use Rattle.std.specs.FinMap.{get, contains_key, insert}
use Rattle.pws_base.specs.declared.shapes.ReplicaId.{ReplicaId}
use Rattle.pws_base.specs.Limits.{checkpoint_distance}
use Rattle.pws_base.specs.Places.{is_in_window}
use Rattle.pws_base.specs.Shapes.{size_of_group}
use Rattle.pws_event.specs.declared.events.Event.{Event}
use Rattle.pws_event.specs.Events.{digest_of}
use Rattle.pws_event.specs.Counters.{Counters}
use Rattle.pws_msg.specs.Statements.{ProposalFields, PlaceVoteFields, PlaceDigestFields, ChangeNameFields, DecidedEventFields}
use Rattle.pws_msg.specs.declared.changes.ViewChange.{ViewChange}
use Rattle.pws_msg.specs.declared.changes.NewView.{NewView}
use Rattle.pws_msg.specs.declared.contents.Content.{Content}
use Rattle.pws_msg.specs.declared.contents.Content.TheVariants as content
use Rattle.pws_msg.specs.Contents.{content_digest_of}
use Rattle.pws_msg.specs.Packets.{VoucherFields}
use Rattle.pws_change.specs.Valid.{is_valid}
use Rattle.pws_votes.specs.declared.kinds.Vote.{Vote}
use Rattle.pws_votes.specs.declared.kinds.Vote.TheVariants as vote
use Rattle.pws_votes.specs.declared.kinds.VoteKind.TheVariants as kind
use Rattle.pws_votes.specs.Votes.{Key, key, answer_to, after_vote}
use Rattle.pws_protocol.specs.Evidence.{Noted, note}
use Rattle.pws_protocol.specs.States.{State, primary, is_primary, is_alone, text_of, is_held}
use Rattle.pws_protocol.specs.Gathered.{possible_choice, acks_of, ack_at, slots_name, choice_names}

-- what a voter puts out: a statement to its whole group, with vouchers; an event to be executed; that something wasn't kept
pub data Out : Type 0 where
  Send : Content → List VoucherFields → Out
  Execute : (place : ℕ) → Event → Out
  Unkept : Vote → Out

-- what another replica said: the parts of its packet, beside each voucher whether its tag verified
pub record Vouched : Type 0 where
  pub voucher : VoucherFields
  pub is_verified : Bool

-- a packet of another replica that was opened
pub record SaidFields : Type 0 where
  pub sender : ReplicaId
  pub content : Content
  pub body : Option (List ℕ)
  pub tags : List (List ℕ)
  pub vouchers : List Vouched

-- the state after an input, whether it was kept, and what is put out for it
pub record Answered : Type 0 where
  pub state : State
  pub is_kept : Bool
  pub outs : List Out

-- it was kept
abbrev pub kept : State → Answered
kept s = record { state = s; is_kept = true; outs = [] }

-- it wasn't kept, for this reason
abbrev pub unkept : State → Vote → Answered
unkept s why = record { state = s; is_kept = false; outs = Unkept why ∷ [] }

-- as evidence or the book of votes answers
abbrev pub voted_as : Vote → State → State → Answered
voted_as vote.Kept s t = kept t
voted_as vote.Outside s t = unkept s vote.Outside
voted_as vote.Already s t = unkept s vote.Already

-- a row: it is Outside where a condition fails, Already where only the last does, and else the state after it is given
abbrev pub by_row : Bool → Bool → State → State → Answered
by_row fits is_free s t = if fits then (if is_free then kept t else unkept s vote.Already) else unkept s vote.Outside

-- the evidence with its answer
abbrev as_noted : State → Noted → Answered
as_noted s x = voted_as x.answer s (record s { evidence = x.evidence })

-- REQ, REPLY, EXPIRED, READING: where the evidence keeps it
unfoldable pub keep_evidence : State → Counters → ReplicaId → Content → List ℕ → Answered
keep_evidence s asked sender c body = as_noted s (note s.evidence asked sender c body)

-- PRE_PREPARE: for the view, of its primary to an active backup, in the window and above the floor
abbrev pub fits_proposal : State → ℕ → ProposalFields → Bool
fits_proposal s i x =
    x.view == s.view && (s.active && (not (is_primary s) && (i == primary s && (is_in_window s.low x.place && nat_lt s.floor x.place))))

-- and nothing is pending or accepted there; it is pending then
unfoldable pub keep_proposal : State → ℕ → ProposalFields → Answered
keep_proposal s i x =
    by_row (fits_proposal s i x) (not (contains_key s.pending x.place) && not (contains_key s.slots x.place)) s
    (record s { pending = insert s.pending x.place x.event })

-- votes: as the book answers
abbrev pub keep_in_book : State → Key → List ℕ → Answered
keep_in_book s k digest = voted_as (answer_to s.book k) s (record s { book = after_vote s.book k digest })

-- PREPARE: for the view, not of its primary
unfoldable pub keep_prepare : State → ℕ → PlaceVoteFields → Answered
keep_prepare s i x =
    if x.view == s.view && not (i == primary s)
    then keep_in_book s (key kind.Prepare x.place i) x.digest
    else unkept s vote.Outside

-- COMMIT: for the view
unfoldable pub keep_commit : State → ℕ → PlaceVoteFields → Answered
keep_commit s i x = if x.view == s.view then keep_in_book s (key kind.Commit x.place i) x.digest else unkept s vote.Outside

-- CHECKPOINT: at a multiple of 16
unfoldable pub keep_checkpoint : State → ℕ → PlaceDigestFields → Answered
keep_checkpoint s i x = if x.place % checkpoint_distance == 0 then keep_in_book s (key kind.Checkpoint x.place i) x.digest else unkept s vote.Outside

-- VIEW_CHANGE: not in a group of one, valid, for a later view or for the one on the way
abbrev pub fits_change : State → ViewChange → Bool
fits_change s c = not (is_alone s) && ((nat_lt s.view c.view || (c.view == s.view && not s.active)) && is_valid c)

-- and none of its sender for so late a view is heard; it is heard then, with the tags of its packet, and an older one isn't
unfoldable pub keep_change : State → ℕ → ViewChange → List (List ℕ) → Answered
keep_change s i c tags =
    by_row (fits_change s c) (option_map_or (λ h. nat_lt h.change.view c.view) (get s.heard i) true) s
    (record s { heard = insert s.heard i (record { digest = content_digest_of (content.ViewChange c); change = c; tags = tags }) })

-- ACK: for the view on the way, of a replica about another's change, not of the primary
abbrev pub fits_ack : State → ℕ → ChangeNameFields → Bool
fits_ack s i x = x.view == s.view && (not s.active && (not (i == x.index) && not (i == primary s)))

-- and none of it about that one is held; it is held then
unfoldable pub keep_ack : State → ℕ → ChangeNameFields → Answered
keep_ack s i x =
    by_row (fits_ack s i x) (not (is_some (ack_at s i x.index))) s
    (record s { acks = insert s.acks i (insert (acks_of s i) x.index x.digest) })

-- NEW_VIEW: for the view on the way, of its primary to a backup
abbrev pub fits_new_view : State → ℕ → NewView → Bool
fits_new_view s i x = x.view == s.view && (not s.active && (not (is_primary s) && i == primary s))

-- and none is held; it is held then
unfoldable pub keep_new_view : State → ℕ → NewView → Answered
keep_new_view s i x = by_row (fits_new_view s i x) (not (is_some s.new_view)) s (record s { new_view = Some x })

-- whether the new view names this replica's change with this digest
abbrev is_named_change : State → ChangeNameFields → Bool
is_named_change s x = option_map_or (λ v. list_any (λ n. n.index == x.index && bytes_eq n.digest x.digest) v.named) s.new_view false

-- whether a voucher is this replica's valid view change for the view, with the digest that is named
abbrev is_change_of : State → ChangeNameFields → VoucherFields → ViewChange → Bool
is_change_of s x v c =
    nat_lt x.index (size_of_group s.me.f)
    && (v.sender.group == s.me.group
    && (v.sender.index == x.index
    && (c.view == x.view && (bytes_eq (content_digest_of (content.ViewChange c)) x.digest && is_valid c))))

-- RELAY: for the view on the way, of such a change that the new view names
abbrev pub fits_relay : State → ChangeNameFields → VoucherFields → ViewChange → Bool
fits_relay s x v c = x.view == s.view && (not s.active && (is_named_change s x && is_change_of s x v c))

-- and none of that replica is held; it is held then, with its tags and whether its own tag verified
unfoldable pub keep_relayed : State → ChangeNameFields → Vouched → ViewChange → Answered
keep_relayed s x h c =
    by_row (fits_relay s x h.voucher c) (not (contains_key s.relayed x.index)) s
    (record s { relayed = insert s.relayed x.index (record { digest = x.digest; change = c; tags = h.voucher.tags; is_verified = h.is_verified }) })

-- what is passed on has to be a view change
abbrev pub keep_voucher : State → ChangeNameFields → Vouched → Content → Answered
keep_voucher s x h (content.ViewChange c) = keep_relayed s x h c
keep_voucher s x h _ = unkept s vote.Outside

-- the voucher of a RELAY, if there is one
abbrev pub keep_relay : State → ChangeNameFields → Option Vouched → Answered
keep_relay s x None = unkept s vote.Outside
keep_relay s x (Some h) = keep_voucher s x h h.voucher.content

-- DONE: for the place after the last one executed, in the window; and none of its sender is held
unfoldable pub keep_done : State → ℕ → DecidedEventFields → Answered
keep_done s i x =
    by_row (x.place == s.done + 1 && is_in_window s.low x.place) (not (contains_key s.dones i)) s
    (record s { dones = insert s.dones i x.event })

-- GIVE: an event whose digest a slot or the possible choice names; and it isn't held
unfoldable pub keep_text : State → Event → Answered
keep_text s x =
    by_row (slots_name s (digest_of x) || choice_names (possible_choice s) (digest_of x)) (not (is_held s (digest_of x))) s
    (record s { texts = insert s.texts (digest_of x) x })

-- NEED: never kept; the event, if it is held, is given
abbrev pub give : State → Option Event → Answered
give s None = unkept s vote.Outside
give s (Some x) = record { state = s; is_kept = false; outs = Send (content.Give x) [] ∷ [] }

-- the content of a packet, by the row of its kind; parts of bundles and fetches are no business of the voter
unfoldable pub keep : State → Counters → SaidFields → Content → Answered
keep s asked x (content.Request r) = keep_evidence s asked x.sender (content.Request r) (unwrap_or x.body [])
keep s asked x (content.Reply r) = keep_evidence s asked x.sender (content.Reply r) (unwrap_or x.body [])
keep s asked x (content.Part r) = unkept s vote.Outside
keep s asked x (content.Expired n) = keep_evidence s asked x.sender (content.Expired n) []
keep s asked x (content.Reading r) = keep_evidence s asked x.sender (content.Reading r) []
keep s asked x (content.PrePrepare p) = keep_proposal s x.sender.index p
keep s asked x (content.Prepare v) = keep_prepare s x.sender.index v
keep s asked x (content.Commit v) = keep_commit s x.sender.index v
keep s asked x (content.Checkpoint d) = keep_checkpoint s x.sender.index d
keep s asked x (content.ViewChange c) = keep_change s x.sender.index c x.tags
keep s asked x (content.Ack n) = keep_ack s x.sender.index n
keep s asked x (content.NewView v) = keep_new_view s x.sender.index v
keep s asked x (content.Relay n) = keep_relay s n (slice_get x.vouchers 0)
keep s asked x (content.Fetch w) = unkept s vote.Outside
keep s asked x (content.Done d) = keep_done s x.sender.index d
keep s asked x (content.Need digest) = give s (text_of s digest)
keep s asked x (content.Give e) = keep_text s e

-- a voucher of a reply is heard as if it had come in a packet of its own with the same body, where its tag verified
abbrev pub and_then : Answered → Answered → Answered
and_then a b = record { state = b.state; is_kept = a.is_kept || b.is_kept; outs = a.outs ++ b.outs }

-- one voucher more, where its tag verified
abbrev pub keep_vouched : Counters → List ℕ → Answered → Vouched → Answered
keep_vouched asked body a h = if h.is_verified then and_then a (keep_evidence a.state asked h.voucher.sender h.voucher.content body) else a

-- whether a content's vouchers are heard
abbrev pub are_heard : Content → Bool
are_heard (content.Reply r) = true
are_heard _ = false

-- a whole packet: its content, and then the vouchers of a reply
unfoldable pub heard : State → Counters → SaidFields → Answered
heard s asked x =
    if are_heard x.content
    then fold (keep_vouched asked (unwrap_or x.body [])) (keep s asked x x.content) x.vouchers
    else keep s asked x x.content
