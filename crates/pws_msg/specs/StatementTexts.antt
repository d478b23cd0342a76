-- The bytes that spell what replicas say: the fields of each statement, in order; this project's own.
use Rattle.std.specs.Prelude.{ℕ, List, [], ◌∷◌, ◌++◌, length}
use Rattle.std.specs.List.{flat_map}
use Rattle.pws_base.specs.Texts.{u32_text, u64_text, sized_text}
use Rattle.pws_event.specs.Events.{event_text}
use Rattle.pws_msg.specs.declared.changes.ViewChange.{ViewChange}
use Rattle.pws_msg.specs.declared.changes.NewView.{NewView}
use Rattle.pws_msg.specs.declared.readings.ReadingValue.{ReadingValue}
use Rattle.pws_msg.specs.declared.readings.ReadingValue.TheVariants as value
use Rattle.pws_msg.specs.Rows.{digest_text, checkpoint_text, p_row_text, q_row_text, named_text}
use Rattle.pws_msg.specs.Statements.{OwnRequestFields, ReplyNoteFields, CallNameFields, OwnReadingFields, ProposalFields, PlaceVoteFields, PlaceDigestFields, ChangeNameFields, WantedPlaceFields, DecidedEventFields}

-- sort 0 and a time, or sort 1 and a share
abbrev pub reading_value_text : ReadingValue → List ℕ
reading_value_text (value.Time ms) = (0 ∷ []) ++ u64_text ms
reading_value_text (value.Share share) = (1 ∷ []) ++ share

abbrev pub own_request_text : OwnRequestFields → List ℕ
own_request_text r = u32_text r.number ++ u32_text r.low ++ sized_text r.body

abbrev pub reply_note_text : ReplyNoteFields → List ℕ
reply_note_text r = (r.caller ∷ []) ++ u32_text r.number ++ r.digest

abbrev pub call_name_text : CallNameFields → List ℕ
call_name_text n = (n.called ∷ []) ++ u32_text n.number

abbrev pub own_reading_text : OwnReadingFields → List ℕ
own_reading_text r = u32_text r.ask ++ reading_value_text r.value

abbrev pub proposal_text : ProposalFields → List ℕ
proposal_text p = u32_text p.view ++ u32_text p.place ++ event_text p.event

abbrev pub place_vote_text : PlaceVoteFields → List ℕ
place_vote_text v = u32_text v.view ++ u32_text v.place ++ v.digest

abbrev pub place_digest_text : PlaceDigestFields → List ℕ
place_digest_text d = u32_text d.place ++ d.digest

abbrev pub change_name_text : ChangeNameFields → List ℕ
change_name_text n = u32_text n.view ++ (n.index ∷ []) ++ n.digest

abbrev pub wanted_place_text : WantedPlaceFields → List ℕ
wanted_place_text w = u32_text w.place

abbrev pub decided_event_text : DecidedEventFields → List ℕ
decided_event_text d = u32_text d.place ++ event_text d.event

-- rows after their count in one byte
abbrev pub counted_text : {A : Type 0} → (A → List ℕ) → List A → List ℕ
counted_text row_text rows = (length rows ∷ []) ++ flat_map row_text rows

-- the view, the low mark, and the three lists
abbrev pub view_change_text : ViewChange → List ℕ
view_change_text c = u32_text c.view ++ u32_text c.low ++ counted_text checkpoint_text c.checkpoints ++ counted_text p_row_text c.prepared ++ counted_text q_row_text c.pre_prepared

-- the view, the view changes that are named, the place and the digest of the checkpoint, and the chosen digests
abbrev pub new_view_text : NewView → List ℕ
new_view_text v = u32_text v.view ++ counted_text named_text v.named ++ u32_text v.choice.place ++ v.choice.digest ++ counted_text digest_text v.choice.chosen
