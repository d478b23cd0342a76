-- How long what is spelled is.
use Rattle.std.proofs.Common.{◌≡◌, ℕ, zero, suc, ◌+◌, ◌*◌, ◌<◌, ◌≤◌, List, [], ◌∷◌, ◌++◌, length, refl, sym, ◌∙◌, ap, subst, arith, length-append, take, get_or, All}
use Rattle.std.specs.List.{flat_map}
use Rattle.std.proofs.Math.Nat.{mul-suc}
use Rattle.std.proofs.lemmas.List.Elements.{All-head, All-tail}
use Rattle.pws_base.specs.Texts.{u32_text, u64_text, sized_text}
use Rattle.pws_event.specs.Events.{event_text}
use Rattle.pws_msg.specs.declared.changes.QRow.{QRow}
use Rattle.pws_msg.specs.declared.changes.ViewChange.{ViewChange}
use Rattle.pws_msg.specs.declared.changes.NewView.{NewView}
use Rattle.pws_msg.specs.declared.readings.ReadingValue.TheVariants as value
use Rattle.pws_msg.specs.declared.contents.Content.{Content}
use Rattle.pws_msg.specs.Rows.{IsDigest, digest_text, checkpoint_text, p_row_text, seen_text, IsQRow, q_row_text, named_text}
use Rattle.pws_msg.specs.Reported.{IsViewChange, IsNewView}
use Rattle.pws_msg.specs.Statements.{OwnRequestFields, OwnReadingFields, ReplyNoteFields, IsReplyNote, CallNameFields, ProposalFields, PlaceVoteFields, IsPlaceVote, PlaceDigestFields, IsPlaceDigest, ChangeNameFields, IsChangeName, WantedPlaceFields, DecidedEventFields, IsReadingValue}
use Rattle.pws_msg.specs.StatementTexts.{reading_value_text, own_request_text, reply_note_text, call_name_text, own_reading_text, proposal_text, place_vote_text, place_digest_text, change_name_text, wanted_place_text, decided_event_text, view_change_text, new_view_text}
use Rattle.pws_msg.specs.Contents.{fields_text, content_text}
use Rattle.pws_msg.proofs.Streams.{length-u32_text}
use Rattle.pws_msg.proofs.Lengths.{length-u64_text}

-- items that are each so long
pub rows_size : {A : Type 0} (f : A → List ℕ) (k : ℕ) (xs : List A) → All (λ x. length (f x) ≡ k) xs → length (flat_map f xs) ≡ k * length xs
rows_size f k [] h = omega arith
rows_size f k (x ∷ xs) h =
    let first : length (f x) ≡ k = All-head (λ x. length (f x) ≡ k) x xs h in
    let more : length (flat_map f xs) ≡ k * length xs = rows_size f k xs (All-tail (λ x. length (f x) ≡ k) x xs h) in
    omega (arith, first, more, length-append (f x) (flat_map f xs), mul-suc k (length xs))

pub time_size : (ms : ℕ) → length (reading_value_text (value.Time ms)) ≡ 9
time_size ms = omega (arith, length-u64_text ms)

pub share_size : (share : List ℕ) → IsReadingValue (value.Share share) → length (reading_value_text (value.Share share)) ≡ 33
share_size share h = omega (arith, h)

pub q_row_size : (r : QRow) → IsQRow r → length (q_row_text r) ≡ 5 + 36 * length r.digests
q_row_size r h =
    let rows : length (flat_map seen_text r.digests) ≡ 36 * length r.digests = rows_size seen_text 36 r.digests (λ i d l. let s = h.digests i d l in omega (arith, s.digest, length-append (get_or r.digests i d).digest (u32_text (get_or r.digests i d).view), length-u32_text (get_or r.digests i d).view)) in
    simp (length-append, length-u32_text) (omega (arith, rows))

pub view_change_size : (c : ViewChange) → IsViewChange c → length (view_change_text c) ≡ 11 + 36 * length c.checkpoints + 40 * length c.prepared + length (flat_map q_row_text c.pre_prepared)
view_change_size c h =
    let checkpoints : length (flat_map checkpoint_text c.checkpoints) ≡ 36 * length c.checkpoints = rows_size checkpoint_text 36 c.checkpoints (λ i d l. let s = h.checkpoints i d l in omega (arith, s.digest, length-append (u32_text (get_or c.checkpoints i d).place) (get_or c.checkpoints i d).digest, length-u32_text (get_or c.checkpoints i d).place)) in
    let prepared : length (flat_map p_row_text c.prepared) ≡ 40 * length c.prepared = rows_size p_row_text 40 c.prepared (λ i d l. let s = h.prepared i d l in simp (length-append, length-u32_text) (omega (arith, s.digest))) in
    simp (length-append, length-u32_text) (omega (arith, checkpoints, prepared))

pub new_view_size : (v : NewView) → IsNewView v → length (new_view_text v) ≡ 42 + 33 * length v.named + 32 * length v.choice.chosen
new_view_size v h =
    let named : length (flat_map named_text v.named) ≡ 33 * length v.named = rows_size named_text 33 v.named (λ i d l. let s = h.named i d l in omega (arith, s.digest)) in
    let chosen : length (flat_map digest_text v.choice.chosen) ≡ 32 * length v.choice.chosen = rows_size digest_text 32 v.choice.chosen (λ i d l. let k = h.chosen i d l in omega (arith, k)) in
    simp (length-append, length-u32_text) (omega (arith, named, chosen, h.digest))

pub request_size : (r : OwnRequestFields) → length (own_request_text r) ≡ 12 + length r.body
request_size r = simp (length-append, length-u32_text) (omega arith)

pub reply_size : (r : ReplyNoteFields) → IsReplyNote r → length (reply_note_text r) ≡ 37
reply_size r h = simp (length-append, length-u32_text) (omega (arith, h.digest))

pub call_size : (n : CallNameFields) → length (call_name_text n) ≡ 5
call_size n = simp (length-append, length-u32_text) (omega arith)

pub reading_size : (r : OwnReadingFields) → length (own_reading_text r) ≡ 4 + length (reading_value_text r.value)
reading_size r = simp (length-append, length-u32_text) (omega arith)

pub proposal_size : (p : ProposalFields) → length (proposal_text p) ≡ 8 + length (event_text p.event)
proposal_size p = simp (length-append, length-u32_text) (omega arith)

pub vote_size : (v : PlaceVoteFields) → IsPlaceVote v → length (place_vote_text v) ≡ 40
vote_size v h = simp (length-append, length-u32_text) (omega (arith, h.digest))

pub checkpoint_size : (d : PlaceDigestFields) → IsPlaceDigest d → length (place_digest_text d) ≡ 36
checkpoint_size d h = simp (length-append, length-u32_text) (omega (arith, h.digest))

pub change_name_size : (n : ChangeNameFields) → IsChangeName n → length (change_name_text n) ≡ 37
change_name_size n h = simp (length-append, length-u32_text) (omega (arith, h.digest))

pub wanted_size : (w : WantedPlaceFields) → length (wanted_place_text w) ≡ 4
wanted_size w = length-u32_text w.place

pub done_size : (d : DecidedEventFields) → length (decided_event_text d) ≡ 4 + length (event_text d.event)
done_size d = simp (length-append, length-u32_text) (omega arith)

-- the byte of the kind, and the fields
pub content_size : (c : Content) → length (content_text c) ≡ length (fields_text c) + 1
content_size c = omega arith

flat_step : {A : Type 0} (f : A → List ℕ) (xs : List A) (i : ℕ) (x : A) → i < length xs → x ≡ get_or xs i x → length (flat_map f (take (suc i) xs)) ≡ length (flat_map f (take i xs)) + length (f x)
flat_step f [] i x l e = absurd (omega (arith, l))
flat_step f (y ∷ ys) zero x l e = omega (arith, ap (λ z. length (f z)) e, length-append (f y) [])
flat_step f (y ∷ ys) (suc i) x l e =
    let more : length (flat_map f (take (suc i) ys)) ≡ length (flat_map f (take i ys)) + length (f x) = flat_step f ys i x (omega (arith, l)) e in
    omega (arith, more, length-append (f y) (flat_map f (take (suc i) ys)), length-append (f y) (flat_map f (take i ys)))

-- rows that were gone through, and one more
pub q_rows_step : (rows : List QRow) (i sum : ℕ) (r : QRow) → All IsQRow rows → i < length rows → r ≡ get_or rows i r → sum ≡ length (flat_map q_row_text (take i rows)) → sum ≤ 581 * i → (sum + (5 + 36 * length r.digests) ≡ length (flat_map q_row_text (take (i + 1) rows))) × (sum + (5 + 36 * length r.digests) ≤ 581 * (i + 1))
q_rows_step rows i sum r h l e s b =
    let lawful : IsQRow r = subst IsQRow (sym e) (h i r l) in
    let size : length (q_row_text r) ≡ 5 + 36 * length r.digests = q_row_size r lawful in
    let one : suc i ≡ i + 1 = omega arith in
    let more : length (flat_map q_row_text (take (i + 1) rows)) ≡ length (flat_map q_row_text (take i rows)) + length (q_row_text r) = subst (λ k. length (flat_map q_row_text (take k rows)) ≡ length (flat_map q_row_text (take i rows)) + length (q_row_text r)) one (flat_step q_row_text rows i r l e) in
    (omega (arith, more, size, s), omega (arith, b, lawful.few))
