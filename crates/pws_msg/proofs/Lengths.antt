-- How long what is spelled is at most.
use Rattle.std.proofs.Common.{◌≡◌, ◌⊎◌, inl, inr, ℕ, zero, suc, ◌+◌, ◌*◌, ◌<◌, ◌≤◌, ◌==◌, ◌||◌, Bool, true, false, IsTrue, List, [], ◌∷◌, ◌++◌, length, refl, sym, ◌∙◌, ap, arith, length-append, get_or, All}
use Rattle.std.specs.List.{flat_map}
use Rattle.std.proofs.Math.Nat.{mul-suc}
use Rattle.std.proofs.lemmas.Bool.Decides.{nat_tests}
use Rattle.std.proofs.lemmas.List.Elements.{All-head, All-tail}
use Rattle.pws_base.specs.Texts.{u32_text, u64_text, sized_text}
use Rattle.pws_event.specs.declared.events.Event.{Event}
use Rattle.pws_event.specs.declared.events.Event.TheVariants as event
use Rattle.pws_event.specs.Events.{event_text, reading_text, share_text, IsEvent}
use Rattle.pws_event.specs.Readings.{is_count}
use Rattle.pws_event.specs.declared.readings.Reading.{Reading}
use Rattle.pws_event.specs.declared.readings.Share.{Share}
use Rattle.pws_msg.specs.declared.changes.Checkpoint.{Checkpoint}
use Rattle.pws_msg.specs.declared.changes.PRow.{PRow}
use Rattle.pws_msg.specs.declared.changes.Seen.{Seen}
use Rattle.pws_msg.specs.declared.changes.QRow.{QRow}
use Rattle.pws_msg.specs.declared.changes.Named.{Named}
use Rattle.pws_msg.specs.declared.changes.ViewChange.{ViewChange}
use Rattle.pws_msg.specs.declared.changes.NewView.{NewView}
use Rattle.pws_msg.specs.declared.readings.ReadingValue.{ReadingValue}
use Rattle.pws_msg.specs.declared.readings.ReadingValue.TheVariants as value
use Rattle.pws_msg.specs.Rows.{IsDigest, digest_text, IsCheckpoint, checkpoint_text, IsPRow, p_row_text, IsSeen, seen_text, IsQRow, q_row_text, IsNamed, named_text}
use Rattle.pws_msg.specs.Reported.{IsViewChange, IsNewView}
use Rattle.pws_msg.specs.Statements.{IsReadingValue}
use Rattle.pws_msg.specs.StatementTexts.{reading_value_text, counted_text, view_change_text, new_view_text}
use Rattle.pws_msg.specs.Contents.{IsContent, content_text}
use Rattle.pws_msg.specs.declared.contents.Content.{Content}
use Rattle.pws_msg.specs.declared.contents.Content.TheVariants as content
use Rattle.pws_msg.proofs.Streams.{length-u32_text}

pub length-u64_text : (n : ℕ) → length (u64_text n) ≡ 8
unfolding u64_text
length-u64_text n = refl

-- items that are each so long at most
pub length-rows : {A : Type 0} (f : A → List ℕ) (k : ℕ) (xs : List A) → All (λ x. length (f x) ≤ k) xs → length (flat_map f xs) ≤ k * length xs
length-rows f k [] h = omega arith
length-rows f k (x ∷ xs) h =
    let first : length (f x) ≤ k = All-head (λ x. length (f x) ≤ k) x xs h in
    let more : length (flat_map f xs) ≤ k * length xs = length-rows f k xs (All-tail (λ x. length (f x) ≤ k) x xs h) in
    omega (arith, first, more, length-append (f x) (flat_map f xs), mul-suc k (length xs))

pub length_reading : (r : Reading) → length (reading_text r) ≤ 9
length_reading r = omega (arith, length-append (r.index ∷ []) (u64_text r.ms), length-u64_text r.ms)

pub count_few : (n : ℕ) → IsTrue (is_count n) → n ≤ 7
count_few n h = grind (arith, nat_tests)

pub event_small : (e : Event) → IsEvent e → length (event_text e) ≤ 32782
event_small event.Null h = omega arith
event_small (event.Request r) h = simp (length-append, length-u32_text) (omega (arith, h.body))
event_small (event.Reply r) h = simp (length-append, length-u32_text) (omega (arith, h.body))
event_small (event.Abort a) h = simp (length-append, length-u32_text) (omega arith)
event_small (event.Clock c) h =
    let rows : length (flat_map reading_text c.readings) ≤ 9 * length c.readings = length-rows reading_text 9 c.readings (λ i d l. length_reading (get_or c.readings i d)) in
    let few : length c.readings ≤ 7 = count_few (length c.readings) h.count in
    simp (length-append, length-u32_text) (omega (arith, rows, few))
event_small (event.Random r) h =
    let rows : length (flat_map share_text r.shares) ≤ 33 * length r.shares = length-rows share_text 33 r.shares (λ i d l. let k = h.sizes i d l in omega (arith, k)) in
    let few : length r.shares ≤ 7 = count_few (length r.shares) h.count in
    simp (length-append, length-u32_text) (omega (arith, rows, few))

pub reading_value_small : (v : ReadingValue) → IsReadingValue v → length (reading_value_text v) ≤ 33
reading_value_small (value.Time ms) h = omega (arith, length-u64_text ms)
reading_value_small (value.Share share) h = omega (arith, h)

pub length_checkpoint : (c : Checkpoint) → IsCheckpoint c → length (checkpoint_text c) ≤ 36
length_checkpoint c h = omega (arith, h.digest, length-append (u32_text c.place) c.digest, length-u32_text c.place)

pub length_p_row : (r : PRow) → IsPRow r → length (p_row_text r) ≤ 40
length_p_row r h = simp (length-append, length-u32_text) (omega (arith, h.digest))

pub length_seen : (s : Seen) → IsSeen s → length (seen_text s) ≤ 36
length_seen s h = simp (length-append, length-u32_text) (omega (arith, h.digest))

pub length_named : (n : Named) → IsNamed n → length (named_text n) ≤ 33
length_named n h = omega (arith, h.digest)

pub length_q_row : (r : QRow) → IsQRow r → length (q_row_text r) ≤ 581
length_q_row r h =
    let rows : length (flat_map seen_text r.digests) ≤ 36 * length r.digests = length-rows seen_text 36 r.digests (λ i d l. length_seen _ (h.digests i d l)) in
    simp (length-append, length-u32_text) (omega (arith, rows, h.few))

pub view_change_small : (c : ViewChange) → IsViewChange c → length (view_change_text c) ≤ 19991
view_change_small c h =
    let checkpoints : length (flat_map checkpoint_text c.checkpoints) ≤ 36 * length c.checkpoints = length-rows checkpoint_text 36 c.checkpoints (λ i d l. length_checkpoint _ (h.checkpoints i d l)) in
    let prepared : length (flat_map p_row_text c.prepared) ≤ 40 * length c.prepared = length-rows p_row_text 40 c.prepared (λ i d l. length_p_row _ (h.prepared i d l)) in
    let pre_prepared : length (flat_map q_row_text c.pre_prepared) ≤ 581 * length c.pre_prepared = length-rows q_row_text 581 c.pre_prepared (λ i d l. length_q_row _ (h.pre_prepared i d l)) in
    simp (length-append, length-u32_text) (omega (arith, checkpoints, prepared, pre_prepared, h.few_checkpoints, h.few_prepared, h.few_pre_prepared))

pub new_view_small : (v : NewView) → IsNewView v → length (new_view_text v) ≤ 1400
new_view_small v h =
    let named : length (flat_map named_text v.named) ≤ 33 * length v.named = length-rows named_text 33 v.named (λ i d l. length_named _ (h.named i d l)) in
    let chosen : length (flat_map digest_text v.choice.chosen) ≤ 32 * length v.choice.chosen = length-rows digest_text 32 v.choice.chosen (λ i d l. let k = h.chosen i d l in omega (arith, k)) in
    simp (length-append, length-u32_text) (omega (arith, named, chosen, h.few_named, h.few_chosen, h.digest))

-- a content is short
pub content_small : (c : Content) → IsContent c → length (content_text c) ≤ 32791
content_small (content.Request r) h = simp (length-append, length-u32_text) (omega (arith, h.body))
content_small (content.Reply r) h = simp (length-append, length-u32_text) (omega (arith, h.digest))
content_small (content.Part r) h = simp (length-append, length-u32_text) (omega (arith, h.digest))
content_small (content.Expired n) h = simp (length-append, length-u32_text) (omega arith)
content_small (content.Reading r) h = simp (length-append, length-u32_text) (omega (arith, reading_value_small r.value h.value))
content_small (content.PrePrepare p) h = simp (length-append, length-u32_text) (omega (arith, event_small p.event h.event))
content_small (content.Prepare v) h = simp (length-append, length-u32_text) (omega (arith, h.digest))
content_small (content.Commit v) h = simp (length-append, length-u32_text) (omega (arith, h.digest))
content_small (content.Checkpoint d) h = simp (length-append, length-u32_text) (omega (arith, h.digest))
content_small (content.ViewChange c) h = omega (arith, view_change_small c h)
content_small (content.Ack n) h = simp (length-append, length-u32_text) (omega (arith, h.digest))
content_small (content.NewView v) h = omega (arith, new_view_small v h)
content_small (content.Relay n) h = simp (length-append, length-u32_text) (omega (arith, h.digest))
content_small (content.Fetch w) h = omega (arith, length-u32_text w.place)
content_small (content.Done d) h = simp (length-append, length-u32_text) (omega (arith, event_small d.event h.event))
content_small (content.Need digest) h = omega (arith, h)
content_small (content.Give e) h = omega (arith, event_small e h)
