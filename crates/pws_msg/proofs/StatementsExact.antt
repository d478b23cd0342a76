-- Statements, read and spelled.
use Rattle.std.proofs.Common.{◌≡◌, ℕ, ◌+◌, ◌<◌, ◌≤◌, ◌^◌, ◌==◌, Bool, true, false, if◌then◌else◌, List, [], ◌∷◌, ◌++◌, length, inl, inr, Result, Ok, Err, refl, sym, ◌∙◌, ap, arith, append_assoc, All}
use Rattle.std.specs.List.{flat_map}
use Rattle.std.proofs.lemmas.Bool.{eqb-true}
use Rattle.std.proofs.lemmas.Bool.Decides.{nat_tests}
use Rattle.pws_base.specs.Texts.{u32_text, u64_text}
use Rattle.pws_base.specs.declared.fields.FieldFault.{FieldFault}
use Rattle.pws_base.specs.Fields.{Unread, ◌>>=◌, u8_within, u64_field, bytes_field, digest_field, index_field, view_field}
use Rattle.pws_msg.specs.Bytes.{IsBytes}
use Rattle.pws_msg.specs.declared.changes.Checkpoint.{Checkpoint}
use Rattle.pws_msg.specs.declared.changes.PRow.{PRow}
use Rattle.pws_msg.specs.declared.changes.Seen.{Seen}
use Rattle.pws_msg.specs.declared.changes.QRow.{QRow}
use Rattle.pws_msg.specs.declared.changes.Named.{Named}
use Rattle.pws_msg.specs.declared.changes.ViewChange.{ViewChange}
use Rattle.pws_msg.specs.declared.changes.NewView.{NewView}
use Rattle.pws_msg.specs.declared.readings.ReadingValue.{ReadingValue}
use Rattle.pws_msg.specs.declared.readings.ReadingValue.TheVariants as value
use Rattle.pws_msg.specs.Rows.{IsDigest, digest_text, IsCheckpoint, checkpoint_text, IsPRow, p_row_text, IsSeen, seen_text, IsQRow, q_row_text, IsNamed, named_text}
use Rattle.pws_msg.specs.RowFields.{counted_at, checkpoint_at, p_row_at, seen_at, q_row_at, named_at}
use Rattle.pws_msg.specs.Reported.{IsViewChange, IsNewView}
use Rattle.pws_msg.specs.Statements.{IsReadingValue, OwnRequestFields, IsOwnRequest, ReplyNoteFields, IsReplyNote, CallNameFields, IsCallName, OwnReadingFields, IsOwnReading, ProposalFields, IsProposal, PlaceVoteFields, IsPlaceVote, PlaceDigestFields, IsPlaceDigest, ChangeNameFields, IsChangeName, WantedPlaceFields, IsWantedPlace, DecidedEventFields, IsDecidedEvent}
use Rattle.pws_msg.specs.StatementTexts.{reading_value_text, view_change_text, new_view_text, own_request_text, reply_note_text, call_name_text, own_reading_text, proposal_text, place_vote_text, place_digest_text, change_name_text, wanted_place_text, decided_event_text}
use Rattle.pws_msg.specs.StatementFields.{time_at, share_at, reading_value_at, view_change_at, new_view_at, own_request_at, reply_note_at, call_name_at, own_reading_at, proposal_at, place_vote_at, place_digest_at, change_name_at, wanted_place_at, decided_event_at}
use Rattle.pws_msg.proofs.Exact.{ReadAs, IsExact, seq_sound, seq_complete, exact1, exact2, exact3, exact5}
use Rattle.pws_msg.proofs.FieldsExact.{byte_text, u8_within_exact, u32_within_exact, u64_exact, bytes_exact}
use Rattle.pws_msg.proofs.RowsExact.{AreCounted, counted_exact}
use Rattle.pws_msg.proofs.EventsExact.{choose, IsWithin, group_exact, number_exact, body_exact, event_exact}

pub view_exact : IsExact ℕ view_field u32_text (IsWithin 0 1000000)
view_exact = u32_within_exact 0 1000000 (omega arith)

pub index_exact : IsExact ℕ index_field byte_text (IsWithin 0 9)
index_exact = u8_within_exact 0 9

pub digest_exact : IsExact (List ℕ) digest_field digest_text IsDigest
digest_exact = bytes_exact 32

pub checkpoint_exact : IsExact Checkpoint checkpoint_at checkpoint_text IsCheckpoint
unfolding checkpoint_at
checkpoint_exact = exact2 {Z = Checkpoint} (λ a b. record { place = a; digest = b }) checkpoint_text IsCheckpoint view_exact (bytes_exact 32) (λ a b. refl) (λ a b p q. record { place = p.1; digest = q }) (λ z h. (z.place, z.digest, refl, (omega arith, h.place), h.digest))

pub p_row_exact : IsExact PRow p_row_at p_row_text IsPRow
unfolding p_row_at
p_row_exact = exact3 {Z = PRow} (λ a b c. record { place = a; digest = b; view = c }) p_row_text IsPRow number_exact (bytes_exact 32) view_exact (λ a b c. refl) (λ a b c p q r. record { place_from = p.0; place_to = p.1; digest = q; view = r.1 }) (λ z h. (z.place, z.digest, z.view, refl, (h.place_from, h.place_to), h.digest, (omega arith, h.view)))

pub seen_exact : IsExact Seen seen_at seen_text IsSeen
unfolding seen_at
seen_exact = exact2 {Z = Seen} (λ a b. record { digest = a; view = b }) seen_text IsSeen (bytes_exact 32) view_exact (λ a b. refl) (λ a b p q. record { digest = p; view = q.1 }) (λ z h. (z.digest, z.view, refl, h.digest, (omega arith, h.view)))

pub named_exact : IsExact Named named_at named_text IsNamed
unfolding named_at
named_exact = exact2 {Z = Named} (λ a b. record { index = a; digest = b }) named_text IsNamed index_exact (bytes_exact 32) (λ a b. refl) (λ a b p q. record { index = p.1; digest = q }) (λ z h. (z.index, z.digest, refl, (omega arith, h.index), h.digest))

pub q_row_exact : IsExact QRow q_row_at q_row_text IsQRow
unfolding q_row_at
q_row_exact = exact2 {Z = QRow} (λ a b. record { place = a; digests = b }) q_row_text IsQRow number_exact (counted_exact seen_at seen_text IsSeen 1 16 seen_exact) (λ a b. append_assoc (u32_text a) (length b ∷ []) (flat_map seen_text b)) (λ a b p q. record { place_from = p.0; place_to = p.1; some = q.0; few = q.1; digests = q.2 }) (λ z h. (z.place, z.digests, refl, (h.place_from, h.place_to), (h.some, h.few, h.digests)))

abbrev value_sort : ReadingValue → ℕ
value_sort (value.Time ms) = 0
value_sort (value.Share share) = 1

abbrev value_fields : ReadingValue → List ℕ
value_fields (value.Time ms) = u64_text ms
value_fields (value.Share share) = share

abbrev IsValueOf : ℕ → ReadingValue → Type 0
IsValueOf sort v = (value_sort v ≡ sort) × IsReadingValue v

value_spelled : (v : ReadingValue) → reading_value_text v ≡ (value_sort v ∷ []) ++ value_fields v
value_spelled (value.Time ms) = refl
value_spelled (value.Share share) = refl

time_parts : (z : ReadingValue) → IsValueOf 0 z → (a : ℕ) × (value.Time a ≡ z) × (a < 2 ^ 64)
time_parts (value.Time ms) h = (ms, refl, h.1)
time_parts (value.Share share) h = absurd (omega (arith, h.0))

time_exact : IsExact ReadingValue time_at value_fields (IsValueOf 0)
unfolding time_at
time_exact = exact1 {Z = ReadingValue} (λ a. value.Time a) value_fields (IsValueOf 0) u64_exact (λ a. refl) (λ a p. (refl, p)) time_parts

share_parts : (z : ReadingValue) → IsValueOf 1 z → (a : List ℕ) × (value.Share a ≡ z) × (length a ≡ 32)
share_parts (value.Time ms) h = absurd (omega (arith, h.0))
share_parts (value.Share share) h = (share, refl, h.1)

share_exact : IsExact ReadingValue share_at value_fields (IsValueOf 1)
unfolding share_at
share_exact = exact1 {Z = ReadingValue} (λ a. value.Share a) value_fields (IsValueOf 1) (bytes_exact 32) (λ a. refl) (λ a p. (refl, p)) share_parts

one : (sort : ℕ) → sort ≤ 1 → (sort == 0) ≡ false → sort ≡ 1
one sort few h = grind (arith, nat_tests)

value_of_sort : (sort : ℕ) (u v : Unread) (x : ReadingValue) → sort ≤ 1 → IsBytes u.left → (if sort == 0 then time_at u else share_at u) ≡ Ok (x, v) → ReadAs ReadingValue value_fields (IsValueOf sort) u v x
value_of_sort sort u v x few b h = elim (choose (sort == 0) (time_at u) (share_at u) (Ok (x, v)) h) [
  | inl w ↦ let r = time_exact.sound u v x b w.1 in record { in_range = (r.in_range.0 ∙ sym (eqb-true sort 0 w.0), r.in_range.1); spelled = r.spelled; bytes = r.bytes }
  | inr w ↦ let r = share_exact.sound u v x b w.1 in record { in_range = (r.in_range.0 ∙ sym (one sort few w.0), r.in_range.1); spelled = r.spelled; bytes = r.bytes }
]

value_complete : (x : ReadingValue) (rest : List ℕ) (at : ℕ) → IsReadingValue x → (to : ℕ) × ((if value_sort x == 0 then time_at (record { left = value_fields x ++ rest; at = at }) else share_at (record { left = value_fields x ++ rest; at = at })) ≡ Ok (x, record { left = rest; at = to }))
value_complete (value.Time ms) rest at h = time_exact.complete (value.Time ms) rest at (refl, h)
value_complete (value.Share share) rest at h = share_exact.complete (value.Share share) rest at (refl, h)

sort_few : (x : ReadingValue) → value_sort x ≤ 1
sort_few (value.Time ms) = omega arith
sort_few (value.Share share) = omega arith

pub reading_value_exact : IsExact ReadingValue reading_value_at reading_value_text IsReadingValue
unfolding reading_value_at
reading_value_exact = record {
  sound = λ u v x b e.
      let (n, w, r, k) = seq_sound (u8_within 0 1) byte_text (IsWithin 0 1) (u8_within_exact 0 1) u (λ sort. if sort.0 == 0 then time_at sort.1 else share_at sort.1) (x, v) b e in
      let s = value_of_sort n w v x r.in_range.1 r.bytes k in
      record {
        in_range = s.in_range.1;
        spelled = r.spelled ∙ (ap (λ n. (n ∷ []) ++ w.left) (sym s.in_range.0) ∙ (ap (λ (ys : List ℕ). (value_sort x ∷ []) ++ ys) s.spelled ∙ ap (λ (ys : List ℕ). ys ++ v.left) (sym (value_spelled x))));
        bytes = s.bytes;
      };
  complete = λ x rest at l.
      let f : ℕ × Unread → Result (ReadingValue × Unread) FieldFault = λ sort. if sort.0 == 0 then time_at sort.1 else share_at sort.1 in
      let (to, c) = seq_complete (u8_within 0 1) byte_text (IsWithin 0 1) (u8_within_exact 0 1) (value_sort x) (value_fields x ++ rest) at f (omega arith, sort_few x) in
      let (end, d) = value_complete x rest to l in
      let read : List ℕ → Result (ReadingValue × Unread) FieldFault = λ ys. u8_within 0 1 (record { left = ys; at = at }) >>= f in
      (end, ap read (ap (λ (ys : List ℕ). ys ++ rest) (value_spelled x)) ∙ (c ∙ d));
}

pub own_request_exact : IsExact OwnRequestFields own_request_at own_request_text IsOwnRequest
unfolding own_request_at
own_request_exact = exact3 {Z = OwnRequestFields} (λ a b c. record { number = a; low = b; body = c }) own_request_text IsOwnRequest number_exact number_exact body_exact (λ a b c. refl) (λ a b c p q r. record { number_from = p.0; number_to = p.1; low_from = q.0; low_to = q.1; body = r }) (λ z h. (z.number, z.low, z.body, refl, (h.number_from, h.number_to), (h.low_from, h.low_to), h.body))

pub reply_note_exact : IsExact ReplyNoteFields reply_note_at reply_note_text IsReplyNote
unfolding reply_note_at
reply_note_exact = exact3 {Z = ReplyNoteFields} (λ a b c. record { caller = a; number = b; digest = c }) reply_note_text IsReplyNote group_exact number_exact (bytes_exact 32) (λ a b c. refl) (λ a b c p q r. record { caller = p.1; number_from = q.0; number_to = q.1; digest = r }) (λ z h. (z.caller, z.number, z.digest, refl, (omega arith, h.caller), (h.number_from, h.number_to), h.digest))

pub call_name_exact : IsExact CallNameFields call_name_at call_name_text IsCallName
unfolding call_name_at
call_name_exact = exact2 {Z = CallNameFields} (λ a b. record { called = a; number = b }) call_name_text IsCallName group_exact number_exact (λ a b. refl) (λ a b p q. record { called = p.1; number_from = q.0; number_to = q.1 }) (λ z h. (z.called, z.number, refl, (omega arith, h.called), (h.number_from, h.number_to)))

pub own_reading_exact : IsExact OwnReadingFields own_reading_at own_reading_text IsOwnReading
unfolding own_reading_at
own_reading_exact = exact2 {Z = OwnReadingFields} (λ a b. record { ask = a; value = b }) own_reading_text IsOwnReading number_exact reading_value_exact (λ a b. refl) (λ a b p q. record { ask_from = p.0; ask_to = p.1; value = q }) (λ z h. (z.ask, z.value, refl, (h.ask_from, h.ask_to), h.value))

pub proposal_exact : IsExact ProposalFields proposal_at proposal_text IsProposal
unfolding proposal_at
proposal_exact = exact3 {Z = ProposalFields} (λ a b c. record { view = a; place = b; event = c }) proposal_text IsProposal view_exact number_exact event_exact (λ a b c. refl) (λ a b c p q r. record { view = p.1; place_from = q.0; place_to = q.1; event = r }) (λ z h. (z.view, z.place, z.event, refl, (omega arith, h.view), (h.place_from, h.place_to), h.event))

pub place_vote_exact : IsExact PlaceVoteFields place_vote_at place_vote_text IsPlaceVote
unfolding place_vote_at
place_vote_exact = exact3 {Z = PlaceVoteFields} (λ a b c. record { view = a; place = b; digest = c }) place_vote_text IsPlaceVote view_exact number_exact (bytes_exact 32) (λ a b c. refl) (λ a b c p q r. record { view = p.1; place_from = q.0; place_to = q.1; digest = r }) (λ z h. (z.view, z.place, z.digest, refl, (omega arith, h.view), (h.place_from, h.place_to), h.digest))

pub place_digest_exact : IsExact PlaceDigestFields place_digest_at place_digest_text IsPlaceDigest
unfolding place_digest_at
place_digest_exact = exact2 {Z = PlaceDigestFields} (λ a b. record { place = a; digest = b }) place_digest_text IsPlaceDigest number_exact (bytes_exact 32) (λ a b. refl) (λ a b p q. record { place_from = p.0; place_to = p.1; digest = q }) (λ z h. (z.place, z.digest, refl, (h.place_from, h.place_to), h.digest))

pub change_name_exact : IsExact ChangeNameFields change_name_at change_name_text IsChangeName
unfolding change_name_at
change_name_exact = exact3 {Z = ChangeNameFields} (λ a b c. record { view = a; index = b; digest = c }) change_name_text IsChangeName view_exact index_exact (bytes_exact 32) (λ a b c. refl) (λ a b c p q r. record { view = p.1; index = q.1; digest = r }) (λ z h. (z.view, z.index, z.digest, refl, (omega arith, h.view), (omega arith, h.index), h.digest))

pub wanted_place_exact : IsExact WantedPlaceFields wanted_place_at wanted_place_text IsWantedPlace
unfolding wanted_place_at
wanted_place_exact = exact1 {Z = WantedPlaceFields} (λ a. record { place = a }) wanted_place_text IsWantedPlace number_exact (λ a. refl) (λ a p. record { place_from = p.0; place_to = p.1 }) (λ z h. (z.place, refl, (h.place_from, h.place_to)))

pub decided_event_exact : IsExact DecidedEventFields decided_event_at decided_event_text IsDecidedEvent
unfolding decided_event_at
decided_event_exact = exact2 {Z = DecidedEventFields} (λ a b. record { place = a; event = b }) decided_event_text IsDecidedEvent number_exact event_exact (λ a b. refl) (λ a b p q. record { place_from = p.0; place_to = p.1; event = q }) (λ z h. (z.place, z.event, refl, (h.place_from, h.place_to), h.event))

pub view_change_exact : IsExact ViewChange view_change_at view_change_text IsViewChange
unfolding view_change_at
view_change_exact = exact5 {Z = ViewChange} (λ a b c d e. record { view = a; low = b; checkpoints = c; prepared = d; pre_prepared = e }) view_change_text IsViewChange view_exact view_exact (counted_exact checkpoint_at checkpoint_text IsCheckpoint 1 3 checkpoint_exact) (counted_exact p_row_at p_row_text IsPRow 0 32 p_row_exact) (counted_exact q_row_at q_row_text IsQRow 0 32 q_row_exact) (λ a b c d e. refl) (λ a b c d e p q r s t. record { view = p.1; low = q.1; some_checkpoints = r.0; few_checkpoints = r.1; checkpoints = r.2; few_prepared = s.1; prepared = s.2; few_pre_prepared = t.1; pre_prepared = t.2 }) (λ z h. (z.view, z.low, z.checkpoints, z.prepared, z.pre_prepared, refl, (omega arith, h.view), (omega arith, h.low), (h.some_checkpoints, h.few_checkpoints, h.checkpoints), (omega arith, h.few_prepared, h.prepared), (omega arith, h.few_pre_prepared, h.pre_prepared)))

pub new_view_exact : IsExact NewView new_view_at new_view_text IsNewView
unfolding new_view_at
new_view_exact = exact5 {Z = NewView} (λ a b c d e. record { view = a; named = b; choice = record { place = c; digest = d; chosen = e } }) new_view_text IsNewView view_exact (counted_exact named_at named_text IsNamed 1 10 named_exact) view_exact (bytes_exact 32) (counted_exact digest_field digest_text IsDigest 0 32 digest_exact) (λ a b c d e. refl) (λ a b c d e p q r s t. record { view = p.1; some_named = q.0; few_named = q.1; named = q.2; place = r.1; digest = s; few_chosen = t.1; chosen = t.2 }) (λ z h. (z.view, z.named, z.choice.place, z.choice.digest, z.choice.chosen, refl, (omega arith, h.view), (h.some_named, h.few_named, h.named), (omega arith, h.place), h.digest, (omega arith, h.few_chosen, h.chosen)))
