-- Contents, read and spelled.
use Rattle.std.proofs.Common.{◌≡◌, ◌⊎◌, inl, inr, ℕ, ◌+◌, ◌<◌, ◌≤◌, ◌^◌, ◌==◌, Bool, true, false, if◌then◌else◌, List, [], ◌∷◌, ◌++◌, length, Option, Some, None, Result, Ok, Err, refl, sym, ◌∙◌, ap, subst, arith, append_assoc}
use Rattle.std.proofs.lemmas.Bool.{eqb-true, eq-eqb}
use Rattle.std.proofs.lemmas.List.{nil_from_length, append-nil}
use Rattle.pws_base.specs.declared.fields.FieldFault.{FieldFault}
use Rattle.pws_base.specs.declared.fields.FaultKind.TheVariants.{Rest}
use Rattle.pws_base.specs.declared.fields.FaultKind.TheVariants as fault
use Rattle.pws_base.specs.Fields.{Unread, ◌>>=◌, u8_field, digest_field, ended}
use Rattle.pws_event.specs.EventFields.{event_at}
use Rattle.pws_event.specs.Events.{event_text, IsEvent}
use Rattle.pws_msg.specs.Bytes.{IsBytes}
use Rattle.pws_msg.specs.Rows.{IsDigest, digest_text}
use Rattle.pws_msg.specs.Reported.{IsViewChange, IsNewView}
use Rattle.pws_msg.specs.Statements.{IsCallName, IsChangeName, IsDecidedEvent, IsOwnReading, IsOwnRequest, IsPlaceDigest, IsPlaceVote, IsProposal, IsReplyNote, IsWantedPlace}
use Rattle.pws_msg.specs.StatementTexts.{view_change_text, new_view_text, call_name_text, change_name_text, decided_event_text, own_reading_text, own_request_text, place_digest_text, place_vote_text, proposal_text, reply_note_text, wanted_place_text}
use Rattle.pws_msg.specs.StatementFields.{view_change_at, new_view_at, call_name_at, change_name_at, decided_event_at, own_reading_at, own_request_at, place_digest_at, place_vote_at, proposal_at, reply_note_at, wanted_place_at}
use Rattle.pws_msg.specs.Contents.{IsContent, kind_of, fields_text, content_text}
use Rattle.pws_msg.specs.Kinds.{kind_byte, kind_with}
use Rattle.pws_msg.specs.declared.kinds.Kind.{Kind}
use Rattle.pws_msg.specs.declared.kinds.Kind.TheVariants as kind
use Rattle.pws_msg.specs.ContentFields.{said, fields_at, unknown_kind, known_kind, kind_field, content_of, wanted_at, content_of_kind}
use Rattle.pws_msg.specs.Laws.{ContentsDiffer}
use Rattle.pws_msg.specs.declared.contents.Content.{Content}
use Rattle.pws_msg.specs.declared.contents.Content.TheVariants as content
use Rattle.pws_msg.proofs.Ranges.{bind_ok, test_passed}
use Rattle.pws_msg.proofs.Exact.{ReadAs, IsExact, seq_sound, seq_complete, finish, same_answer}
use Rattle.pws_msg.proofs.FieldsExact.{byte_text, u8_exact}
use Rattle.pws_msg.proofs.EventsExact.{choose, event_exact}
use Rattle.pws_msg.proofs.StatementsExact.{digest_exact, view_change_exact, new_view_exact, call_name_exact, change_name_exact, decided_event_exact, own_reading_exact, own_request_exact, place_digest_exact, place_vote_exact, proposal_exact, reply_note_exact, wanted_place_exact}

abbrev pub IsContentOf : Kind → Content → Type 0
IsContentOf k c = (kind_of c ≡ k) × IsContent c

-- a content that was made of its fields
said_sound : {A : Type 0} (make : A → Content) (at : Unread → Result (A × Unread) FieldFault) (text : A → List ℕ) (lawful : A → Type 0) (k : Kind) → IsExact A at text lawful → ((x : A) → kind_of (make x) ≡ k) → ((x : A) → fields_text (make x) ≡ text x) → ((x : A) → lawful x → IsContent (make x)) → (u v : Unread) (c : Content) → IsBytes u.left → said make (at u) ≡ Ok (c, v) → ReadAs Content fields_text (IsContentOf k) u v c
said_sound {A = A} make at text lawful k h kinds texts keeps u v c b e =
    let (x, w, r, g) = seq_sound at text lawful h u (λ fields. Ok (make fields.0, fields.1)) (c, v) b e in
    finish fields_text (IsContentOf k) u w v (make x) c g (kinds x, keeps x r.in_range) (r.spelled ∙ ap (λ (ys : List ℕ). ys ++ w.left) (sym (texts x))) r.bytes

said_complete : {A : Type 0} (make : A → Content) (at : Unread → Result (A × Unread) FieldFault) (text : A → List ℕ) (lawful : A → Type 0) → IsExact A at text lawful → (x : A) (rest : List ℕ) (place : ℕ) → lawful x → (to : ℕ) × (said make (at (record { left = text x ++ rest; at = place })) ≡ Ok (make x, record { left = rest; at = to }))
said_complete make at text lawful h x rest place l = seq_complete at text lawful h x rest place (λ fields. Ok (make fields.0, fields.1)) l

refused_not : (f : FieldFault) (x : Content × Unread) → ◌≡◌ {A = Result (Content × Unread) FieldFault} (Err f) (Ok x) → ⊥
refused_not f x h = cc

-- what the fields of a kind gave
pub fields_sound : (k : Kind) (u v : Unread) (c : Content) → IsBytes u.left → fields_at k u ≡ Ok (c, v) → ReadAs Content fields_text (IsContentOf k) u v c
unfolding fields_at
fields_sound kind.Request u v c b h = said_sound content.Request own_request_at own_request_text IsOwnRequest kind.Request own_request_exact (λ x. refl) (λ x. refl) (λ x l. l) u v c b h
fields_sound kind.Reply u v c b h = said_sound content.Reply reply_note_at reply_note_text IsReplyNote kind.Reply reply_note_exact (λ x. refl) (λ x. refl) (λ x l. l) u v c b h
fields_sound kind.Part u v c b h = said_sound content.Part reply_note_at reply_note_text IsReplyNote kind.Part reply_note_exact (λ x. refl) (λ x. refl) (λ x l. l) u v c b h
fields_sound kind.Expired u v c b h = said_sound content.Expired call_name_at call_name_text IsCallName kind.Expired call_name_exact (λ x. refl) (λ x. refl) (λ x l. l) u v c b h
fields_sound kind.Reading u v c b h = said_sound content.Reading own_reading_at own_reading_text IsOwnReading kind.Reading own_reading_exact (λ x. refl) (λ x. refl) (λ x l. l) u v c b h
fields_sound kind.PrePrepare u v c b h = said_sound content.PrePrepare proposal_at proposal_text IsProposal kind.PrePrepare proposal_exact (λ x. refl) (λ x. refl) (λ x l. l) u v c b h
fields_sound kind.Prepare u v c b h = said_sound content.Prepare place_vote_at place_vote_text IsPlaceVote kind.Prepare place_vote_exact (λ x. refl) (λ x. refl) (λ x l. l) u v c b h
fields_sound kind.Commit u v c b h = said_sound content.Commit place_vote_at place_vote_text IsPlaceVote kind.Commit place_vote_exact (λ x. refl) (λ x. refl) (λ x l. l) u v c b h
fields_sound kind.Checkpoint u v c b h = said_sound content.Checkpoint place_digest_at place_digest_text IsPlaceDigest kind.Checkpoint place_digest_exact (λ x. refl) (λ x. refl) (λ x l. l) u v c b h
fields_sound kind.ViewChange u v c b h = said_sound content.ViewChange view_change_at view_change_text IsViewChange kind.ViewChange view_change_exact (λ x. refl) (λ x. refl) (λ x l. l) u v c b h
fields_sound kind.Ack u v c b h = said_sound content.Ack change_name_at change_name_text IsChangeName kind.Ack change_name_exact (λ x. refl) (λ x. refl) (λ x l. l) u v c b h
fields_sound kind.NewView u v c b h = said_sound content.NewView new_view_at new_view_text IsNewView kind.NewView new_view_exact (λ x. refl) (λ x. refl) (λ x l. l) u v c b h
fields_sound kind.Relay u v c b h = said_sound content.Relay change_name_at change_name_text IsChangeName kind.Relay change_name_exact (λ x. refl) (λ x. refl) (λ x l. l) u v c b h
fields_sound kind.Fetch u v c b h = said_sound content.Fetch wanted_place_at wanted_place_text IsWantedPlace kind.Fetch wanted_place_exact (λ x. refl) (λ x. refl) (λ x l. l) u v c b h
fields_sound kind.Done u v c b h = said_sound content.Done decided_event_at decided_event_text IsDecidedEvent kind.Done decided_event_exact (λ x. refl) (λ x. refl) (λ x l. l) u v c b h
fields_sound kind.Need u v c b h = said_sound content.Need digest_field digest_text IsDigest kind.Need digest_exact (λ x. refl) (λ x. refl) (λ x l. l) u v c b h
fields_sound kind.Give u v c b h = said_sound content.Give event_at event_text IsEvent kind.Give event_exact (λ x. refl) (λ x. refl) (λ x l. l) u v c b h

pub fields_complete : (c : Content) (rest : List ℕ) (at : ℕ) → IsContent c → (to : ℕ) × (fields_at (kind_of c) (record { left = fields_text c ++ rest; at = at }) ≡ Ok (c, record { left = rest; at = to }))
unfolding fields_at
fields_complete (content.Request x) rest at h = said_complete content.Request own_request_at own_request_text IsOwnRequest own_request_exact x rest at h
fields_complete (content.Reply x) rest at h = said_complete content.Reply reply_note_at reply_note_text IsReplyNote reply_note_exact x rest at h
fields_complete (content.Part x) rest at h = said_complete content.Part reply_note_at reply_note_text IsReplyNote reply_note_exact x rest at h
fields_complete (content.Expired x) rest at h = said_complete content.Expired call_name_at call_name_text IsCallName call_name_exact x rest at h
fields_complete (content.Reading x) rest at h = said_complete content.Reading own_reading_at own_reading_text IsOwnReading own_reading_exact x rest at h
fields_complete (content.PrePrepare x) rest at h = said_complete content.PrePrepare proposal_at proposal_text IsProposal proposal_exact x rest at h
fields_complete (content.Prepare x) rest at h = said_complete content.Prepare place_vote_at place_vote_text IsPlaceVote place_vote_exact x rest at h
fields_complete (content.Commit x) rest at h = said_complete content.Commit place_vote_at place_vote_text IsPlaceVote place_vote_exact x rest at h
fields_complete (content.Checkpoint x) rest at h = said_complete content.Checkpoint place_digest_at place_digest_text IsPlaceDigest place_digest_exact x rest at h
fields_complete (content.ViewChange x) rest at h = said_complete content.ViewChange view_change_at view_change_text IsViewChange view_change_exact x rest at h
fields_complete (content.Ack x) rest at h = said_complete content.Ack change_name_at change_name_text IsChangeName change_name_exact x rest at h
fields_complete (content.NewView x) rest at h = said_complete content.NewView new_view_at new_view_text IsNewView new_view_exact x rest at h
fields_complete (content.Relay x) rest at h = said_complete content.Relay change_name_at change_name_text IsChangeName change_name_exact x rest at h
fields_complete (content.Fetch x) rest at h = said_complete content.Fetch wanted_place_at wanted_place_text IsWantedPlace wanted_place_exact x rest at h
fields_complete (content.Done x) rest at h = said_complete content.Done decided_event_at decided_event_text IsDecidedEvent decided_event_exact x rest at h
fields_complete (content.Need x) rest at h = said_complete content.Need digest_field digest_text IsDigest digest_exact x rest at h
fields_complete (content.Give x) rest at h = said_complete content.Give event_at event_text IsEvent event_exact x rest at h

-- the byte of a kind
abbrev kind_text : Kind → List ℕ
kind_text k = byte_text (kind_byte k)

one_kind : (j k : Kind) → ◌≡◌ {A = Option Kind} (Some j) (Some k) → j ≡ k
one_kind j k h = cc

none_not : (k : Kind) → ◌≡◌ {A = Option Kind} None (Some k) → ⊥
none_not k h = cc

-- a choice by the byte, which is that of the kind where the first is chosen
known_by : (b n : ℕ) (j k : Kind) (other : Option Kind) → kind_byte j ≡ n → (other ≡ Some k → b ≡ kind_byte k) → (if b == n then Some j else other) ≡ Some k → b ≡ kind_byte k
known_by b n j k other same more e = elim (choose (b == n) (Some j) other (Some k) e) [
  | inl w ↦ eqb-true b n w.0 ∙ (sym same ∙ ap kind_byte (one_kind j k w.1))
  | inr w ↦ more w.1
]

-- a byte that has a kind is its byte
kind_is : (b : ℕ) (k : Kind) → kind_with b ≡ Some k → b ≡ kind_byte k
unfolding kind_with
kind_is b k e =
    known_by b 1 kind.Request k _ refl (λ e1. known_by b 2 kind.Reply k _ refl (λ e2. known_by b 3 kind.Part k _ refl (λ e3. known_by b 4 kind.Expired k _ refl (λ e4. known_by b 5 kind.Reading k _ refl (λ e5. known_by b 6 kind.PrePrepare k _ refl (λ e6. known_by b 7 kind.Prepare k _ refl (λ e7. known_by b 8 kind.Commit k _ refl (λ e8. known_by b 9 kind.Checkpoint k _ refl (λ e9. known_by b 10 kind.ViewChange k _ refl (λ e10. known_by b 11 kind.Ack k _ refl (λ e11. known_by b 12 kind.NewView k _ refl (λ e12. known_by b 13 kind.Relay k _ refl (λ e13. known_by b 14 kind.Fetch k _ refl (λ e14. known_by b 15 kind.Done k _ refl (λ e15. known_by b 16 kind.Need k _ refl (λ e16. known_by b 17 kind.Give k _ refl (λ e17. absurd (none_not k e17)) e16) e15) e14) e13) e12) e11) e10) e9) e8) e7) e6) e5) e4) e3) e2) e1) e

kind_back : (k : Kind) → kind_with (kind_byte k) ≡ Some k
unfolding kind_with
kind_back kind.Request = refl
kind_back kind.Reply = refl
kind_back kind.Part = refl
kind_back kind.Expired = refl
kind_back kind.Reading = refl
kind_back kind.PrePrepare = refl
kind_back kind.Prepare = refl
kind_back kind.Commit = refl
kind_back kind.Checkpoint = refl
kind_back kind.ViewChange = refl
kind_back kind.Ack = refl
kind_back kind.NewView = refl
kind_back kind.Relay = refl
kind_back kind.Fetch = refl
kind_back kind.Done = refl
kind_back kind.Need = refl
kind_back kind.Give = refl

known_sound : (o : Option Kind) (u w v : Unread) (k : Kind) → known_kind o u w ≡ Ok (k, v) → (o ≡ Some k) × (w ≡ v)
known_sound (Some j) u w v k e = let s = same_answer (j, w) (k, v) e in (ap (λ (x : Kind × Unread). Some x.0) s, ap (λ (x : Kind × Unread). x.1) s)
known_sound None u w v k e = absurd (cc)

pub kind_exact : IsExact Kind kind_field kind_text (λ k. Unit {0})
unfolding kind_field
kind_exact = record {
  sound = λ u v k b e.
      let (n, w, r, g) = seq_sound u8_field byte_text (λ n. Unit {0}) u8_exact u (λ byte. known_kind (kind_with byte.0) u byte.1) (k, v) b e in
      let s = known_sound (kind_with n) u w v k g in
      let P : Unread → Type 0 = λ v. ReadAs Kind kind_text (λ k. Unit {0}) u v k in
      subst P s.1 (record { in_range = tt; spelled = r.spelled ∙ ap (λ n. byte_text n ++ w.left) (kind_is n k s.0); bytes = r.bytes });
  complete = λ k rest at l.
      let u : Unread = record { left = kind_text k ++ rest; at = at } in
      let (to, d) = seq_complete u8_field byte_text (λ n. Unit {0}) u8_exact (kind_byte k) rest at (λ byte. known_kind (kind_with byte.0) u byte.1) tt in
      let on : Option Kind → Result (Kind × Unread) FieldFault = λ o. known_kind o u (record { left = rest; at = to }) in
      (to, d ∙ ap on (kind_back k));
}

-- the end of a content
ended_ok : (x : Content × Unread) (c : Content) → ended x ≡ Ok c → (x.1.left ≡ []) × (x.0 ≡ c)
ended_ok x c e =
    let t = test_passed (length x.1.left == 0) x.0 c (record { kind = Rest; at = x.1.at }) e in
    (nil_from_length x.1.left (eqb-true (length x.1.left) 0 t.0), t.1)

-- what was read of a kind and its fields, to the end
whole_sound : (k : Kind) (u w : Unread) (c : Content) → IsBytes w.left → u.left ≡ kind_text k ++ w.left → (fields_at k w >>= ended) ≡ Ok c → IsContentOf k c × (u.left ≡ content_text c)
whole_sound k u w c b s e =
    let (x, f, g) = bind_ok (fields_at k w) ended c e in
    let r = fields_sound k w x.1 x.0 b f in
    let d = ended_ok x c g in
    let whole : w.left ≡ fields_text x.0 = r.spelled ∙ (ap (λ (ys : List ℕ). fields_text x.0 ++ ys) d.0 ∙ append-nil (fields_text x.0)) in
    let text : u.left ≡ content_text x.0 = s ∙ (ap (λ (ys : List ℕ). kind_text k ++ ys) whole ∙ ap (λ k. kind_text k ++ fields_text x.0) (sym r.in_range.0)) in
    let P : Content → Type 0 = λ c. IsContentOf k c × (u.left ≡ content_text c) in
    subst P d.1 (r.in_range, text)

-- a content that was read is in range, and the bytes spell it
pub content_sound : (u : Unread) (c : Content) → IsBytes u.left → content_of u ≡ Ok c → IsContent c × (u.left ≡ content_text c)
unfolding content_of
content_sound u c b e =
    let (k, w, r, g) = seq_sound kind_field kind_text (λ k. Unit {0}) kind_exact u (λ k. fields_at k.0 k.1 >>= ended) c b e in
    let s = whole_sound k u w c r.bytes r.spelled g in
    (s.0.1, s.1)

pub kind_sound : (wanted : Kind) (u : Unread) (c : Content) → IsBytes u.left → content_of_kind wanted u ≡ Ok c → IsContentOf wanted c × (u.left ≡ content_text c)
unfolding content_of_kind wanted_at
kind_sound wanted u c b e =
    let (x, f, g) = bind_ok (wanted_at wanted u) ended c e in
    let (n, w, r, k) = seq_sound u8_field byte_text (λ n. Unit {0}) u8_exact u (λ byte. if byte.0 == kind_byte wanted then fields_at wanted byte.1 else Err (unknown_kind u)) x b f in
    elim (choose (n == kind_byte wanted) (fields_at wanted w) (Err (unknown_kind u)) (Ok x) k) [
      | inl y ↦
          let both : (fields_at wanted w >>= ended) ≡ Ok c = ap (λ (r : Result (Content × Unread) FieldFault). r >>= ended) y.1 ∙ g in
          whole_sound wanted u w c r.bytes (r.spelled ∙ ap (λ n. byte_text n ++ w.left) (eqb-true n (kind_byte wanted) y.0)) both
      | inr y ↦ absurd (refused_not (unknown_kind u) x y.1)
    ]

whole_complete : (c : Content) (at : ℕ) → IsContent c → (fields_at (kind_of c) (record { left = fields_text c; at = at }) >>= ended) ≡ Ok c
whole_complete c at h =
    let (to, d) = fields_complete c [] at h in
    let read : List ℕ → Result Content FieldFault = λ ys. fields_at (kind_of c) (record { left = ys; at = at }) >>= ended in
    ap read (sym (append-nil (fields_text c))) ∙ ap (λ (r : Result (Content × Unread) FieldFault). r >>= ended) d

-- a content that is in range is what reading its bytes gives
pub content_complete : (c : Content) (at : ℕ) → IsContent c → content_of (record { left = content_text c; at = at }) ≡ Ok c
unfolding content_of
content_complete c at h =
    let f : Kind × Unread → Result Content FieldFault = λ k. fields_at k.0 k.1 >>= ended in
    let (to, d) = seq_complete kind_field kind_text (λ k. Unit {0}) kind_exact (kind_of c) (fields_text c) at f tt in
    d ∙ whole_complete c to h

pub kind_complete : (wanted : Kind) (c : Content) (at : ℕ) → IsContentOf wanted c → content_of_kind wanted (record { left = content_text c; at = at }) ≡ Ok c
unfolding content_of_kind wanted_at
kind_complete wanted c at h =
    let unknown : FieldFault = record { kind = fault.Kind; at = at } in
    let f : ℕ × Unread → Result (Content × Unread) FieldFault = λ byte. if byte.0 == kind_byte wanted then fields_at wanted byte.1 else Err unknown in
    let (to, d) = seq_complete u8_field byte_text (λ n. Unit {0}) u8_exact (kind_byte (kind_of c)) (fields_text c) at f tt in
    let tested : Bool → Result (Content × Unread) FieldFault = λ b. if b then fields_at wanted (record { left = fields_text c; at = to }) else Err unknown in
    let on : Result (Content × Unread) FieldFault → Result Content FieldFault = λ r. r >>= ended in
    let read : Kind → Result Content FieldFault = λ k. fields_at k (record { left = fields_text c; at = to }) >>= ended in
    ap on d ∙ (ap (λ b. on (tested b)) (eq-eqb (kind_byte (kind_of c)) (kind_byte wanted) (ap kind_byte h.0)) ∙ (ap read (sym h.0) ∙ whole_complete c to h.1))

content_same : (c d : Content) → ◌≡◌ {A = Result Content FieldFault} (Ok c) (Ok d) → c ≡ d
content_same c d h = cc

pub contents_differ : ContentsDiffer
contents_differ c d h k e =
    let read : List ℕ → Result Content FieldFault = λ ys. content_of (record { left = ys; at = 0 }) in
    content_same c d (sym (content_complete c 0 h) ∙ (ap read e ∙ content_complete d 0 k))
