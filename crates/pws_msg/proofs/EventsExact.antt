-- Events, read and spelled.
use Rattle.std.proofs.Common.{◌≡◌, ◌⊎◌, inl, inr, ℕ, ◌+◌, ◌<◌, ◌≤◌, ◌^◌, ◌==◌, Bool, true, false, if◌then◌else◌, List, [], ◌∷◌, ◌++◌, length, map, Result, Ok, Err, refl, sym, ◌∙◌, ap, subst, arith, append_assoc, All}
use Rattle.std.specs.List.{flat_map}
use Rattle.std.proofs.lemmas.Bool.{eqb-true}
use Rattle.pws_base.specs.Texts.{u32_text, u64_text, sized_text}
use Rattle.pws_base.specs.declared.fields.FieldFault.{FieldFault}
use Rattle.pws_base.specs.declared.fields.FaultKind.TheVariants.{Range, Kind}
use Rattle.pws_base.specs.Fields.{Unread, ◌>>=◌, u8_field, u8_within, u32_within, u64_field, bytes_field, sized_field, group_field, number_field, body_field, digest_field}
use Rattle.pws_event.specs.declared.events.Event.{Event}
use Rattle.pws_event.specs.declared.events.Event.TheVariants as event
use Rattle.pws_event.specs.declared.readings.Reading.{Reading}
use Rattle.pws_event.specs.declared.readings.Share.{Share}
use Rattle.pws_event.specs.Requests.{RequestFields, IsRequest}
use Rattle.pws_event.specs.Answers.{ReplyFields, AbortFields, IsReply, IsAbort}
use Rattle.pws_event.specs.Readings.{ClockFields, RandomFields, IsClock, IsRandom, RiseFrom, is_count}
use Rattle.pws_event.specs.Events.{event_text, reading_text, share_text, IsEvent}
use Rattle.pws_event.specs.EventFields.{request_at, reply_at, abort_at, count_field, reading_at, share_at, rising_at, readings_at, shares_at, clock_at, random_at, kind_at, event_at}
use Rattle.pws_msg.specs.Bytes.{IsBytes}
use Rattle.pws_msg.proofs.Exact.{ReadAs, IsExact, seq_sound, seq_complete, finish, exact2, exact3, exact4, assoc3}
use Rattle.pws_msg.proofs.FieldsExact.{byte_text, u8_exact, u8_within_exact, u32_within_exact, u64_exact, bytes_exact, sized_exact, where_exact}
use Rattle.pws_msg.proofs.RowsExact.{AreRising, IsAbove, rising_exact}

-- a choice by a test that gave this
pub choose : {A : Type 0} (b : Bool) (x y z : A) → (if b then x else y) ≡ z → ((b ≡ true) × (x ≡ z)) ⊎ ((b ≡ false) × (y ≡ z))
choose true x y z e = inl (refl, e)
choose false x y z e = inr (refl, e)

abbrev pub event_kind : Event → ℕ
event_kind event.Null = 0
event_kind (event.Request r) = 1
event_kind (event.Reply r) = 2
event_kind (event.Abort a) = 3
event_kind (event.Clock c) = 4
event_kind (event.Random r) = 5

-- what stands behind the kind
abbrev pub event_fields : Event → List ℕ
event_fields event.Null = []
event_fields (event.Request r) = (r.caller ∷ []) ++ u32_text r.number ++ u32_text r.low ++ sized_text r.body
event_fields (event.Reply r) = (r.called ∷ []) ++ u32_text r.number ++ sized_text r.body
event_fields (event.Abort a) = (a.called ∷ []) ++ u32_text a.number
event_fields (event.Clock c) = u32_text c.ask ++ (length c.readings ∷ []) ++ flat_map reading_text c.readings
event_fields (event.Random r) = u32_text r.ask ++ (length r.shares ∷ []) ++ flat_map share_text r.shares

pub event_spelled : (e : Event) → event_text e ≡ (event_kind e ∷ []) ++ event_fields e
event_spelled event.Null = refl
event_spelled (event.Request r) = refl
event_spelled (event.Reply r) = refl
event_spelled (event.Abort a) = refl
event_spelled (event.Clock c) = refl
event_spelled (event.Random r) = refl

abbrev pub IsEventOf : ℕ → Event → Type 0
IsEventOf kind e = (event_kind e ≡ kind) × IsEvent e

abbrev pub IsWithin : ℕ → ℕ → ℕ → Type 0
IsWithin low high n = (low ≤ n) × (n ≤ high)

pub group_exact : IsExact ℕ group_field byte_text (IsWithin 0 15)
group_exact = u8_within_exact 0 15

pub number_exact : IsExact ℕ number_field u32_text (IsWithin 1 1000000)
number_exact = u32_within_exact 1 1000000 (omega arith)

pub body_exact : IsExact (List ℕ) body_field sized_text (λ xs. length xs ≤ 32768)
body_exact = sized_exact 32768 (omega arith)

request_parts : (z : Event) → IsEventOf 1 z → (a : ℕ) × (b : ℕ) × (c : ℕ) × (d : List ℕ) × (event.Request (record { caller = a; number = b; low = c; body = d }) ≡ z) × IsWithin 0 15 a × IsWithin 1 1000000 b × IsWithin 1 1000000 c × (length d ≤ 32768)
request_parts (event.Request r) h = (r.caller, r.number, r.low, r.body, refl, (omega arith, omega (arith, h.1.caller)), (h.1.number_from, h.1.number_to), (h.1.low_from, h.1.low_to), h.1.body)
request_parts event.Null h = absurd (omega (arith, h.0))
request_parts (event.Reply r) h = absurd (omega (arith, h.0))
request_parts (event.Abort a) h = absurd (omega (arith, h.0))
request_parts (event.Clock c) h = absurd (omega (arith, h.0))
request_parts (event.Random r) h = absurd (omega (arith, h.0))

request_exact : IsExact Event request_at event_fields (IsEventOf 1)
unfolding request_at
request_exact = exact4 (λ a b c d. event.Request (record { caller = a; number = b; low = c; body = d })) event_fields (IsEventOf 1) group_exact number_exact number_exact body_exact (λ a b c d. refl) (λ a b c d p q r s. (refl, record { caller = omega (arith, p); number_from = q.0; number_to = q.1; low_from = r.0; low_to = r.1; body = s })) request_parts

reply_parts : (z : Event) → IsEventOf 2 z → (a : ℕ) × (b : ℕ) × (c : List ℕ) × (event.Reply (record { called = a; number = b; body = c }) ≡ z) × IsWithin 0 15 a × IsWithin 1 1000000 b × (length c ≤ 32768)
reply_parts (event.Reply r) h = (r.called, r.number, r.body, refl, (omega arith, omega (arith, h.1.called)), (h.1.number_from, h.1.number_to), h.1.body)
reply_parts event.Null h = absurd (omega (arith, h.0))
reply_parts (event.Request r) h = absurd (omega (arith, h.0))
reply_parts (event.Abort a) h = absurd (omega (arith, h.0))
reply_parts (event.Clock c) h = absurd (omega (arith, h.0))
reply_parts (event.Random r) h = absurd (omega (arith, h.0))

reply_exact : IsExact Event reply_at event_fields (IsEventOf 2)
unfolding reply_at
reply_exact = exact3 (λ a b c. event.Reply (record { called = a; number = b; body = c })) event_fields (IsEventOf 2) group_exact number_exact body_exact (λ a b c. refl) (λ a b c p q r. (refl, record { called = omega (arith, p); number_from = q.0; number_to = q.1; body = r })) reply_parts

abort_parts : (z : Event) → IsEventOf 3 z → (a : ℕ) × (b : ℕ) × (event.Abort (record { called = a; number = b }) ≡ z) × IsWithin 0 15 a × IsWithin 1 1000000 b
abort_parts (event.Abort r) h = (r.called, r.number, refl, (omega arith, omega (arith, h.1.called)), (h.1.number_from, h.1.number_to))
abort_parts event.Null h = absurd (omega (arith, h.0))
abort_parts (event.Request r) h = absurd (omega (arith, h.0))
abort_parts (event.Reply r) h = absurd (omega (arith, h.0))
abort_parts (event.Clock c) h = absurd (omega (arith, h.0))
abort_parts (event.Random r) h = absurd (omega (arith, h.0))

abort_exact : IsExact Event abort_at event_fields (IsEventOf 3)
unfolding abort_at
abort_exact = exact2 (λ a b. event.Abort (record { called = a; number = b })) event_fields (IsEventOf 3) group_exact number_exact (λ a b. refl) (λ a b p q. (refl, record { called = omega (arith, p); number_from = q.0; number_to = q.1 })) abort_parts

reading_exact : (least : ℕ) → IsExact Reading (reading_at least) reading_text (IsAbove (λ r. r.index) (λ r. r.ms < 2 ^ 64) least)
unfolding reading_at
reading_exact least = exact2 {Z = Reading} (λ a b. record { index = a; ms = b }) reading_text (IsAbove (λ r. r.index) (λ r. r.ms < 2 ^ 64) least) (u8_within_exact least 9) u64_exact (λ a b. refl) (λ a b p q. (p.0, p.1, q)) (λ z h. (z.index, z.ms, refl, (h.0, h.1), h.2))

share_exact : (least : ℕ) → IsExact Share (share_at least) share_text (IsAbove (λ s. s.index) (λ s. length s.bytes ≡ 32) least)
unfolding share_at
share_exact least = exact2 {Z = Share} (λ a b. record { index = a; bytes = b }) share_text (IsAbove (λ s. s.index) (λ s. length s.bytes ≡ 32) least) (u8_within_exact least 9) (bytes_exact 32) (λ a b. refl) (λ a b p q. (p.0, p.1, q)) (λ z h. (z.index, z.bytes, refl, (h.0, h.1), h.2))

abbrev IsCount : ℕ → Type 0
IsCount n = Unit {0} × (is_count n ≡ true)

count_exact : IsExact ℕ count_field byte_text IsCount
count_exact = where_exact is_count Range u8_exact

clock_complete : (z : Event) (rest : List ℕ) (at : ℕ) → IsEventOf 4 z → (to : ℕ) × (clock_at (record { left = event_fields z ++ rest; at = at }) ≡ Ok (z, record { left = rest; at = to }))
unfolding clock_at
clock_complete event.Null rest at h = absurd (omega (arith, h.0))
clock_complete (event.Request r) rest at h = absurd (omega (arith, h.0))
clock_complete (event.Reply r) rest at h = absurd (omega (arith, h.0))
clock_complete (event.Abort a) rest at h = absurd (omega (arith, h.0))
clock_complete (event.Clock c) rest at h =
    let read : List ℕ → Result (Event × Unread) FieldFault = λ xs. number_field (record { left = xs; at = at }) >>= (λ ask. count_field ask.1 >>= (λ count. rising_at reading_at (λ r. r.index) count.0 0 count.1 >>= (λ items. Ok (event.Clock (record { ask = ask.0; readings = items.0 }), items.1)))) in
    let (at1, c1) = seq_complete number_field u32_text (IsWithin 1 1000000) number_exact c.ask ((length c.readings ∷ []) ++ (flat_map reading_text c.readings ++ rest)) at (λ ask. count_field ask.1 >>= (λ count. rising_at reading_at (λ r. r.index) count.0 0 count.1 >>= (λ items. Ok (event.Clock (record { ask = ask.0; readings = items.0 }), items.1)))) (h.1.ask_from, h.1.ask_to) in
    let (at2, c2) = seq_complete count_field byte_text IsCount count_exact (length c.readings) (flat_map reading_text c.readings ++ rest) at1 (λ count. rising_at reading_at (λ r. r.index) count.0 0 count.1 >>= (λ items. Ok (event.Clock (record { ask = c.ask; readings = items.0 }), items.1))) (tt, h.1.count) in
    let (at3, c3) = seq_complete (rising_at reading_at (λ r. r.index) (length c.readings) 0) (flat_map reading_text) (AreRising (λ r. r.index) (λ r. r.ms < 2 ^ 64) (length c.readings) 0) (rising_exact reading_at (λ r. r.index) reading_text (λ r. r.ms < 2 ^ 64) reading_exact (length c.readings)) c.readings rest at2 (λ items. Ok (event.Clock (record { ask = c.ask; readings = items.0 }), items.1)) (refl, h.1.indices, h.1.times) in
    (at3, ap read (assoc3 (u32_text c.ask) (length c.readings ∷ []) (flat_map reading_text c.readings) rest) ∙ (c1 ∙ (c2 ∙ c3)))
clock_complete (event.Random r) rest at h = absurd (omega (arith, h.0))

clock_exact : IsExact Event clock_at event_fields (IsEventOf 4)
unfolding clock_at
clock_exact = record {
  sound = λ u v z b h0.
      let (a, u1, r1, h1) = seq_sound number_field u32_text (IsWithin 1 1000000) number_exact u (λ ask. count_field ask.1 >>= (λ count. rising_at reading_at (λ r. r.index) count.0 0 count.1 >>= (λ items. Ok (event.Clock (record { ask = ask.0; readings = items.0 }), items.1)))) (z, v) b h0 in
      let (n, u2, r2, h2) = seq_sound count_field byte_text IsCount count_exact u1 (λ count. rising_at reading_at (λ r. r.index) count.0 0 count.1 >>= (λ items. Ok (event.Clock (record { ask = a; readings = items.0 }), items.1))) (z, v) r1.bytes h1 in
      let (xs, u3, r3, h3) = seq_sound (rising_at reading_at (λ r. r.index) n 0) (flat_map reading_text) (AreRising (λ r. r.index) (λ r. r.ms < 2 ^ 64) n 0) (rising_exact reading_at (λ r. r.index) reading_text (λ r. r.ms < 2 ^ 64) reading_exact n) u2 (λ items. Ok (event.Clock (record { ask = a; readings = items.0 }), items.1)) (z, v) r2.bytes h2 in
      let count : is_count (length xs) ≡ true = ap is_count r3.in_range.0 ∙ r2.in_range.1 in
      let nested : u.left ≡ u32_text a ++ ((length xs ∷ []) ++ (flat_map reading_text xs ++ u3.left)) = r1.spelled ∙ ap (λ (ys : List ℕ). u32_text a ++ ys) (r2.spelled ∙ (ap (λ m. (m ∷ []) ++ u2.left) (sym r3.in_range.0) ∙ ap (λ (ys : List ℕ). (length xs ∷ []) ++ ys) r3.spelled)) in
      finish event_fields (IsEventOf 4) u u3 v (event.Clock (record { ask = a; readings = xs })) z h3 (refl, record { ask_from = r1.in_range.0; ask_to = r1.in_range.1; count = count; indices = r3.in_range.1; times = r3.in_range.2 }) (nested ∙ sym (assoc3 (u32_text a) (length xs ∷ []) (flat_map reading_text xs) u3.left)) r3.bytes;
  complete = clock_complete;
}

random_complete : (z : Event) (rest : List ℕ) (at : ℕ) → IsEventOf 5 z → (to : ℕ) × (random_at (record { left = event_fields z ++ rest; at = at }) ≡ Ok (z, record { left = rest; at = to }))
unfolding random_at
random_complete event.Null rest at h = absurd (omega (arith, h.0))
random_complete (event.Request r) rest at h = absurd (omega (arith, h.0))
random_complete (event.Reply r) rest at h = absurd (omega (arith, h.0))
random_complete (event.Abort a) rest at h = absurd (omega (arith, h.0))
random_complete (event.Clock c) rest at h = absurd (omega (arith, h.0))
random_complete (event.Random r) rest at h =
    let read : List ℕ → Result (Event × Unread) FieldFault = λ xs. number_field (record { left = xs; at = at }) >>= (λ ask. count_field ask.1 >>= (λ count. rising_at share_at (λ s. s.index) count.0 0 count.1 >>= (λ items. Ok (event.Random (record { ask = ask.0; shares = items.0 }), items.1)))) in
    let (at1, c1) = seq_complete number_field u32_text (IsWithin 1 1000000) number_exact r.ask ((length r.shares ∷ []) ++ (flat_map share_text r.shares ++ rest)) at (λ ask. count_field ask.1 >>= (λ count. rising_at share_at (λ s. s.index) count.0 0 count.1 >>= (λ items. Ok (event.Random (record { ask = ask.0; shares = items.0 }), items.1)))) (h.1.ask_from, h.1.ask_to) in
    let (at2, c2) = seq_complete count_field byte_text IsCount count_exact (length r.shares) (flat_map share_text r.shares ++ rest) at1 (λ count. rising_at share_at (λ s. s.index) count.0 0 count.1 >>= (λ items. Ok (event.Random (record { ask = r.ask; shares = items.0 }), items.1))) (tt, h.1.count) in
    let (at3, c3) = seq_complete (rising_at share_at (λ s. s.index) (length r.shares) 0) (flat_map share_text) (AreRising (λ s. s.index) (λ s. length s.bytes ≡ 32) (length r.shares) 0) (rising_exact share_at (λ s. s.index) share_text (λ s. length s.bytes ≡ 32) share_exact (length r.shares)) r.shares rest at2 (λ items. Ok (event.Random (record { ask = r.ask; shares = items.0 }), items.1)) (refl, h.1.indices, h.1.sizes) in
    (at3, ap read (assoc3 (u32_text r.ask) (length r.shares ∷ []) (flat_map share_text r.shares) rest) ∙ (c1 ∙ (c2 ∙ c3)))

random_exact : IsExact Event random_at event_fields (IsEventOf 5)
unfolding random_at
random_exact = record {
  sound = λ u v z b h0.
      let (a, u1, r1, h1) = seq_sound number_field u32_text (IsWithin 1 1000000) number_exact u (λ ask. count_field ask.1 >>= (λ count. rising_at share_at (λ s. s.index) count.0 0 count.1 >>= (λ items. Ok (event.Random (record { ask = ask.0; shares = items.0 }), items.1)))) (z, v) b h0 in
      let (n, u2, r2, h2) = seq_sound count_field byte_text IsCount count_exact u1 (λ count. rising_at share_at (λ s. s.index) count.0 0 count.1 >>= (λ items. Ok (event.Random (record { ask = a; shares = items.0 }), items.1))) (z, v) r1.bytes h1 in
      let (xs, u3, r3, h3) = seq_sound (rising_at share_at (λ s. s.index) n 0) (flat_map share_text) (AreRising (λ s. s.index) (λ s. length s.bytes ≡ 32) n 0) (rising_exact share_at (λ s. s.index) share_text (λ s. length s.bytes ≡ 32) share_exact n) u2 (λ items. Ok (event.Random (record { ask = a; shares = items.0 }), items.1)) (z, v) r2.bytes h2 in
      let count : is_count (length xs) ≡ true = ap is_count r3.in_range.0 ∙ r2.in_range.1 in
      let nested : u.left ≡ u32_text a ++ ((length xs ∷ []) ++ (flat_map share_text xs ++ u3.left)) = r1.spelled ∙ ap (λ (ys : List ℕ). u32_text a ++ ys) (r2.spelled ∙ (ap (λ m. (m ∷ []) ++ u2.left) (sym r3.in_range.0) ∙ ap (λ (ys : List ℕ). (length xs ∷ []) ++ ys) r3.spelled)) in
      finish event_fields (IsEventOf 5) u u3 v (event.Random (record { ask = a; shares = xs })) z h3 (refl, record { ask_from = r1.in_range.0; ask_to = r1.in_range.1; count = count; indices = r3.in_range.1; sizes = r3.in_range.2 }) (nested ∙ sym (assoc3 (u32_text a) (length xs ∷ []) (flat_map share_text xs) u3.left)) r3.bytes;
  complete = random_complete;
}

-- the kinds from this one on
abbrev from6 : ℕ → FieldFault → Unread → Result (Event × Unread) FieldFault
from6 kind unknown u = Err unknown

abbrev from5 : ℕ → FieldFault → Unread → Result (Event × Unread) FieldFault
from5 kind unknown u = if kind == 5 then random_at u else from6 kind unknown u

abbrev from4 : ℕ → FieldFault → Unread → Result (Event × Unread) FieldFault
from4 kind unknown u = if kind == 4 then clock_at u else from5 kind unknown u

abbrev from3 : ℕ → FieldFault → Unread → Result (Event × Unread) FieldFault
from3 kind unknown u = if kind == 3 then abort_at u else from4 kind unknown u

abbrev from2 : ℕ → FieldFault → Unread → Result (Event × Unread) FieldFault
from2 kind unknown u = if kind == 2 then reply_at u else from3 kind unknown u

abbrev from1 : ℕ → FieldFault → Unread → Result (Event × Unread) FieldFault
from1 kind unknown u = if kind == 1 then request_at u else from2 kind unknown u

abbrev from0 : ℕ → FieldFault → Unread → Result (Event × Unread) FieldFault
from0 kind unknown u = if kind == 0 then Ok (event.Null, u) else from1 kind unknown u

retold : (kind k : ℕ) (u v : Unread) (e : Event) → kind ≡ k → ReadAs Event event_fields (IsEventOf k) u v e → ReadAs Event event_fields (IsEventOf kind) u v e
retold kind k u v e s r = record { in_range = (r.in_range.0 ∙ sym s, r.in_range.1); spelled = r.spelled; bytes = r.bytes }

refused_not : (f : FieldFault) (x : Event × Unread) → ◌≡◌ {A = Result (Event × Unread) FieldFault} (Err f) (Ok x) → ⊥
refused_not f x h = cc

kind_from5 : (kind : ℕ) (unknown : FieldFault) (u v : Unread) (e : Event) → IsBytes u.left → from5 kind unknown u ≡ Ok (e, v) → ReadAs Event event_fields (IsEventOf kind) u v e
kind_from5 kind unknown u v e b h = elim (choose (kind == 5) (random_at u) (from6 kind unknown u) (Ok (e, v)) h) [
  | inl w ↦ retold kind 5 u v e (eqb-true kind 5 w.0) (random_exact.sound u v e b w.1)
  | inr w ↦ absurd (refused_not unknown (e, v) w.1)
]

kind_from4 : (kind : ℕ) (unknown : FieldFault) (u v : Unread) (e : Event) → IsBytes u.left → from4 kind unknown u ≡ Ok (e, v) → ReadAs Event event_fields (IsEventOf kind) u v e
kind_from4 kind unknown u v e b h = elim (choose (kind == 4) (clock_at u) (from5 kind unknown u) (Ok (e, v)) h) [
  | inl w ↦ retold kind 4 u v e (eqb-true kind 4 w.0) (clock_exact.sound u v e b w.1)
  | inr w ↦ kind_from5 kind unknown u v e b w.1
]

kind_from3 : (kind : ℕ) (unknown : FieldFault) (u v : Unread) (e : Event) → IsBytes u.left → from3 kind unknown u ≡ Ok (e, v) → ReadAs Event event_fields (IsEventOf kind) u v e
kind_from3 kind unknown u v e b h = elim (choose (kind == 3) (abort_at u) (from4 kind unknown u) (Ok (e, v)) h) [
  | inl w ↦ retold kind 3 u v e (eqb-true kind 3 w.0) (abort_exact.sound u v e b w.1)
  | inr w ↦ kind_from4 kind unknown u v e b w.1
]

kind_from2 : (kind : ℕ) (unknown : FieldFault) (u v : Unread) (e : Event) → IsBytes u.left → from2 kind unknown u ≡ Ok (e, v) → ReadAs Event event_fields (IsEventOf kind) u v e
kind_from2 kind unknown u v e b h = elim (choose (kind == 2) (reply_at u) (from3 kind unknown u) (Ok (e, v)) h) [
  | inl w ↦ retold kind 2 u v e (eqb-true kind 2 w.0) (reply_exact.sound u v e b w.1)
  | inr w ↦ kind_from3 kind unknown u v e b w.1
]

kind_from1 : (kind : ℕ) (unknown : FieldFault) (u v : Unread) (e : Event) → IsBytes u.left → from1 kind unknown u ≡ Ok (e, v) → ReadAs Event event_fields (IsEventOf kind) u v e
kind_from1 kind unknown u v e b h = elim (choose (kind == 1) (request_at u) (from2 kind unknown u) (Ok (e, v)) h) [
  | inl w ↦ retold kind 1 u v e (eqb-true kind 1 w.0) (request_exact.sound u v e b w.1)
  | inr w ↦ kind_from2 kind unknown u v e b w.1
]

-- what a kind's fields gave
kind_sound : (kind : ℕ) (unknown : FieldFault) (u v : Unread) (e : Event) → IsBytes u.left → kind_at kind unknown u ≡ Ok (e, v) → ReadAs Event event_fields (IsEventOf kind) u v e
unfolding kind_at
kind_sound kind unknown u v e b h = elim (choose (kind == 0) (Ok (event.Null, u)) (from1 kind unknown u) (Ok (e, v)) h) [
  | inl w ↦ retold kind 0 u v e (eqb-true kind 0 w.0) (finish event_fields (IsEventOf 0) u u v event.Null e w.1 (refl, tt) refl b)
  | inr w ↦ kind_from1 kind unknown u v e b w.1
]

kind_complete : (e : Event) (unknown : FieldFault) (rest : List ℕ) (at : ℕ) → IsEvent e → (to : ℕ) × (kind_at (event_kind e) unknown (record { left = event_fields e ++ rest; at = at }) ≡ Ok (e, record { left = rest; at = to }))
unfolding kind_at
kind_complete event.Null unknown rest at h = (at, refl)
kind_complete (event.Request r) unknown rest at h = request_exact.complete (event.Request r) rest at (refl, h)
kind_complete (event.Reply r) unknown rest at h = reply_exact.complete (event.Reply r) rest at (refl, h)
kind_complete (event.Abort a) unknown rest at h = abort_exact.complete (event.Abort a) rest at (refl, h)
kind_complete (event.Clock c) unknown rest at h = clock_exact.complete (event.Clock c) rest at (refl, h)
kind_complete (event.Random r) unknown rest at h = random_exact.complete (event.Random r) rest at (refl, h)

pub event_exact : IsExact Event event_at event_text IsEvent
unfolding event_at
event_exact = record {
  sound = λ u v e b h.
      let (n, w, r, k) = seq_sound u8_field byte_text (λ n. Unit {0}) u8_exact u (λ kind. kind_at kind.0 (record { kind = Kind; at = u.at }) kind.1) (e, v) b h in
      let s = kind_sound n (record { kind = Kind; at = u.at }) w v e r.bytes k in
      let named : u.left ≡ (event_kind e ∷ []) ++ w.left = r.spelled ∙ ap (λ n. (n ∷ []) ++ w.left) (sym s.in_range.0) in
      record {
        in_range = s.in_range.1;
        spelled = named ∙ (ap (λ (ys : List ℕ). (event_kind e ∷ []) ++ ys) s.spelled ∙ ap (λ (ys : List ℕ). ys ++ v.left) (sym (event_spelled e)));
        bytes = s.bytes;
      };
  complete = λ e rest at l.
      let f : ℕ × Unread → Result (Event × Unread) FieldFault = λ kind. kind_at kind.0 (record { kind = Kind; at = at }) kind.1 in
      let (to, c) = seq_complete u8_field byte_text (λ n. Unit {0}) u8_exact (event_kind e) (event_fields e ++ rest) at f tt in
      let (end, d) = kind_complete e (record { kind = Kind; at = at }) rest to l in
      let read : List ℕ → Result (Event × Unread) FieldFault = λ ys. u8_field (record { left = ys; at = at }) >>= f in
      (end, ap read (ap (λ (ys : List ℕ). ys ++ rest) (event_spelled e)) ∙ (c ∙ d));
}
