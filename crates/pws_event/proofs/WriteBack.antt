-- Bytes that read as an event are its text.
use Rattle.std.proofs.Common.{◌≡◌, ◌⊎◌, inl, inr, ℕ, zero, suc, ◌+◌, ◌<◌, ◌≤◌, ◌^◌, Bool, true, false, List, [], ◌∷◌, ◌++◌, length, take, drop, All, IsTrue, Result, Ok, Err, refl, sym, ◌∙◌, ap, subst, arith, cond, nat_lt, nat_eq, get_or, append-nil, append_assoc}
use Rattle.std.specs.Int.{from_be_bytes, w8, w32, w64}
use Rattle.std.specs.List.{flat_map}
use Rattle.std.proofs.lemmas.Nat.{be_bytes_4, be_bytes_8}
use Rattle.std.proofs.lemmas.Bool.Decides.{nat_tests}
use Rattle.std.proofs.lemmas.List.{take-append-drop, length-take-le, get_or-append-add}
use Rattle.std.proofs.lemmas.List.Concat.{flat_map-cons}
use Rattle.std.proofs.lemmas.List.Elements.{All-nil, All-cons}
use Rattle.pws_base.specs.Texts.{u32_text, u64_text, sized_text}
use Rattle.pws_base.specs.declared.fields.FieldFault.{FieldFault}
use Rattle.pws_base.specs.declared.fields.FaultKind.TheVariants.{Short, Range, Kind, Rest}
use Rattle.pws_base.specs.Fields.{Unread, unread, ◌>>=◌, refused, past_bytes, u8_field, u32_field, u64_field, u8_within, u32_within, sized_field, group_field, number_field, body_field, ended}
use Rattle.pws_event.specs.declared.events.Event.{Event}
use Rattle.pws_event.specs.declared.events.Event.TheVariants as event
use Rattle.pws_event.specs.declared.readings.Reading.{Reading}
use Rattle.pws_event.specs.declared.readings.Share.{Share}
use Rattle.pws_event.specs.Readings.{is_count}
use Rattle.pws_event.specs.EventFields.{request_at, reply_at, abort_at, count_field, reading_at, share_at, rising_at, readings_at, shares_at, clock_at, random_at, kind_at, event_at, event_of}
use Rattle.pws_event.specs.Events.{event_text, reading_text, share_text, IsEvent}
use Rattle.pws_event.specs.TextLaws.{TextsWriteBack}
use Rattle.pws_event.proofs.Fields.{bind_ok, tested, untested, u8_read, u32_read, bytes_read, enough}
use Rattle.pws_event.proofs.Answered.{reading_parts, share_parts, reading_within, share_within, clock_lawful, random_lawful}
use Rattle.pws_event.proofs.Rising.{rising_by, none_by, rises}

-- bytes of a byte's size
abbrev AreBytes : List ℕ → Type 0
AreBytes xs = (i : ℕ) → get_or xs i 0 < 256

-- a text, what was read of it, and what is left
abbrev Stands : List ℕ → List ℕ → Unread → Type 0
Stands text read u = text ≡ read ++ u.left

left_bytes : (text read : List ℕ) (u : Unread) → AreBytes text → Stands text read u → AreBytes u.left
left_bytes text read u b s i = subst (λ n. n < 256) (ap (λ xs. get_or xs (length read + i) 0) s ∙ get_or-append-add read u.left i 0) (b (length read + i))

further : (text read more : List ℕ) (u v : Unread) → Stands text read u → u.left ≡ more ++ v.left → Stands text (read ++ more) v
further text read more u v s e = s ∙ (ap (λ xs. read ++ xs) e ∙ sym (append_assoc read more v.left))

take_bytes : (k : ℕ) (xs : List ℕ) → AreBytes xs → (i : ℕ) → get_or (take k xs) i 0 < 256
take_bytes zero xs b i = omega arith
take_bytes (suc k) [] b i = omega arith
take_bytes (suc k) (x ∷ xs) b zero = b 0
take_bytes (suc k) (x ∷ xs) b (suc i) = take_bytes k xs (λ i. b (suc i)) i

first_byte : (xs : List ℕ) → 1 ≤ length xs → xs ≡ from_be_bytes w8 (take 1 xs) ∷ drop 1 xs
first_byte [] h = absurd (omega arith)
first_byte (x ∷ xs) h = refl

u8_back : (u : Unread) (n : ℕ × Unread) → u8_field u ≡ Ok n → u.left ≡ (n.0 ∷ []) ++ n.1.left
u8_back u n h =
    let t = untested (nat_lt (length u.left) 1) (from_be_bytes w8 (take 1 u.left), past_bytes 1 u) n (record { kind = Short; at = u.at }) h in
    subst (λ (n : ℕ × Unread). u.left ≡ n.0 ∷ n.1.left) t.1 (first_byte u.left (enough 1 u.left t.0))

u32_front : (xs : List ℕ) → AreBytes xs → 4 ≤ length xs → xs ≡ u32_text (from_be_bytes w32 (take 4 xs)) ++ drop 4 xs
unfolding u32_text
u32_front xs b h = sym (ap (λ t. t ++ drop 4 xs) (be_bytes_4 (take 4 xs) (from_be_bytes w32 (take 4 xs)) (length-take-le 4 xs h) (take_bytes 4 xs b) refl) ∙ take-append-drop 4 xs)

u32_back : (u : Unread) (n : ℕ × Unread) → AreBytes u.left → u32_field u ≡ Ok n → u.left ≡ u32_text n.0 ++ n.1.left
u32_back u n b h =
    let t = untested (nat_lt (length u.left) 4) (from_be_bytes w32 (take 4 u.left), past_bytes 4 u) n (record { kind = Short; at = u.at }) h in
    subst (λ (n : ℕ × Unread). u.left ≡ u32_text n.0 ++ n.1.left) t.1 (u32_front u.left b (enough 4 u.left t.0))

u64_front : (xs : List ℕ) → AreBytes xs → 8 ≤ length xs → xs ≡ u64_text (from_be_bytes w64 (take 8 xs)) ++ drop 8 xs
unfolding u64_text
u64_front xs b h = sym (ap (λ t. t ++ drop 8 xs) (be_bytes_8 (take 8 xs) (from_be_bytes w64 (take 8 xs)) (length-take-le 8 xs h) (take_bytes 8 xs b) refl) ∙ take-append-drop 8 xs)

u64_small : (xs : List ℕ) → AreBytes xs → from_be_bytes w64 xs < 2 ^ 64
u64_small xs b = omega (arith, b 0, b 1, b 2, b 3, b 4, b 5, b 6, b 7)

u64_back : (u : Unread) (n : ℕ × Unread) → AreBytes u.left → u64_field u ≡ Ok n → (u.left ≡ u64_text n.0 ++ n.1.left) × (n.0 < 2 ^ 64)
u64_back u n b h =
    let t = untested (nat_lt (length u.left) 8) (from_be_bytes w64 (take 8 u.left), past_bytes 8 u) n (record { kind = Short; at = u.at }) h in
    (subst (λ (n : ℕ × Unread). u.left ≡ u64_text n.0 ++ n.1.left) t.1 (u64_front u.left b (enough 8 u.left t.0)), subst (λ (n : ℕ × Unread). n.0 < 2 ^ 64) t.1 (u64_small (take 8 u.left) (take_bytes 8 u.left b)))

-- the next field of a text
next_u8 : (text read : List ℕ) (u : Unread) (low high : ℕ) (n : ℕ × Unread) → Stands text read u → u8_within low high u ≡ Ok n → Stands text (read ++ (n.0 ∷ [])) n.1 × (low ≤ n.0) × (n.0 ≤ high)
next_u8 text read u low high n s h =
    let r = u8_read low high u n h in
    (further text read (n.0 ∷ []) u n.1 s (u8_back u n r.0), r.1, r.2)

next_u32 : (text read : List ℕ) (u : Unread) (low high : ℕ) (n : ℕ × Unread) → AreBytes text → Stands text read u → u32_within low high u ≡ Ok n → Stands text (read ++ u32_text n.0) n.1 × (low ≤ n.0) × (n.0 ≤ high)
next_u32 text read u low high n b s h =
    let r = u32_read low high u n h in
    (further text read (u32_text n.0) u n.1 s (u32_back u n (left_bytes text read u b s) r.0), r.1, r.2)

sized_parts : (bound : ℕ) (u : Unread) (x : List ℕ × Unread) → sized_field bound u ≡ Ok x → (size : ℕ × Unread) × (u32_within 0 bound u ≡ Ok size) × (length x.0 ≡ size.0) × (size.1.left ≡ x.0 ++ x.1.left)
unfolding sized_field
sized_parts bound u x h =
    let size = bind_ok (u32_within 0 bound u) (λ size. cond (nat_lt (length size.1.left) size.0) (refused Short u) (Ok (take size.0 size.1.left, past_bytes size.0 size.1))) x h in
    let t = untested (nat_lt (length size.0.1.left) size.0.0) (take size.0.0 size.0.1.left, past_bytes size.0.0 size.0.1) x (record { kind = Short; at = u.at }) size.2 in
    let n : length (take size.0.0 size.0.1.left) ≡ size.0.0 = length-take-le size.0.0 size.0.1.left (enough size.0.0 size.0.1.left t.0) in
    (size.0, size.1, subst (λ (x : List ℕ × Unread). length x.0 ≡ size.0.0) t.1 n, subst (λ (x : List ℕ × Unread). size.0.1.left ≡ x.0 ++ x.1.left) t.1 (sym (take-append-drop size.0.0 size.0.1.left)))

next_sized : (text read : List ℕ) (u : Unread) (bound : ℕ) (x : List ℕ × Unread) → AreBytes text → Stands text read u → sized_field bound u ≡ Ok x → Stands text (read ++ sized_text x.0) x.1 × (length x.0 ≤ bound)
next_sized text read u bound x b s h =
    let p = sized_parts bound u x h in
    let n = next_u32 text read u 0 bound p.0 b s p.1 in
    let named : Stands text (read ++ u32_text (length x.0)) p.0.1 = subst (λ n. Stands text (read ++ u32_text n) p.0.1) (sym p.2) n.0 in
    (further text (read ++ u32_text (length x.0)) x.0 p.0.1 x.1 named p.3 ∙ ap (λ xs. xs ++ x.1.left) (append_assoc read (u32_text (length x.0)) x.0), omega (arith, p.2, n.2))

same_pair : (x y : Event × Unread) → ◌≡◌ {A = Result (Event × Unread) FieldFault} (Ok x) (Ok y) → x ≡ y
same_pair x y h = cc

-- what was read of a text that begins with its kind: it is the text of the event, whose fields are in range
abbrev Spells : List ℕ → Event × Unread → Type 0
Spells text x = Stands text (event_text x.0) x.1 × IsEvent x.0

request_parts : (u : Unread) (x : Event × Unread) → request_at u ≡ Ok x → (caller : ℕ × Unread) × (number : ℕ × Unread) × (low : ℕ × Unread) × (body : List ℕ × Unread) × (group_field u ≡ Ok caller) × (number_field caller.1 ≡ Ok number) × (number_field number.1 ≡ Ok low) × (body_field low.1 ≡ Ok body) × (x ≡ (event.Request (record { caller = caller.0; number = number.0; low = low.0; body = body.0 }), body.1))
unfolding request_at
request_parts u x h =
    let made : ℕ × Unread → ℕ × Unread → ℕ × Unread → List ℕ × Unread → Result (Event × Unread) FieldFault = λ caller number low body. Ok (event.Request (record { caller = caller.0; number = number.0; low = low.0; body = body.0 }), body.1) in
    let caller = bind_ok (group_field u) (λ caller. number_field caller.1 >>= (λ number. number_field number.1 >>= (λ low. body_field low.1 >>= made caller number low))) x h in
    let number = bind_ok (number_field caller.0.1) (λ number. number_field number.1 >>= (λ low. body_field low.1 >>= made caller.0 number low)) x caller.2 in
    let low = bind_ok (number_field number.0.1) (λ low. body_field low.1 >>= made caller.0 number.0 low) x number.2 in
    let body = bind_ok (body_field low.0.1) (made caller.0 number.0 low.0) x low.2 in
    (caller.0, number.0, low.0, body.0, caller.1, number.1, low.1, body.1, sym (same_pair (event.Request (record { caller = caller.0.0; number = number.0.0; low = low.0.0; body = body.0.0 }), body.0.1) x body.2))

request_spells : (text : List ℕ) (u : Unread) (caller number low : ℕ × Unread) (body : List ℕ × Unread) → AreBytes text → Stands text (1 ∷ []) u → group_field u ≡ Ok caller → number_field caller.1 ≡ Ok number → number_field number.1 ≡ Ok low → body_field low.1 ≡ Ok body → Spells text (event.Request (record { caller = caller.0; number = number.0; low = low.0; body = body.0 }), body.1)
request_spells text u caller number low body b s h1 h2 h3 h4 =
    let t1 = (1 ∷ []) ++ (caller.0 ∷ []) in
    let t2 = t1 ++ u32_text number.0 in
    let t3 = t2 ++ u32_text low.0 in
    let s1 = next_u8 text (1 ∷ []) u 0 15 caller s h1 in
    let s2 = next_u32 text t1 caller.1 1 1000000 number b s1.0 h2 in
    let s3 = next_u32 text t2 number.1 1 1000000 low b s2.0 h3 in
    let s4 = next_sized text t3 low.1 32768 body b s3.0 h4 in
    (s4.0, record { caller = omega (arith, s1.2); number_from = s2.1; number_to = s2.2; low_from = s3.1; low_to = s3.2; body = s4.1 })

request_back : (text : List ℕ) (u : Unread) (x : Event × Unread) → AreBytes text → Stands text (1 ∷ []) u → request_at u ≡ Ok x → Spells text x
request_back text u x b s h =
    let p = request_parts u x h in
    subst (Spells text) (sym p.8) (request_spells text u p.0 p.1 p.2 p.3 b s p.4 p.5 p.6 p.7)

reply_parts : (u : Unread) (x : Event × Unread) → reply_at u ≡ Ok x → (called : ℕ × Unread) × (number : ℕ × Unread) × (body : List ℕ × Unread) × (group_field u ≡ Ok called) × (number_field called.1 ≡ Ok number) × (body_field number.1 ≡ Ok body) × (x ≡ (event.Reply (record { called = called.0; number = number.0; body = body.0 }), body.1))
unfolding reply_at
reply_parts u x h =
    let made : ℕ × Unread → ℕ × Unread → List ℕ × Unread → Result (Event × Unread) FieldFault = λ called number body. Ok (event.Reply (record { called = called.0; number = number.0; body = body.0 }), body.1) in
    let called = bind_ok (group_field u) (λ called. number_field called.1 >>= (λ number. body_field number.1 >>= made called number)) x h in
    let number = bind_ok (number_field called.0.1) (λ number. body_field number.1 >>= made called.0 number) x called.2 in
    let body = bind_ok (body_field number.0.1) (made called.0 number.0) x number.2 in
    (called.0, number.0, body.0, called.1, number.1, body.1, sym (same_pair (event.Reply (record { called = called.0.0; number = number.0.0; body = body.0.0 }), body.0.1) x body.2))

reply_spells : (text : List ℕ) (u : Unread) (called number : ℕ × Unread) (body : List ℕ × Unread) → AreBytes text → Stands text (2 ∷ []) u → group_field u ≡ Ok called → number_field called.1 ≡ Ok number → body_field number.1 ≡ Ok body → Spells text (event.Reply (record { called = called.0; number = number.0; body = body.0 }), body.1)
reply_spells text u called number body b s h1 h2 h3 =
    let t1 = (2 ∷ []) ++ (called.0 ∷ []) in
    let t2 = t1 ++ u32_text number.0 in
    let s1 = next_u8 text (2 ∷ []) u 0 15 called s h1 in
    let s2 = next_u32 text t1 called.1 1 1000000 number b s1.0 h2 in
    let s3 = next_sized text t2 number.1 32768 body b s2.0 h3 in
    (s3.0, record { called = omega (arith, s1.2); number_from = s2.1; number_to = s2.2; body = s3.1 })

reply_back : (text : List ℕ) (u : Unread) (x : Event × Unread) → AreBytes text → Stands text (2 ∷ []) u → reply_at u ≡ Ok x → Spells text x
reply_back text u x b s h =
    let p = reply_parts u x h in
    subst (Spells text) (sym p.6) (reply_spells text u p.0 p.1 p.2 b s p.3 p.4 p.5)

abort_parts : (u : Unread) (x : Event × Unread) → abort_at u ≡ Ok x → (called : ℕ × Unread) × (number : ℕ × Unread) × (group_field u ≡ Ok called) × (number_field called.1 ≡ Ok number) × (x ≡ (event.Abort (record { called = called.0; number = number.0 }), number.1))
unfolding abort_at
abort_parts u x h =
    let made : ℕ × Unread → ℕ × Unread → Result (Event × Unread) FieldFault = λ called number. Ok (event.Abort (record { called = called.0; number = number.0 }), number.1) in
    let called = bind_ok (group_field u) (λ called. number_field called.1 >>= made called) x h in
    let number = bind_ok (number_field called.0.1) (made called.0) x called.2 in
    (called.0, number.0, called.1, number.1, sym (same_pair (event.Abort (record { called = called.0.0; number = number.0.0 }), number.0.1) x number.2))

abort_spells : (text : List ℕ) (u : Unread) (called number : ℕ × Unread) → AreBytes text → Stands text (3 ∷ []) u → group_field u ≡ Ok called → number_field called.1 ≡ Ok number → Spells text (event.Abort (record { called = called.0; number = number.0 }), number.1)
abort_spells text u called number b s h1 h2 =
    let t1 = (3 ∷ []) ++ (called.0 ∷ []) in
    let s1 = next_u8 text (3 ∷ []) u 0 15 called s h1 in
    let s2 = next_u32 text t1 called.1 1 1000000 number b s1.0 h2 in
    (s2.0, record { called = omega (arith, s1.2); number_from = s2.1; number_to = s2.2 })

abort_back : (text : List ℕ) (u : Unread) (x : Event × Unread) → AreBytes text → Stands text (3 ∷ []) u → abort_at u ≡ Ok x → Spells text x
abort_back text u x b s h =
    let p = abort_parts u x h in
    subst (Spells text) (sym p.4) (abort_spells text u p.0 p.1 b s p.2 p.3)

-- the next reading, the next share
next_reading : (text read : List ℕ) (u : Unread) (least : ℕ) (x : Reading × Unread) → AreBytes text → Stands text read u → reading_at least u ≡ Ok x → Stands text (read ++ reading_text x.0) x.1 × (x.0.ms < 2 ^ 64)
next_reading text read u least x b s h =
    let p = reading_parts least u x h in
    let s1 = next_u8 text read u least 9 p.0 s p.2 in
    let bytes = left_bytes text (read ++ (p.0.0 ∷ [])) p.0.1 b s1.0 in
    let m = u64_back p.0.1 p.1 bytes p.3 in
    let s2 = further text (read ++ (p.0.0 ∷ [])) (u64_text p.1.0) p.0.1 p.1.1 s1.0 m.0 in
    subst (λ (x : Reading × Unread). Stands text (read ++ reading_text x.0) x.1 × (x.0.ms < 2 ^ 64)) (sym p.4) (s2 ∙ ap (λ xs. xs ++ p.1.1.left) (append_assoc read (p.0.0 ∷ []) (u64_text p.1.0)), m.1)

next_share : (text read : List ℕ) (u : Unread) (least : ℕ) (x : Share × Unread) → AreBytes text → Stands text read u → share_at least u ≡ Ok x → Stands text (read ++ share_text x.0) x.1 × (length x.0.bytes ≡ 32)
next_share text read u least x b s h =
    let p = share_parts least u x h in
    let s1 = next_u8 text read u least 9 p.0 s p.2 in
    let m = bytes_read 32 p.0.1 p.1 p.3 in
    let s2 = further text (read ++ (p.0.0 ∷ [])) p.1.0 p.0.1 p.1.1 s1.0 m.1 in
    subst (λ (x : Share × Unread). Stands text (read ++ share_text x.0) x.1 × (length x.0.bytes ≡ 32)) (sym p.4) (s2 ∙ ap (λ xs. xs ++ p.1.1.left) (append_assoc read (p.0.0 ∷ []) p.1.0), m.0)

next_rising : {A : Type 0} (item_at : ℕ → Unread → Result (A × Unread) FieldFault) (index : A → ℕ) (item_text : A → List ℕ) (P : A → Type 0) (text : List ℕ)
    → ((read : List ℕ) (u : Unread) (least : ℕ) (x : A × Unread) → Stands text read u → item_at least u ≡ Ok x → Stands text (read ++ item_text x.0) x.1 × P x.0)
    → (n least : ℕ) (read : List ℕ) (u : Unread) (y : List A × Unread) → Stands text read u → rising_at item_at index n least u ≡ Ok y → Stands text (read ++ flat_map item_text y.0) y.1 × All P y.0
next_rising item_at index item_text P text each zero least read u y s h =
    subst (λ y. Stands text (read ++ flat_map item_text y.0) y.1 × All P y.0) (sym (none_by item_at index least u y h)) (s ∙ ap (λ xs. xs ++ u.left) (sym (append-nil read)), All-nil P)
next_rising item_at index item_text P text each (suc n) least read u y s h =
    let p = rising_by item_at index n least u y h in
    let first = each read u least p.0 s p.2 in
    let rest = next_rising item_at index item_text P text each n (index p.0.0 + 1) (read ++ item_text p.0.0) p.0.1 p.1 first.0 p.3 in
    let all : flat_map item_text (p.0.0 ∷ p.1.0) ≡ item_text p.0.0 ++ flat_map item_text p.1.0 = flat_map-cons item_text p.0.0 p.1.0 in
    subst (λ y. Stands text (read ++ flat_map item_text y.0) y.1 × All P y.0) (sym p.4) (rest.0 ∙ ap (λ xs. xs ++ p.1.1.left) (append_assoc read (item_text p.0.0) (flat_map item_text p.1.0) ∙ ap (λ xs. read ++ xs) (sym all)), All-cons P p.0.0 p.1.0 first.1 rest.1)

next_count : (text read : List ℕ) (u : Unread) (n : ℕ × Unread) → Stands text read u → count_field u ≡ Ok n → Stands text (read ++ (n.0 ∷ [])) n.1 × IsTrue (is_count n.0)
next_count text read u n s h =
    let m = bind_ok (u8_field u) (λ n. cond (is_count n.0) (Ok n) (refused Range u)) n h in
    let t = tested (is_count m.0.0) m.0 n (record { kind = Range; at = u.at }) m.2 in
    (further text read (n.0 ∷ []) u n.1 s (u8_back u n (m.1 ∙ ap Ok t.1)), subst (λ (n : ℕ × Unread). IsTrue (is_count n.0)) t.1 t.0)

clock_parts : (u : Unread) (x : Event × Unread) → clock_at u ≡ Ok x → (ask : ℕ × Unread) × (count : ℕ × Unread) × (readings : List Reading × Unread) × (number_field u ≡ Ok ask) × (count_field ask.1 ≡ Ok count) × (readings_at count.0 count.1 ≡ Ok readings) × (x ≡ (event.Clock (record { ask = ask.0; readings = readings.0 }), readings.1))
unfolding clock_at
clock_parts u x h =
    let made : ℕ × Unread → List Reading × Unread → Result (Event × Unread) FieldFault = λ ask readings. Ok (event.Clock (record { ask = ask.0; readings = readings.0 }), readings.1) in
    let ask = bind_ok (number_field u) (λ ask. count_field ask.1 >>= (λ count. readings_at count.0 count.1 >>= made ask)) x h in
    let count = bind_ok (count_field ask.0.1) (λ count. readings_at count.0 count.1 >>= made ask.0) x ask.2 in
    let readings = bind_ok (readings_at count.0.0 count.0.1) (made ask.0) x count.2 in
    (ask.0, count.0, readings.0, ask.1, count.1, readings.1, sym (same_pair (event.Clock (record { ask = ask.0.0; readings = readings.0.0 }), readings.0.1) x readings.2))

clock_spells : (text : List ℕ) (u : Unread) (ask count : ℕ × Unread) (readings : List Reading × Unread) → AreBytes text → Stands text (4 ∷ []) u → number_field u ≡ Ok ask → count_field ask.1 ≡ Ok count → readings_at count.0 count.1 ≡ Ok readings → Spells text (event.Clock (record { ask = ask.0; readings = readings.0 }), readings.1)
clock_spells text u ask count readings b s h1 h2 h3 =
    let t1 = (4 ∷ []) ++ u32_text ask.0 in
    let t2 = t1 ++ (count.0 ∷ []) in
    let s1 = next_u32 text (4 ∷ []) u 1 1000000 ask b s h1 in
    let s2 = next_count text t1 ask.1 count s1.0 h2 in
    let s3 = next_rising reading_at (λ r. r.index) reading_text (λ r. r.ms < 2 ^ 64) text (λ read u least x s h. next_reading text read u least x b s h) count.0 0 t2 count.1 readings s2.0 h3 in
    let size : count.0 ≡ length readings.0 = sym (rises reading_at (λ r. r.index) reading_within count.0 0 count.1 readings h3).0 in
    (subst (λ n. text ≡ (t1 ++ (n ∷ [])) ++ flat_map reading_text readings.0 ++ readings.1.left) size s3.0, clock_lawful ask.0 count.0 count.1 readings s1.1 s1.2 s2.1 h3 s3.1)

clock_back : (text : List ℕ) (u : Unread) (x : Event × Unread) → AreBytes text → Stands text (4 ∷ []) u → clock_at u ≡ Ok x → Spells text x
clock_back text u x b s h =
    let p = clock_parts u x h in
    subst (Spells text) (sym p.6) (clock_spells text u p.0 p.1 p.2 b s p.3 p.4 p.5)

random_parts : (u : Unread) (x : Event × Unread) → random_at u ≡ Ok x → (ask : ℕ × Unread) × (count : ℕ × Unread) × (shares : List Share × Unread) × (number_field u ≡ Ok ask) × (count_field ask.1 ≡ Ok count) × (shares_at count.0 count.1 ≡ Ok shares) × (x ≡ (event.Random (record { ask = ask.0; shares = shares.0 }), shares.1))
unfolding random_at
random_parts u x h =
    let made : ℕ × Unread → List Share × Unread → Result (Event × Unread) FieldFault = λ ask shares. Ok (event.Random (record { ask = ask.0; shares = shares.0 }), shares.1) in
    let ask = bind_ok (number_field u) (λ ask. count_field ask.1 >>= (λ count. shares_at count.0 count.1 >>= made ask)) x h in
    let count = bind_ok (count_field ask.0.1) (λ count. shares_at count.0 count.1 >>= made ask.0) x ask.2 in
    let shares = bind_ok (shares_at count.0.0 count.0.1) (made ask.0) x count.2 in
    (ask.0, count.0, shares.0, ask.1, count.1, shares.1, sym (same_pair (event.Random (record { ask = ask.0.0; shares = shares.0.0 }), shares.0.1) x shares.2))

random_spells : (text : List ℕ) (u : Unread) (ask count : ℕ × Unread) (shares : List Share × Unread) → AreBytes text → Stands text (5 ∷ []) u → number_field u ≡ Ok ask → count_field ask.1 ≡ Ok count → shares_at count.0 count.1 ≡ Ok shares → Spells text (event.Random (record { ask = ask.0; shares = shares.0 }), shares.1)
random_spells text u ask count shares b s h1 h2 h3 =
    let t1 = (5 ∷ []) ++ u32_text ask.0 in
    let t2 = t1 ++ (count.0 ∷ []) in
    let s1 = next_u32 text (5 ∷ []) u 1 1000000 ask b s h1 in
    let s2 = next_count text t1 ask.1 count s1.0 h2 in
    let s3 = next_rising share_at (λ s. s.index) share_text (λ s. length s.bytes ≡ 32) text (λ read u least x s h. next_share text read u least x b s h) count.0 0 t2 count.1 shares s2.0 h3 in
    let size : count.0 ≡ length shares.0 = sym (rises share_at (λ s. s.index) share_within count.0 0 count.1 shares h3).0 in
    (subst (λ n. text ≡ (t1 ++ (n ∷ [])) ++ flat_map share_text shares.0 ++ shares.1.left) size s3.0, random_lawful ask.0 count.0 count.1 shares s1.1 s1.2 s2.1 h3)

random_back : (text : List ℕ) (u : Unread) (x : Event × Unread) → AreBytes text → Stands text (5 ∷ []) u → random_at u ≡ Ok x → Spells text x
random_back text u x b s h =
    let p = random_parts u x h in
    subst (Spells text) (sym p.6) (random_spells text u p.0 p.1 p.2 b s p.3 p.4 p.5)

null_back : (text : List ℕ) (u : Unread) (x : Event × Unread) → Stands text (0 ∷ []) u → ◌≡◌ {A = Result (Event × Unread) FieldFault} (Ok (event.Null, u)) (Ok x) → Spells text x
null_back text u x s h = subst (Spells text) (same_pair (event.Null, u) x h) (s, tt)

of_kind : (text : List ℕ) (kind n : ℕ) (u : Unread) → nat_eq kind n ≡ true → Stands text (kind ∷ []) u → Stands text (n ∷ []) u
of_kind text kind n u e s = let same : kind ≡ n = grind (arith, nat_tests) in subst (λ k. Stands text (k ∷ []) u) same s

choose : (b : Bool) (r s : Result (Event × Unread) FieldFault) (x : Event × Unread) → cond b r s ≡ Ok x → ((b ≡ true) × (r ≡ Ok x)) ⊎ ((b ≡ false) × (s ≡ Ok x))
choose true r s x h = inl (refl, h)
choose false r s x h = inr (refl, h)

unknown_never : (e : FieldFault) (x : Event × Unread) → ◌≡◌ {A = Result (Event × Unread) FieldFault} (Err e) (Ok x) → ⊥
unknown_never e x h = cc

kind_back : (text : List ℕ) (kind : ℕ) (unknown : FieldFault) (u : Unread) (x : Event × Unread) → AreBytes text → Stands text (kind ∷ []) u → kind_at kind unknown u ≡ Ok x → Spells text x
unfolding kind_at
kind_back text kind unknown u x b s h =
    let r5 = cond (nat_eq kind 5) (random_at u) (Err unknown) in
    let r4 = cond (nat_eq kind 4) (clock_at u) r5 in
    let r3 = cond (nat_eq kind 3) (abort_at u) r4 in
    let r2 = cond (nat_eq kind 2) (reply_at u) r3 in
    let r1 = cond (nat_eq kind 1) (request_at u) r2 in
    elim (choose (nat_eq kind 0) (Ok (event.Null, u)) r1 x h) [
      | inl p ↦ null_back text u x (of_kind text kind 0 u p.0 s) p.1
      | inr p ↦ elim (choose (nat_eq kind 1) (request_at u) r2 x p.1) [
        | inl p ↦ request_back text u x b (of_kind text kind 1 u p.0 s) p.1
        | inr p ↦ elim (choose (nat_eq kind 2) (reply_at u) r3 x p.1) [
          | inl p ↦ reply_back text u x b (of_kind text kind 2 u p.0 s) p.1
          | inr p ↦ elim (choose (nat_eq kind 3) (abort_at u) r4 x p.1) [
            | inl p ↦ abort_back text u x b (of_kind text kind 3 u p.0 s) p.1
            | inr p ↦ elim (choose (nat_eq kind 4) (clock_at u) r5 x p.1) [
              | inl p ↦ clock_back text u x b (of_kind text kind 4 u p.0 s) p.1
              | inr p ↦ elim (choose (nat_eq kind 5) (random_at u) (Err unknown) x p.1) [
                | inl p ↦ random_back text u x b (of_kind text kind 5 u p.0 s) p.1
                | inr p ↦ absurd (unknown_never unknown x p.1)
              ]
            ]
          ]
        ]
      ]
    ]

event_back : (text : List ℕ) (x : Event × Unread) → AreBytes text → event_at (unread text) ≡ Ok x → Spells text x
unfolding event_at
event_back text x b h =
    let k = bind_ok (u8_field (unread text)) (λ kind. kind_at kind.0 (record { kind = Kind; at = 0 }) kind.1) x h in
    kind_back text k.0.0 (record { kind = Kind; at = 0 }) k.0.1 x b (u8_back (unread text) k.0 k.1) k.2

none_left : (xs : List ℕ) → nat_eq (length xs) 0 ≡ true → xs ≡ []
none_left [] h = refl
none_left (x ∷ xs) h = absurd (grind (arith, nat_tests))

ended_whole : (text : List ℕ) (x : Event × Unread) (e : Event) → Spells text x → ended x ≡ Ok e → IsEvent e × (event_text e ≡ text)
ended_whole text x e s h =
    let t = tested (nat_eq (length x.1.left) 0) x.0 e (record { kind = Rest; at = x.1.at }) h in
    let all : event_text x.0 ≡ text = sym (s.0 ∙ (ap (λ xs. event_text x.0 ++ xs) (none_left x.1.left t.0) ∙ append-nil (event_text x.0))) in
    (subst IsEvent t.1 s.1, subst (λ e. event_text e ≡ text) t.1 all)

pub texts_write_back : TextsWriteBack
unfolding event_of
texts_write_back text e b h =
    let x = bind_ok (event_at (unread text)) ended e h in
    ended_whole text x.0 e (event_back text x.0 b x.1) x.2
