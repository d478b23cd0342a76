-- The text of an event reads as the event.
use Rattle.std.proofs.Common.{◌≡◌, ℕ, suc, ◌+◌, ◌<◌, ◌≤◌, ◌^◌, ◌&&◌, true, false, List, [], ◌∷◌, ◌++◌, length, take, drop, map, All, IsTrue, Result, Ok, refl, sym, ◌∙◌, ap, arith, cond, nat_lt, nat_le, append-nil, append_assoc, length-append}
use Rattle.std.specs.Int.{from_be_bytes, w32, w64}
use Rattle.std.specs.List.{flat_map}
use Rattle.std.proofs.Math.Seq.{take-append_seam, drop-append_seam, take-length}
use Rattle.std.proofs.lemmas.Nat.{from_be_bytes-to_be_bytes_4, from_be_bytes-to_be_bytes_8}
use Rattle.std.proofs.lemmas.Bool.Decides.{nat_tests}
use Rattle.std.proofs.lemmas.List.Concat.{flat_map-cons}
use Rattle.std.proofs.lemmas.List.Elements.{All-head, All-tail}
use Rattle.pws_base.specs.Texts.{u32_text, u64_text, sized_text}
use Rattle.pws_base.specs.declared.fields.FieldFault.{FieldFault}
use Rattle.pws_base.specs.declared.fields.FaultKind.TheVariants.{Short, Range, Kind}
use Rattle.pws_base.specs.Fields.{Unread, ◌>>=◌, refused, past_bytes, bytes_field, u8_field, u32_field, u64_field, u8_within, u32_within, sized_field, number_field, body_field, ended}
use Rattle.pws_event.specs.declared.events.Event.{Event}
use Rattle.pws_event.specs.declared.events.Event.TheVariants as event
use Rattle.pws_event.specs.Requests.{RequestFields, IsRequest}
use Rattle.pws_event.specs.Answers.{ReplyFields, AbortFields, IsReply, IsAbort}
use Rattle.pws_event.specs.declared.readings.Reading.{Reading}
use Rattle.pws_event.specs.declared.readings.Share.{Share}
use Rattle.pws_event.specs.Readings.{ClockFields, RandomFields, IsClock, IsRandom, RiseFrom, is_count}
use Rattle.pws_event.specs.EventFields.{request_at, reply_at, abort_at, count_field, reading_at, share_at, rising_at, clock_at, random_at, kind_at, event_at, event_of}
use Rattle.pws_event.specs.TextLaws.{TextsReadBack, TextsDiffer}
use Rattle.pws_event.specs.Events.{event_text, reading_text, share_text}
use Rattle.pws_event.proofs.Fields.{bind}

short_not : (n : ℕ) → nat_lt (suc n) 1 ≡ false
short_not n = grind (arith, nat_tests)

not_short : (k n : ℕ) → k ≤ n → nat_lt n k ≡ false
not_short k n h = grind (arith, nat_tests)

-- a byte, and what is behind it
pub u8_forth : (b : ℕ) (rest : List ℕ) (at : ℕ) → u8_field (record { left = b ∷ rest; at = at }) ≡ Ok (b, record { left = rest; at = at + 1 })
u8_forth b rest at = ap (λ s. cond s (refused Short (record { left = b ∷ rest; at = at })) (Ok (b, record { left = rest; at = at + 1 }))) (short_not (length rest))

seam : (k : ℕ) (text rest : List ℕ) (at : ℕ) → length text ≡ k → (take k (text ++ rest) ≡ text) × (past_bytes k (record { left = text ++ rest; at = at }) ≡ record { left = rest; at = at + k })
seam k text rest at e =
    (ap (λ k. take k (text ++ rest)) (sym e) ∙ take-append_seam text rest, ap (λ xs. record { left = xs; at = at + k }) (ap (λ k. drop k (text ++ rest)) (sym e) ∙ drop-append_seam text rest))

room : (k : ℕ) (text rest : List ℕ) → length text ≡ k → nat_lt (length (text ++ rest)) k ≡ false
room k text rest e = not_short k (length (text ++ rest)) (omega (arith, length-append text rest, e))

pub bytes_forth : (k : ℕ) (text rest : List ℕ) (at : ℕ) → length text ≡ k → bytes_field k (record { left = text ++ rest; at = at }) ≡ Ok (text, record { left = rest; at = at + k })
bytes_forth k text rest at e =
    let s = seam k text rest at e in
    let whole : Unread = record { left = text ++ rest; at = at } in
    ap (λ b. cond b (refused Short whole) (Ok (take k (text ++ rest), past_bytes k whole))) (room k text rest e) ∙ (ap (λ t. Ok (t, past_bytes k whole)) s.0 ∙ ap (λ u. Ok (text, u)) s.1)

u32_size : (n : ℕ) → length (u32_text n) ≡ 4
unfolding u32_text
u32_size n = refl

u64_size : (n : ℕ) → length (u64_text n) ≡ 8
unfolding u64_text
u64_size n = refl

u32_value : (n : ℕ) → n < 2 ^ 32 → from_be_bytes w32 (u32_text n) ≡ n
unfolding u32_text
u32_value n h = from_be_bytes-to_be_bytes_4 n h

u64_value : (n : ℕ) → n < 2 ^ 64 → from_be_bytes w64 (u64_text n) ≡ n
unfolding u64_text
u64_value n h = from_be_bytes-to_be_bytes_8 n h

pub u32_forth : (n : ℕ) (rest : List ℕ) (at : ℕ) → n < 2 ^ 32 → u32_field (record { left = u32_text n ++ rest; at = at }) ≡ Ok (n, record { left = rest; at = at + 4 })
u32_forth n rest at h =
    let s = seam 4 (u32_text n) rest at (u32_size n) in
    let whole : Unread = record { left = u32_text n ++ rest; at = at } in
    ap (λ b. cond b (refused Short whole) (Ok (from_be_bytes w32 (take 4 (u32_text n ++ rest)), past_bytes 4 whole))) (room 4 (u32_text n) rest (u32_size n)) ∙ (ap (λ t. Ok (from_be_bytes w32 t, past_bytes 4 whole)) s.0 ∙ (ap (λ m. Ok (m, past_bytes 4 whole)) (u32_value n h) ∙ ap (λ u. Ok (n, u)) s.1))

pub u64_forth : (n : ℕ) (rest : List ℕ) (at : ℕ) → n < 2 ^ 64 → u64_field (record { left = u64_text n ++ rest; at = at }) ≡ Ok (n, record { left = rest; at = at + 8 })
u64_forth n rest at h =
    let s = seam 8 (u64_text n) rest at (u64_size n) in
    let whole : Unread = record { left = u64_text n ++ rest; at = at } in
    ap (λ b. cond b (refused Short whole) (Ok (from_be_bytes w64 (take 8 (u64_text n ++ rest)), past_bytes 8 whole))) (room 8 (u64_text n) rest (u64_size n)) ∙ (ap (λ t. Ok (from_be_bytes w64 t, past_bytes 8 whole)) s.0 ∙ (ap (λ m. Ok (m, past_bytes 8 whole)) (u64_value n h) ∙ ap (λ u. Ok (n, u)) s.1))

inside : (low high n : ℕ) → low ≤ n → n ≤ high → (nat_le low n && nat_le n high) ≡ true
inside low high n a b = grind (arith, nat_tests)

pub u8_within_forth : (low high n : ℕ) (rest : List ℕ) (at : ℕ) → low ≤ n → n ≤ high → u8_within low high (record { left = n ∷ rest; at = at }) ≡ Ok (n, record { left = rest; at = at + 1 })
u8_within_forth low high n rest at a b =
    let f : ℕ × Unread → Result (ℕ × Unread) FieldFault = λ n'. cond (nat_le low n'.0 && nat_le n'.0 high) (Ok n') (refused Range (record { left = n ∷ rest; at = at })) in
    bind (u8_field (record { left = n ∷ rest; at = at })) f (n, record { left = rest; at = at + 1 }) (u8_forth n rest at) ∙ ap (λ b. cond b (Ok (n, record { left = rest; at = at + 1 })) (refused Range (record { left = n ∷ rest; at = at }))) (inside low high n a b)

pub u32_within_forth : (low high n : ℕ) (rest : List ℕ) (at : ℕ) → low ≤ n → n ≤ high → n < 2 ^ 32 → u32_within low high (record { left = u32_text n ++ rest; at = at }) ≡ Ok (n, record { left = rest; at = at + 4 })
u32_within_forth low high n rest at a b h =
    let f : ℕ × Unread → Result (ℕ × Unread) FieldFault = λ n'. cond (nat_le low n'.0 && nat_le n'.0 high) (Ok n') (refused Range (record { left = u32_text n ++ rest; at = at })) in
    bind (u32_field (record { left = u32_text n ++ rest; at = at })) f (n, record { left = rest; at = at + 4 }) (u32_forth n rest at h) ∙ ap (λ b. cond b (Ok (n, record { left = rest; at = at + 4 })) (refused Range (record { left = u32_text n ++ rest; at = at }))) (inside low high n a b)

pub number_forth : (n : ℕ) (rest : List ℕ) (at : ℕ) → 1 ≤ n → n ≤ 1000000 → number_field (record { left = u32_text n ++ rest; at = at }) ≡ Ok (n, record { left = rest; at = at + 4 })
number_forth n rest at a b = u32_within_forth 1 1000000 n rest at a b (omega (arith, b))

drop_all : (xs : List ℕ) → drop (length xs) xs ≡ []
drop_all [] = refl
drop_all (x ∷ xs) = drop_all xs

-- a body that nothing is behind
pub body_forth : (body : List ℕ) (at : ℕ) → length body ≤ 32768 → body_field (record { left = sized_text body; at = at }) ≡ Ok (body, record { left = []; at = at + 4 + length body })
unfolding sized_field
body_forth body at h =
    let whole : Unread = record { left = sized_text body; at = at } in
    let after : Unread = record { left = body; at = at + 4 } in
    let f : ℕ × Unread → Result (List ℕ × Unread) FieldFault = λ size. cond (nat_lt (length size.1.left) size.0) (refused Short whole) (Ok (take size.0 size.1.left, past_bytes size.0 size.1)) in
    bind (u32_within 0 32768 whole) f (length body, after) (u32_within_forth 0 32768 (length body) body at (omega arith) h (omega (arith, h))) ∙
    (ap (λ b. cond b (refused Short whole) (Ok (take (length body) body, past_bytes (length body) after))) (not_short (length body) (length body) (omega arith)) ∙
    (ap (λ t. Ok (t, past_bytes (length body) after)) (take-length body) ∙ ap (λ xs. Ok (body, record { left = xs; at = at + 4 + length body })) (drop_all body)))

request_forth : (r : RequestFields) (at : ℕ) → IsRequest r → (after : ℕ) × (request_at (record { left = r.caller ∷ (u32_text r.number ++ (u32_text r.low ++ sized_text r.body)); at = at }) ≡ Ok (event.Request r, record { left = []; at = after }))
unfolding request_at
request_forth r at h =
    let rest3 = sized_text r.body in
    let rest2 = u32_text r.low ++ rest3 in
    let rest1 = u32_text r.number ++ rest2 in
    let caller = u8_within_forth 0 15 r.caller rest1 at (omega arith) (omega (arith, h.caller)) in
    let number = number_forth r.number rest2 (at + 1) h.number_from h.number_to in
    let low = number_forth r.low rest3 (at + 1 + 4) h.low_from h.low_to in
    let body = body_forth r.body (at + 1 + 4 + 4) h.body in
    (at + 1 + 4 + 4 + 4 + length r.body, bind _ _ _ caller ∙ (bind _ _ _ number ∙ (bind _ _ _ low ∙ bind _ _ _ body)))

reply_forth : (r : ReplyFields) (at : ℕ) → IsReply r → (after : ℕ) × (reply_at (record { left = r.called ∷ (u32_text r.number ++ sized_text r.body); at = at }) ≡ Ok (event.Reply r, record { left = []; at = after }))
unfolding reply_at
reply_forth r at h =
    let rest2 = sized_text r.body in
    let rest1 = u32_text r.number ++ rest2 in
    let called = u8_within_forth 0 15 r.called rest1 at (omega arith) (omega (arith, h.called)) in
    let number = number_forth r.number rest2 (at + 1) h.number_from h.number_to in
    let body = body_forth r.body (at + 1 + 4) h.body in
    (at + 1 + 4 + 4 + length r.body, bind _ _ _ called ∙ (bind _ _ _ number ∙ bind _ _ _ body))

abort_forth : (a : AbortFields) (at : ℕ) → IsAbort a → (after : ℕ) × (abort_at (record { left = a.called ∷ (u32_text a.number ++ []); at = at }) ≡ Ok (event.Abort a, record { left = []; at = after }))
unfolding abort_at
abort_forth a at h =
    let called = u8_within_forth 0 15 a.called (u32_text a.number ++ []) at (omega arith) (omega (arith, h.called)) in
    let number = number_forth a.number [] (at + 1) h.number_from h.number_to in
    (at + 1 + 4, bind _ _ _ called ∙ bind _ _ _ number)

-- a reading, a share, and what is behind it
reading_forth : (least : ℕ) (x : Reading) (rest : List ℕ) (at : ℕ) → least ≤ x.index → x.index ≤ 9 → x.ms < 2 ^ 64 → (after : ℕ) × (reading_at least (record { left = reading_text x ++ rest; at = at }) ≡ Ok (x, record { left = rest; at = after }))
unfolding reading_at
reading_forth least x rest at a b h =
    let index = u8_within_forth least 9 x.index (u64_text x.ms ++ rest) at a b in
    let ms = u64_forth x.ms rest (at + 1) h in
    (at + 1 + 8, bind _ _ _ index ∙ bind _ _ _ ms)

share_forth : (least : ℕ) (x : Share) (rest : List ℕ) (at : ℕ) → least ≤ x.index → x.index ≤ 9 → length x.bytes ≡ 32 → (after : ℕ) × (share_at least (record { left = share_text x ++ rest; at = at }) ≡ Ok (x, record { left = rest; at = after }))
unfolding share_at
share_forth least x rest at a b h =
    let index = u8_within_forth least 9 x.index (x.bytes ++ rest) at a b in
    let bytes = bytes_forth 32 x.bytes rest (at + 1) h in
    (at + 1 + 32, bind _ _ _ index ∙ bind _ _ _ bytes)

-- so many items, and what is behind them
rising_forth : {A : Type 0} (item_at : ℕ → Unread → Result (A × Unread) FieldFault) (index : A → ℕ) (item_text : A → List ℕ) (P : A → Type 0)
    → ((least : ℕ) (x : A) (rest : List ℕ) (at : ℕ) → least ≤ index x → index x ≤ 9 → P x → (after : ℕ) × (item_at least (record { left = item_text x ++ rest; at = at }) ≡ Ok (x, record { left = rest; at = after })))
    → (xs : List A) (least at : ℕ) → RiseFrom least (map index xs) → All P xs → (after : ℕ) × (rising_at item_at index (length xs) least (record { left = flat_map item_text xs; at = at }) ≡ Ok (xs, record { left = []; at = after }))
unfolding rising_at
rising_forth item_at index item_text P each [] least at r h = (at, refl)
rising_forth item_at index item_text P each (x ∷ xs) least at r h =
    let first = each least x (flat_map item_text xs) at r.0 r.1 (All-head P x xs h) in
    let rest = rising_forth item_at index item_text P each xs (index x + 1) first.0 r.2 (All-tail P x xs h) in
    let text : flat_map item_text (x ∷ xs) ≡ item_text x ++ flat_map item_text xs = flat_map-cons item_text x xs in
    (rest.0, ap (λ t. rising_at item_at index (suc (length xs)) least (record { left = t; at = at })) text ∙ (bind _ _ _ first.1 ∙ bind _ _ _ rest.1))

count_forth : (n : ℕ) (rest : List ℕ) (at : ℕ) → IsTrue (is_count n) → count_field (record { left = n ∷ rest; at = at }) ≡ Ok (n, record { left = rest; at = at + 1 })
count_forth n rest at h = bind _ _ _ (u8_forth n rest at) ∙ ap (λ b. cond b (Ok (n, record { left = rest; at = at + 1 })) (refused Range (record { left = n ∷ rest; at = at }))) h

clock_forth : (c : ClockFields) (at : ℕ) → IsClock c → (after : ℕ) × (clock_at (record { left = u32_text c.ask ++ (length c.readings ∷ flat_map reading_text c.readings); at = at }) ≡ Ok (event.Clock c, record { left = []; at = after }))
unfolding clock_at
clock_forth c at h =
    let rest = flat_map reading_text c.readings in
    let ask = number_forth c.ask (length c.readings ∷ rest) at h.ask_from h.ask_to in
    let count = count_forth (length c.readings) rest (at + 4) h.count in
    let readings = rising_forth reading_at (λ r. r.index) reading_text (λ r. r.ms < 2 ^ 64) reading_forth c.readings 0 (at + 4 + 1) h.indices h.times in
    (readings.0, bind _ _ _ ask ∙ (bind _ _ _ count ∙ bind _ _ _ readings.1))

random_forth : (c : RandomFields) (at : ℕ) → IsRandom c → (after : ℕ) × (random_at (record { left = u32_text c.ask ++ (length c.shares ∷ flat_map share_text c.shares); at = at }) ≡ Ok (event.Random c, record { left = []; at = after }))
unfolding random_at
random_forth c at h =
    let rest = flat_map share_text c.shares in
    let ask = number_forth c.ask (length c.shares ∷ rest) at h.ask_from h.ask_to in
    let count = count_forth (length c.shares) rest (at + 4) h.count in
    let shares = rising_forth share_at (λ s. s.index) share_text (λ s. length s.bytes ≡ 32) share_forth c.shares 0 (at + 4 + 1) h.indices h.sizes in
    (shares.0, bind _ _ _ ask ∙ (bind _ _ _ count ∙ bind _ _ _ shares.1))

-- a kind, and the fields of an event of it
whole : (kind : ℕ) (fields : List ℕ) (e : Event) → (after : ℕ) × (kind_at kind (record { kind = Kind; at = 0 }) (record { left = fields; at = 1 }) ≡ Ok (e, record { left = []; at = after })) → event_of (kind ∷ fields) ≡ Ok e
unfolding event_of event_at
whole kind fields e h = ap (λ (x : Result (Event × Unread) FieldFault). x >>= ended) (bind _ _ _ (u8_forth kind fields 0) ∙ h.1)

at_kind : (kind : ℕ) (fields text : List ℕ) (e : Event) → text ≡ kind ∷ fields → (after : ℕ) × (kind_at kind (record { kind = Kind; at = 0 }) (record { left = fields; at = 1 }) ≡ Ok (e, record { left = []; at = after })) → event_of text ≡ Ok e
at_kind kind fields text e s h = ap event_of s ∙ whole kind fields e h

pub texts_read_back : TextsReadBack
unfolding kind_at
texts_read_back event.Null h = whole 0 [] event.Null (1, refl)
texts_read_back (event.Request r) h = at_kind 1 (r.caller ∷ (u32_text r.number ++ (u32_text r.low ++ sized_text r.body))) (event_text (event.Request r)) (event.Request r) (ap (λ t. 1 ∷ r.caller ∷ t) (append_assoc (u32_text r.number) (u32_text r.low) (sized_text r.body))) (request_forth r 1 h)
texts_read_back (event.Reply r) h = at_kind 2 (r.called ∷ (u32_text r.number ++ sized_text r.body)) (event_text (event.Reply r)) (event.Reply r) refl (reply_forth r 1 h)
texts_read_back (event.Abort a) h = at_kind 3 (a.called ∷ (u32_text a.number ++ [])) (event_text (event.Abort a)) (event.Abort a) (ap (λ t. 3 ∷ a.called ∷ t) (sym (append-nil (u32_text a.number)))) (abort_forth a 1 h)
texts_read_back (event.Clock c) h = at_kind 4 (u32_text c.ask ++ (length c.readings ∷ flat_map reading_text c.readings)) (event_text (event.Clock c)) (event.Clock c) (ap (λ t. 4 ∷ t) (append_assoc (u32_text c.ask) (length c.readings ∷ []) (flat_map reading_text c.readings))) (clock_forth c 1 h)
texts_read_back (event.Random c) h = at_kind 5 (u32_text c.ask ++ (length c.shares ∷ flat_map share_text c.shares)) (event_text (event.Random c)) (event.Random c) (ap (λ t. 5 ∷ t) (append_assoc (u32_text c.ask) (length c.shares ∷ []) (flat_map share_text c.shares))) (random_forth c 1 h)

ok_same : (e f : Event) → ◌≡◌ {A = Result Event FieldFault} (Ok e) (Ok f) → e ≡ f
ok_same e f h = cc

pub texts_differ : TextsDiffer
texts_differ e f h k same = let one : ◌≡◌ {A = Result Event FieldFault} (Ok e) (Ok f) = sym (texts_read_back e h) ∙ (ap event_of same ∙ texts_read_back f k) in ok_same e f one
