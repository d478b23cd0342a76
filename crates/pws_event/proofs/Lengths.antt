-- How long the text of an event is.
use Rattle.std.proofs.Common.{◌≡◌, ℕ, ◌+◌, ◌*◌, ◌≤◌, IsTrue, List, [], ◌∷◌, length, refl, arith, length-append, get_or, All}
use Rattle.std.specs.List.{flat_map}
use Rattle.std.proofs.Math.Nat.{mul-suc}
use Rattle.std.proofs.lemmas.Bool.Decides.{nat_tests}
use Rattle.std.proofs.lemmas.List.Elements.{All-head, All-tail}
use Rattle.pws_base.specs.Limits.{max_event}
use Rattle.pws_base.specs.Texts.{u32_text, u64_text}
use Rattle.pws_event.specs.Requests.{RequestFields}
use Rattle.pws_event.specs.Answers.{ReplyFields, AbortFields}
use Rattle.pws_event.specs.Readings.{ClockFields, RandomFields, IsRandom, is_count}
use Rattle.pws_event.specs.declared.readings.Reading.{Reading}
use Rattle.pws_event.specs.declared.events.Event.{Event}
use Rattle.pws_event.specs.declared.events.Event.TheVariants as event
use Rattle.pws_event.specs.Events.{event_text, request_text, reply_text, abort_text, clock_text, random_text, reading_text, share_text, IsEvent}

pub length-u32_text : (n : ℕ) → length (u32_text n) ≡ 4
unfolding u32_text
length-u32_text n = refl

pub length-u64_text : (n : ℕ) → length (u64_text n) ≡ 8
unfolding u64_text
length-u64_text n = refl

-- items that are each so long
rows_length : {A : Type 0} (f : A → List ℕ) (k : ℕ) (xs : List A) → All (λ x. length (f x) ≡ k) xs → length (flat_map f xs) ≡ k * length xs
rows_length f k [] h = omega arith
rows_length f k (x ∷ xs) h =
    let first : length (f x) ≡ k = All-head (λ x. length (f x) ≡ k) x xs h in
    let more : length (flat_map f xs) ≡ k * length xs = rows_length f k xs (All-tail (λ x. length (f x) ≡ k) x xs h) in
    omega (arith, first, more, length-append (f x) (flat_map f xs), mul-suc k (length xs))

reading_length : (r : Reading) → length (reading_text r) ≡ 9
reading_length r = omega (arith, length-append (r.index ∷ []) (u64_text r.ms), length-u64_text r.ms)

pub request_length : (r : RequestFields) → length (request_text r) ≡ 14 + length r.body
request_length r = simp (length-append, length-u32_text) (omega arith)

pub reply_length : (r : ReplyFields) → length (reply_text r) ≡ 10 + length r.body
reply_length r = simp (length-append, length-u32_text) (omega arith)

pub abort_length : (a : AbortFields) → length (abort_text a) ≡ 6
abort_length a = simp (length-append, length-u32_text) (omega arith)

pub clock_length : (c : ClockFields) → length (clock_text c) ≡ 6 + 9 * length c.readings
clock_length c =
    let rows : length (flat_map reading_text c.readings) ≡ 9 * length c.readings = rows_length reading_text 9 c.readings (λ i d l. reading_length (get_or c.readings i d)) in
    simp (length-append, length-u32_text) (omega (arith, rows))

pub random_length : (r : RandomFields) → IsRandom r → length (random_text r) ≡ 6 + 33 * length r.shares
random_length r h =
    let rows : length (flat_map share_text r.shares) ≡ 33 * length r.shares = rows_length share_text 33 r.shares (λ i d l. let k = h.sizes i d l in omega (arith, k)) in
    simp (length-append, length-u32_text) (omega (arith, rows))

count_few : (n : ℕ) → IsTrue (is_count n) → n ≤ 7
count_few n h = grind (arith, nat_tests)

-- at most 32,782 bytes
pub event_small : (e : Event) → IsEvent e → length (event_text e) ≤ max_event
event_small event.Null h = omega arith
event_small (event.Request r) h = omega (arith, request_length r, h.body)
event_small (event.Reply r) h = omega (arith, reply_length r, h.body)
event_small (event.Abort a) h = omega (arith, abort_length a)
event_small (event.Clock c) h = omega (arith, clock_length c, count_few (length c.readings) h.count)
event_small (event.Random r) h = omega (arith, random_length r h, count_few (length r.shares) h.count)
