-- The bytes of a request both ways: they are read as the request, and what is read as it is its bytes.
use Rattle.std.proofs.Common.{◌≡◌, ℕ, suc, ◌^◌, ◌<◌, ◌≤◌, ◌==◌, Bool, true, cond, ◌&&◌, List, [], ◌∷◌, ◌++◌, length, Some, None, refl, sym, subst, ◌∙◌, ap, arith, append_assoc, codes, leb}
use Rattle.std.proofs.lemmas.Bool.{and_parts, and_from, le-leb, leb-true, eqb-true}
use Rattle.std.proofs.lemmas.List.{nil_from_length, append-nil}
use Rattle.std.proofs.lemmas.Option.{cond_some}
use Rattle.hex.specs.Hex.{IsBytes, encode_lower}
use Rattle.pws_base.specs.Cursors.{u8_at, u32_at, bytes_at}
use Rattle.pws_base.specs.Texts.{u32_text, sized_text}
use Rattle.pws_event.specs.Requests.{RequestFields, IsRequest}
use Rattle.pws_sched.specs.FirstForm.{after, in_range, request_of, said_by}
use Rattle.pws_sched.specs.Hexadecimal.{lower_hex}
use Rattle.pws_sched.specs.Spelled.{IsSayable, content_text}
use Rattle.pws_sched.proofs.Fronts.{IsBytes-cons, IsBytes-append, IsBytes-u32_text, bind_some, bytes_at-front, bytes_at-read, u8_at-front, u8_at-read, u32_at-front, u32_at-read, after-front, after-read}
use Rattle.pws_sched.proofs.LowerHex.{lower_hex-encode_lower, encode_lower-lower_hex}

-- ---- the ranges

-- the fields are in range, as the test finds it
record InRange (number low size : ℕ) : Type 0 where
  number_from : 1 ≤ number
  number_to : number ≤ 1000000
  low_from : 1 ≤ low
  low_to : low ≤ 1000000
  size_to : size ≤ 32768

InRange-from_test : (number low size : ℕ) → in_range number low size ≡ true → InRange number low size
InRange-from_test number low size h =
    let a = and_parts (leb 1 number && leb number 1000000 && leb 1 low && leb low 1000000) (leb size 32768) h in
    let b = and_parts (leb 1 number && leb number 1000000 && leb 1 low) (leb low 1000000) a.0 in
    let c = and_parts (leb 1 number && leb number 1000000) (leb 1 low) b.0 in
    let d = and_parts (leb 1 number) (leb number 1000000) c.0 in
    record {
      number_from = leb-true _ _ d.0;
      number_to = leb-true _ _ d.1;
      low_from = leb-true _ _ c.1;
      low_to = leb-true _ _ b.1;
      size_to = leb-true _ _ a.1;
    }

test_from_IsRequest : (r : RequestFields) → IsRequest r → in_range r.number r.low (length r.body) ≡ true
test_from_IsRequest r h =
    let a = le-leb 1 r.number h.number_from in
    let b = le-leb r.number 1000000 h.number_to in
    let c = le-leb 1 r.low h.low_from in
    let d = le-leb r.low 1000000 h.low_to in
    let e = le-leb (length r.body) 32768 h.body in
    and_from _ _ (and_from _ _ (and_from _ _ (and_from _ _ a b) c) d) e

-- ---- the bytes

nested : (number low sized : List ℕ) → 1 ∷ number ++ low ++ sized ≡ 1 ∷ (number ++ (low ++ sized))
nested number low sized = ap (λ rest. 1 ∷ rest) (append_assoc number low sized)

content_text_nested : (r : RequestFields) → content_text r ≡ 1 ∷ (u32_text r.number ++ (u32_text r.low ++ sized_text r.body))
content_text_nested r = nested (u32_text r.number) (u32_text r.low) (sized_text r.body)

pub IsBytes-content_text : (r : RequestFields) → IsSayable r → IsBytes (content_text r)
IsBytes-content_text r h =
    let size = IsBytes-append (u32_text (length r.body)) r.body (IsBytes-u32_text (length r.body)) h.body in
    let low = IsBytes-append (u32_text r.low) (sized_text r.body) (IsBytes-u32_text r.low) size in
    let number = IsBytes-append (u32_text r.number) (u32_text r.low ++ sized_text r.body) (IsBytes-u32_text r.number) low in
    subst IsBytes (sym (content_text_nested r)) (IsBytes-cons 1 (u32_text r.number ++ (u32_text r.low ++ sized_text r.body)) (omega arith) number)

request_of_steps : (bytes b1 b2 b3 b4 body : List ℕ) (number low size : ℕ) → u8_at bytes ≡ Some (1, b1) → u32_at b1 ≡ Some (number, b2) → u32_at b2 ≡ Some (low, b3) → u32_at b3 ≡ Some (size, b4) → bytes_at size b4 ≡ Some (body, []) → in_range number low size ≡ true → request_of bytes ≡ Some (record { caller = 0; number = number; low = low; body = body })
request_of_steps bytes b1 b2 b3 b4 body number low size h1 h2 h3 h4 h5 h6 = rw (h1, h2, h3, h4, h5, h6) refl

-- the bytes of a request are read as it
pub request_of-content_text : (r : RequestFields) → IsSayable r → request_of (content_text r) ≡ Some r
request_of-content_text r h =
    let ranges = h.in_range in
    let number_fits : r.number < 2 ^ 32 = omega arith in
    let low_fits : r.low < 2 ^ 32 = omega arith in
    let size_fits : length r.body < 2 ^ 32 = omega arith in
    let body : bytes_at (length r.body) r.body ≡ Some (r.body, []) =
    rw (append-nil r.body) at (bytes_at-front r.body [] (length r.body) refl) in
    let same : ◌≡◌ {A = RequestFields} (record { caller = 0; number = r.number; low = r.low; body = r.body }) r = rw (← h.caller) refl in
    let read = request_of_steps (1 ∷ (u32_text r.number ++ (u32_text r.low ++ sized_text r.body))) (u32_text r.number ++ (u32_text r.low ++ sized_text r.body)) (u32_text r.low ++ sized_text r.body) (sized_text r.body) r.body r.body r.number r.low (length r.body)
    (u8_at-front 1 (u32_text r.number ++ (u32_text r.low ++ sized_text r.body)))
    (u32_at-front r.number (u32_text r.low ++ sized_text r.body) number_fits)
    (u32_at-front r.low (sized_text r.body) low_fits)
    (u32_at-front (length r.body) r.body size_fits)
    body (test_from_IsRequest r h.in_range) in
    ap request_of (content_text_nested r) ∙ (read ∙ ap Some same)

module _ (bytes : List ℕ) (kind number low size : ℕ × List ℕ) (body : List ℕ × List ℕ) where
  tested : Bool
  tested = kind.0 == 1 && in_range number.0 low.0 size.0 && length body.1 == 0

  found : RequestFields
  found = record { caller = 0; number = number.0; low = low.0; body = body.0 }

  tested_parts : tested ≡ true → (kind.0 ≡ 1) × InRange number.0 low.0 size.0 × (body.1 ≡ [])
  unfolding tested
  tested_parts h =
      let a = and_parts (kind.0 == 1 && in_range number.0 low.0 size.0) (length body.1 == 0) h in
      let b = and_parts (kind.0 == 1) (in_range number.0 low.0 size.0) a.0 in
      (eqb-true kind.0 1 b.0, InRange-from_test number.0 low.0 size.0 b.1, nil_from_length body.1 (eqb-true (length body.1) 0 a.1))

  found_bytes : IsBytes bytes → u8_at bytes ≡ Some kind → u32_at kind.1 ≡ Some number → u32_at number.1 ≡ Some low → u32_at low.1 ≡ Some size → bytes_at size.0 size.1 ≡ Some body → tested ≡ true → (bytes ≡ content_text found) × IsSayable found
  unfolding found
  found_bytes fits h1 h2 h3 h4 h5 t =
      let parts = tested_parts t in
      let s1 = u8_at-read bytes kind h1 in
      let f1 : IsBytes kind.1 = (λ i. subst IsBytes s1 fits (suc i)) in
      let s2 = u32_at-read kind.1 number f1 h2 in
      let s3 = u32_at-read number.1 low s2.1 h3 in
      let s4 = u32_at-read low.1 size s3.1 h4 in
      let s5 = bytes_at-read size.0 size.1 body h5 in
      let last : size.1 ≡ body.0 = s5.whole ∙ (ap (λ rest. body.0 ++ rest) parts.2 ∙ append-nil body.0) in
      let body_bytes : IsBytes body.0 = subst IsBytes last s4.1 in
      let sized : low.1 ≡ sized_text body.0 = s4.0 ∙ (ap (λ rest. u32_text size.0 ++ rest) last ∙ ap (λ n. u32_text n ++ body.0) (sym s5.size)) in
      let after_number : number.1 ≡ u32_text low.0 ++ sized_text body.0 = s3.0 ∙ ap (λ rest. u32_text low.0 ++ rest) sized in
      let after_kind : kind.1 ≡ u32_text number.0 ++ (u32_text low.0 ++ sized_text body.0) = s2.0 ∙ ap (λ rest. u32_text number.0 ++ rest) after_number in
      let whole : bytes ≡ 1 ∷ (u32_text number.0 ++ (u32_text low.0 ++ sized_text body.0)) = s1 ∙ (ap (λ k. k ∷ kind.1) parts.0 ∙ ap (λ rest. 1 ∷ rest) after_kind) in
      let ranges = parts.1 in
      let length_to : length body.0 ≤ 32768 = omega (arith, s5.size, ranges.size_to) in (
        whole ∙ sym (nested (u32_text number.0) (u32_text low.0) (sized_text body.0)),
        record {
          caller = refl;
          in_range = record {
            caller = omega arith;
            number_from = ranges.number_from;
            number_to = ranges.number_to;
            low_from = ranges.low_from;
            low_to = ranges.low_to;
            body = length_to;
          };
          body = body_bytes;
        },
      )

  content_from_steps : (r : RequestFields) → IsBytes bytes → u8_at bytes ≡ Some kind → u32_at kind.1 ≡ Some number → u32_at number.1 ≡ Some low → u32_at low.1 ≡ Some size → bytes_at size.0 size.1 ≡ Some body → cond tested (Some found) None ≡ Some r → (bytes ≡ content_text r) × IsSayable r
  content_from_steps r fits h1 h2 h3 h4 h5 h =
      let test = cond_some tested found r h in
      subst (λ (q : RequestFields). (bytes ≡ content_text q) × IsSayable q) test.1 (found_bytes fits h1 h2 h3 h4 h5 test.0)

-- what is read as a request is its bytes
pub content_text-request_of : (bytes : List ℕ) (r : RequestFields) → IsBytes bytes → request_of bytes ≡ Some r → (bytes ≡ content_text r) × IsSayable r
unfolding tested found
content_text-request_of bytes r fits h =
    let p0 = bind_some (u8_at bytes) _ r h in
    let p1 = bind_some (u32_at p0.0.1) _ r p0.2 in
    let p2 = bind_some (u32_at p1.0.1) _ r p1.2 in
    let p3 = bind_some (u32_at p2.0.1) _ r p2.2 in
    let p4 = bind_some (bytes_at p3.0.0 p3.0.1) _ r p3.2 in
    content_from_steps bytes p0.0 p1.0 p2.0 p3.0 p4.0 r fits p0.1 p1.1 p2.1 p3.1 p4.1 p4.2

-- ---- the line

abbrev pub said_text : RequestFields → List ℕ
said_text r = codes "say 0.0 1.0 " ++ encode_lower (content_text r)

said_by_steps : (line digits bytes : List ℕ) (r : RequestFields) → after (codes "say 0.0 1.0 ") line ≡ Some digits → lower_hex digits ≡ Some bytes → request_of bytes ≡ Some r → said_by line ≡ Some r
said_by_steps line digits bytes r h1 h2 h3 = rw (h1, h2) h3

-- a line that says a request is read as it
pub said_by-said_text : (r : RequestFields) → IsSayable r → said_by (said_text r) ≡ Some r
said_by-said_text r h =
    said_by_steps (said_text r) (encode_lower (content_text r)) (content_text r) r
    (after-front (codes "say 0.0 1.0 ") (encode_lower (content_text r)))
    (lower_hex-encode_lower (content_text r) (IsBytes-content_text r h))
    (request_of-content_text r h)

-- what is read as a request is the line that says it
pub said_text-said_by : (line : List ℕ) (r : RequestFields) → said_by line ≡ Some r → (line ≡ said_text r) × IsSayable r
said_text-said_by line r h =
    let p0 = bind_some (after (codes "say 0.0 1.0 ") line) _ r h in
    let p1 = bind_some (lower_hex p0.0) _ r p0.2 in
    let digits = encode_lower-lower_hex p0.0 p1.0 p1.1 in
    let content = content_text-request_of p1.0 r digits.1 p1.2 in
    let here : encode_lower (content_text r) ≡ p0.0 = ap encode_lower (sym content.0) ∙ digits.0 in
    (after-read (codes "say 0.0 1.0 ") line p0.0 p0.1 ∙ ap (λ rest. codes "say 0.0 1.0 " ++ rest) (sym here), content.1)
