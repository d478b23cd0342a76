-- The stream of frames as its bytes come.
use Rattle.std.proofs.Common.{◌≡◌, ◌⊎◌, inl, inr, ℕ, zero, suc, ◌+◌, ◌-◌, ◌<◌, ◌≤◌, ◌^◌, List, [], ◌∷◌, ◌++◌, length, take, drop, replicate, refl, sym, ◌∙◌, ap, subst, arith, length-append, append_assoc, All, false, Option, None, Some}
use Rattle.std.proofs.lemmas.List.{length-replicate, append-nil, length-take-le, length-drop, take-append-drop, take_rest}
use Rattle.std.proofs.Math.Seq.{take-add}
use Rattle.std.proofs.lemmas.List.Elements.{All-append, All-nil, All-push}
use Rattle.std.proofs.lemmas.Grind.{common_steps, flat_map-append}
use Rattle.pws_base.specs.Texts.{u32_text, sized_text}
use Rattle.pws_msg.specs.Frames.{IsFramed, frame_text, frames_text, BeginsFrame, IsRest, IsStream, IsBadSize, BreaksWith, IsBroken}
use Rattle.pws_msg.specs.Begun.{IsBegun}
use Rattle.pws_msg.specs.Pieces.{StepsTo, CutsAt}
use Rattle.pws_msg.specs.Deframing.{Deframing, HasRead, IsRead}
use Rattle.pws_msg.specs.declared.frames.Step.{Step}
use Rattle.pws_msg.specs.declared.frames.Step.TheVariants as step

pub length-u32_text : (n : ℕ) → length (u32_text n) ≡ 4
unfolding u32_text
length-u32_text n = refl

pub length-frame_text : (packet : List ℕ) → length (frame_text packet) ≡ 4 + length packet
length-frame_text packet = length-append (u32_text (length packet)) packet ∙ ap (λ n. n + length packet) (length-u32_text (length packet))

-- what is kept is a rest
pub rest_of_begun : (head : List ℕ) (size : ℕ) (packet : List ℕ) → IsBegun head size packet → IsRest (head ++ packet)
rest_of_begun head zero packet h = inl (rw ((h.unknown refl).1, append-nil) (h.unknown refl).0)
rest_of_begun head (suc n) packet h =
    let k = h.known (omega arith) in
    let more : List ℕ = replicate (suc n - length packet) 0 in
    let size : length (packet ++ more) ≡ suc n = length-append packet more ∙ (ap (λ k. length packet + k) (length-replicate (suc n - length packet) 0) ∙ omega (arith, k)) in
    inr (
      packet ++ more,
      more,
      record {
        framed = record { some = omega (arith, size); few = omega (arith, size, k) };
        some = omega (arith, length-replicate {A = ℕ} (suc n - length packet) 0, k);
        text = rw (k.1, size, append_assoc) refl;
      },
    )

-- a rest is shorter than a frame
pub length_rest : (rest : List ℕ) → IsRest rest → length rest < 98308
length_rest rest (inl h) = omega arith
length_rest rest (inr (packet, more, b)) = omega (arith, b.framed.few, b.some, length-frame_text packet, length-append rest more, ap length b.text)

pub stream_begins : (rest : List ℕ) → IsRest rest → IsStream rest [] rest
stream_begins rest h = record { framed = All-nil IsFramed; begun = h; text = refl }

-- a stream goes on as its rest does
pub stream_on : (bytes : List ℕ) (packets : List (List ℕ)) (rest next : List ℕ) (more : List (List ℕ)) (last : List ℕ) → IsStream bytes packets rest → IsStream (rest ++ next) more last → IsStream (bytes ++ next) (packets ++ more) last
stream_on bytes packets rest next more last h k =
    record {
      framed = All-append IsFramed packets more h.framed k.framed;
      begun = k.begun;
      text = rw (h.text, append_assoc, k.text, ← append_assoc, flat_map-append frame_text packets more) refl;
    }

pub broken_on : (bytes : List ℕ) (packets : List (List ℕ)) (rest next : List ℕ) (more : List (List ℕ)) (at : ℕ) → IsStream bytes packets rest → IsBroken (rest ++ next) more at → IsBroken (bytes ++ next) (packets ++ more) (length bytes - length rest + at)
broken_on bytes packets rest next more at h (size, left, k) = (
  size,
  left,
  record {
    framed = All-append IsFramed packets more h.framed k.framed;
    place = rw (flat_map-append frame_text packets more) (omega (arith, ap length h.text, length-append (frames_text packets) rest, k.place, length-append (frames_text packets) (frames_text more)));
    wrong = k.wrong;
    text = rw (h.text, append_assoc, k.text, ← append_assoc, flat_map-append frame_text packets more) refl;
  },
)

-- where fewer than four bytes are kept, their field isn't whole
pub unknown_is : (head : List ℕ) (size : ℕ) (packet value : List ℕ) → IsBegun head size packet → head ++ packet ≡ value → length value < 4 → (size ≡ 0) × (packet ≡ []) × (value ≡ head)
unknown_is head zero packet value h e l = (refl, (h.unknown refl).1, sym e ∙ (ap (λ p. head ++ p) (h.unknown refl).1 ∙ append-nil head))
unknown_is head (suc n) packet value h e l = absurd (omega (arith, (h.known (omega arith)).1, length-append head packet, ap length e, ap length (h.known (omega arith)).1, length-u32_text (suc n)))

-- where four or more are kept, it is
pub known_is : (head : List ℕ) (size : ℕ) (packet value : List ℕ) → IsBegun head size packet → head ++ packet ≡ value → 4 ≤ length value → 1 ≤ size
known_is head zero packet value h e l = absurd (omega (arith, (h.unknown refl).0, length-append head packet, ap length e, ap length (h.unknown refl).1))
known_is head (suc n) packet value h e l = omega arith

pub begun_head : (head : List ℕ) (size : ℕ) (packet : List ℕ) → size ≡ 0 → packet ≡ [] → length head < 4 → IsBegun head size packet
begun_head head size packet s p l = record { unknown = λ _. (l, p); known = λ k. absurd (omega arith) }

pub begun_packet : (head : List ℕ) (size : ℕ) (packet : List ℕ) → 1 ≤ size → size ≤ 98304 → head ≡ u32_text size → length packet < size → IsBegun head size packet
begun_packet head size packet some few e l = record { unknown = λ k. absurd (omega arith); known = λ _. (few, e, l) }

-- the length of no frame, after the frames so far
pub bad_here : (size : ℕ) → IsBadSize size → IsBroken (u32_text size) [] 0
bad_here size h = (size, [], record { framed = All-nil IsFramed; place = refl; wrong = h; text = sym (append-nil (u32_text size)) })

-- a whole frame alone
pub frame_here : (packet : List ℕ) → IsFramed packet → IsStream (frame_text packet) (packet ∷ []) []
frame_here packet h = record { framed = All-push IsFramed [] packet (All-nil IsFramed) h; begun = inl (omega arith); text = rw (append-nil, append-nil) refl }

-- more bytes after a stream: still a rest, a whole frame, or the length of no frame
pub stream_more : (bytes : List ℕ) (packets : List (List ℕ)) (rest next : List ℕ) → IsStream bytes packets rest → IsRest (rest ++ next) → IsStream (bytes ++ next) packets (rest ++ next)
stream_more bytes packets rest next h k = rw (← append-nil packets) (stream_on bytes packets rest next [] (rest ++ next) h (stream_begins (rest ++ next) k))

pub stream_whole : (bytes : List ℕ) (packets : List (List ℕ)) (rest next packet : List ℕ) → IsStream bytes packets rest → IsFramed packet → rest ++ next ≡ frame_text packet → IsStream (bytes ++ next) (packets ++ packet ∷ []) []
stream_whole bytes packets rest next packet h f e = stream_on bytes packets rest next (packet ∷ []) [] h (subst (λ (xs : List ℕ). IsStream xs (packet ∷ []) []) (sym e) (frame_here packet f))

pub stream_bad : (bytes : List ℕ) (packets : List (List ℕ)) (rest next : List ℕ) (size : ℕ) → IsStream bytes packets rest → IsBadSize size → rest ++ next ≡ u32_text size → IsBroken (bytes ++ next) packets (length bytes + length next - 4)
stream_bad bytes packets rest next size h b e =
    let k : IsBroken (bytes ++ next) (packets ++ []) (length bytes - length rest + 0) = broken_on bytes packets rest next [] 0 h (subst (λ (xs : List ℕ). IsBroken xs [] 0) (sym e) (bad_here size b)) in
    let p : packets ++ [] ≡ packets = append-nil packets in
    let short : length rest ≤ length bytes = omega (arith, ap length h.text, length-append (frames_text packets) rest) in
    let n : length bytes - length rest + 0 ≡ length bytes + length next - 4 = omega (arith, short, ap length e, length-append rest next, length-u32_text size) in
    rw (p, n) at k

-- a stream that is broken stays broken
pub broken_stays : (bytes next : List ℕ) (packets : List (List ℕ)) (at : ℕ) → IsBroken bytes packets at → IsBroken (bytes ++ next) packets at
broken_stays bytes next packets at (size, more, k) = (size, more ++ next, record { framed = k.framed; place = k.place; wrong = k.wrong; text = rw (k.text, append_assoc, append_assoc) refl })

-- more bytes of a length field
pub head_more : (head : List ℕ) (size : ℕ) (packet value next part : List ℕ) → IsBegun head size packet → head ++ packet ≡ value → length value < 4 → next ≡ head ++ part → (next ++ packet ≡ value ++ part) × (value ++ part ≡ next)
head_more head size packet value next part h e l n =
    let k = unknown_is head size packet value h e l in
    (rw (k.1, append-nil, n, k.2) refl, rw (n, k.2) refl)

-- more bytes of a packet
pub packet_more : (head : List ℕ) (packet value next part : List ℕ) → head ++ packet ≡ value → next ≡ packet ++ part → head ++ next ≡ value ++ part
packet_more head packet value next part e n = rw (n, ← e, append_assoc) refl

-- the bytes taken so far and the next ones
pub taken_more : (before piece : List ℕ) (at count : ℕ) → (before ++ take at piece) ++ take count (drop at piece) ≡ before ++ take (at + count) piece
taken_more before piece at count = append_assoc before (take at piece) (take count (drop at piece)) ∙ ap (λ xs. before ++ xs) (sym (take-add at count piece))

-- one step more of a piece
pub step_more : (before piece rest : List ℕ) (packets : List (List ℕ)) (at count : ℕ) (new : List ℕ) → IsStream (before ++ take at piece) packets rest → StepsTo step.More (rest ++ take count (drop at piece)) new → IsStream (before ++ take (at + count) piece) packets new
step_more before piece rest packets at count new h k =
    let whole : IsStream ((before ++ take at piece) ++ take count (drop at piece)) packets (rest ++ take count (drop at piece)) = stream_more (before ++ take at piece) packets rest (take count (drop at piece)) h k.1 in
    let P : List ℕ → List ℕ → Type 0 = λ xs r. IsStream xs packets r in
    subst (λ (xs : List ℕ). P xs new) (taken_more before piece at count) (subst (λ (r : List ℕ). P ((before ++ take at piece) ++ take count (drop at piece)) r) (sym k.0) whole)

pub step_whole : (before piece rest : List ℕ) (packets : List (List ℕ)) (at count : ℕ) (packet new : List ℕ) → IsStream (before ++ take at piece) packets rest → StepsTo (step.Whole packet) (rest ++ take count (drop at piece)) new → IsStream (before ++ take (at + count) piece) (packets ++ packet ∷ []) new
step_whole before piece rest packets at count packet new h k =
    let whole : IsStream ((before ++ take at piece) ++ take count (drop at piece)) (packets ++ packet ∷ []) [] = stream_whole (before ++ take at piece) packets rest (take count (drop at piece)) packet h k.0 k.1 in
    let P : List ℕ → List ℕ → Type 0 = λ xs r. IsStream xs (packets ++ packet ∷ []) r in
    subst (λ (xs : List ℕ). P xs new) (taken_more before piece at count) (subst (λ (r : List ℕ). P ((before ++ take at piece) ++ take count (drop at piece)) r) (sym k.2) whole)

pub step_bad : (before piece rest : List ℕ) (packets : List (List ℕ)) (at count : ℕ) (new : List ℕ) → IsStream (before ++ take at piece) packets rest → at + count ≤ length piece → StepsTo step.Bad (rest ++ take count (drop at piece)) new → (at + count ≤ length piece) × (4 ≤ length before + (at + count)) × IsBroken (before ++ piece) packets (length before + (at + count) - 4)
step_bad before piece rest packets at count new h fits (size, b, e) =
    let here : IsBroken ((before ++ take at piece) ++ take count (drop at piece)) packets (length (before ++ take at piece) + length (take count (drop at piece)) - 4) = stream_bad (before ++ take at piece) packets rest (take count (drop at piece)) size h b e in
    let n : length (before ++ take at piece) + length (take count (drop at piece)) ≡ length before + (at + count) = omega (arith, length-append before (take at piece), length-take-le at piece (omega arith), length-take-le count (drop at piece) (omega (arith, length-drop at piece))) in
    let on : IsBroken (((before ++ take at piece) ++ take count (drop at piece)) ++ drop (at + count) piece) packets (length (before ++ take at piece) + length (take count (drop at piece)) - 4) = broken_stays _ (drop (at + count) piece) packets _ here in
    let whole : ((before ++ take at piece) ++ take count (drop at piece)) ++ drop (at + count) piece ≡ before ++ piece = ap (λ xs. xs ++ drop (at + count) piece) (taken_more before piece at count) ∙ (append_assoc before (take (at + count) piece) (drop (at + count) piece) ∙ ap (λ xs. before ++ xs) (take-append-drop (at + count) piece)) in
    let four : 4 ≤ length before + (at + count) = omega (arith, n, ap length h.text, ap length e, length-u32_text size, length-append (frames_text packets) rest, length-append rest (take count (drop at piece))) in
    (fits, four, rw (whole, n) at on)

-- a piece after all bytes fed before, which leaves no whole frame
pub fed_whole : (d : Deframing) (bytes : List ℕ) (packets : List (List ℕ)) (piece : List ℕ) (whole : List (List ℕ)) (rest : List ℕ) → HasRead d bytes packets → d.broken ≡ None → IsStream (d.rest ++ piece) whole rest → HasRead (record { rest = rest; fed = d.fed + length piece; broken = d.broken; stopped = false }) (bytes ++ piece) (packets ++ whole)
fed_whole d bytes packets piece whole rest h none k =
    let s : IsStream bytes packets d.rest = subst (λ (o : Option ℕ). IsRead o d.rest bytes packets) none h.read in
    record {
      fed = omega (arith, h.fed, length-append bytes piece);
      read = subst (λ (o : Option ℕ). IsRead o rest (bytes ++ piece) (packets ++ whole)) (sym none) (stream_on bytes packets d.rest piece whole rest s k);
    }

-- a piece in which a length ends that no frame has
pub fed_broken : (d : Deframing) (bytes : List ℕ) (packets : List (List ℕ)) (piece : List ℕ) (whole : List (List ℕ)) (rest : List ℕ) (end at : ℕ) → HasRead d bytes packets → d.broken ≡ None → CutsAt (Some end) d.rest piece whole rest → at ≡ d.fed + end - 4 → HasRead (record { rest = rest; fed = d.fed + length piece; broken = Some at; stopped = false }) (bytes ++ piece) (packets ++ whole)
fed_broken d bytes packets piece whole rest end at h none (fits, four, broken) e =
    let s : IsStream bytes packets d.rest = subst (λ (o : Option ℕ). IsRead o d.rest bytes packets) none h.read in
    let b : IsBroken (bytes ++ piece) (packets ++ whole) (length bytes - length d.rest + (length d.rest + end - 4)) = broken_on bytes packets d.rest piece whole (length d.rest + end - 4) s broken in
    let short : length d.rest ≤ length bytes = omega (arith, ap length s.text, length-append (frames_text packets) d.rest) in
    let n : length bytes - length d.rest + (length d.rest + end - 4) ≡ at = omega (arith, short, h.fed, four, e) in
    record { fed = omega (arith, h.fed, length-append bytes piece); read = rw n at b }

-- the bytes of a piece from a place on
pub steps_rest : (s : Step) (rest piece : List ℕ) (at count : ℕ) (new : List ℕ) → StepsTo s (rest ++ take count (take (length piece - at) (drop at piece))) new → StepsTo s (rest ++ take count (drop at piece)) new
steps_rest s rest piece at count new h = subst (λ (xs : List ℕ). StepsTo s (rest ++ take count xs) new) (take_rest piece at) h
