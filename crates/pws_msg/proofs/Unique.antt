-- Bytes are one stream.
use Rattle.std.proofs.Common.{◌≡◌, ◌⊎◌, inl, inr, ℕ, ◌+◌, ◌-◌, ◌<◌, ◌≤◌, ◌^◌, List, [], ◌∷◌, ◌++◌, length, take, drop, refl, sym, ◌∙◌, ap, arith, length-append, append_assoc, All}
use Rattle.std.specs.Int.{from_be_bytes, w32}
use Rattle.std.proofs.lemmas.List.{take_at, drop_at, append-nil}
use Rattle.std.proofs.lemmas.List.Elements.{All-head, All-tail}
use Rattle.std.proofs.lemmas.Nat.{from_be_bytes-to_be_bytes_4}
use Rattle.pws_base.specs.Texts.{u32_text}
use Rattle.pws_msg.specs.Frames.{IsFramed, frame_text, frames_text, BeginsFrame, IsRest, IsStream, IsBadSize, BreaksWith, IsBroken}
use Rattle.pws_msg.specs.Laws.{StreamsAreOne, BreaksAreOne, NoStreamIsBroken}
use Rattle.pws_msg.proofs.Streams.{length-u32_text, length-frame_text, broken_stays}

pub front_is : {X : Type 0} (a b x y : List X) → length a ≡ length b → a ++ x ≡ b ++ y → (a ≡ b) × (x ≡ y)
front_is a b x y l e =
    (sym (take_at a x (length a) refl) ∙ (ap (take (length a)) e ∙ take_at b y (length a) (sym l)), sym (drop_at a x (length a) refl) ∙ (ap (drop (length a)) e ∙ drop_at b y (length a) (sym l)))

pub from_u32_text : (n : ℕ) → n < 2 ^ 32 → from_be_bytes w32 (u32_text n) ≡ n
unfolding u32_text
from_u32_text n h = from_be_bytes-to_be_bytes_4 n h

-- a number of four bytes that stands in front
pub u32_front : (a b : ℕ) (x y : List ℕ) → a < 2 ^ 32 → b < 2 ^ 32 → u32_text a ++ x ≡ u32_text b ++ y → (a ≡ b) × (x ≡ y)
u32_front a b x y s t e =
    let f = front_is (u32_text a) (u32_text b) x y (length-u32_text a ∙ sym (length-u32_text b)) e in
    (sym (from_u32_text a s) ∙ (ap (from_be_bytes w32) f.0 ∙ from_u32_text b t), f.1)

-- a frame that stands in front
pub frame_front : (p q x y : List ℕ) → IsFramed p → IsFramed q → frame_text p ++ x ≡ frame_text q ++ y → (p ≡ q) × (x ≡ y)
frame_front p q x y h k e =
    let f : (length p ≡ length q) × (p ++ x ≡ q ++ y) = u32_front (length p) (length q) (p ++ x) (q ++ y) (omega (arith, h.few)) (omega (arith, k.few)) (sym (append_assoc (u32_text (length p)) p x) ∙ (e ∙ append_assoc (u32_text (length q)) q y)) in
    front_is p q x y f.0 f.1

-- no whole frame stands in front
abbrev pub EndsHere : List ℕ → Type 0
EndsHere xs = (packet more : List ℕ) → IsFramed packet → xs ≡ frame_text packet ++ more → ⊥

-- what follows the frames that stand in front
pub frames_front : (packets others : List (List ℕ)) (x y : List ℕ) → All IsFramed packets → All IsFramed others → EndsHere x → EndsHere y → frames_text packets ++ x ≡ frames_text others ++ y → (packets ≡ others) × (x ≡ y)
frames_front [] [] x y h k s t e = (refl, e)
frames_front [] (q ∷ qs) x y h k s t e = absurd (s q (frames_text qs ++ y) (All-head IsFramed q qs k) (e ∙ append_assoc (frame_text q) (frames_text qs) y))
frames_front (p ∷ ps) [] x y h k s t e = absurd (t p (frames_text ps ++ x) (All-head IsFramed p ps h) (sym e ∙ append_assoc (frame_text p) (frames_text ps) x))
frames_front (p ∷ ps) (q ∷ qs) x y h k s t e =
    let f = frame_front p q (frames_text ps ++ x) (frames_text qs ++ y) (All-head IsFramed p ps h) (All-head IsFramed q qs k) (sym (append_assoc (frame_text p) (frames_text ps) x) ∙ (e ∙ append_assoc (frame_text q) (frames_text qs) y)) in
    let g = frames_front ps qs x y (All-tail IsFramed p ps h) (All-tail IsFramed q qs k) s t f.1 in
    (cc, g.1)

pub rest_ends : (rest : List ℕ) → IsRest rest → EndsHere rest
rest_ends rest (inl h) = λ packet more f e. omega (arith, ap length e, length-append (frame_text packet) more, length-frame_text packet)
rest_ends rest (inr (q, m, b)) = λ packet more f e.
    let same : frame_text packet ++ (more ++ m) ≡ frame_text q ++ [] = sym (append_assoc (frame_text packet) more m) ∙ (ap (λ xs. xs ++ m) (sym e) ∙ (b.text ∙ sym (append-nil (frame_text q)))) in
    let none : more ++ m ≡ [] = (frame_front packet q (more ++ m) [] f b.framed same).1 in
    omega (arith, b.some, ap length none, length-append more m)

pub bad_ends : (size : ℕ) (left : List ℕ) → IsBadSize size → EndsHere (u32_text size ++ left)
bad_ends size left h = λ packet more f e.
    let same : size ≡ length packet = (u32_front size (length packet) left (packet ++ more) h.field (omega (arith, f.few)) (e ∙ append_assoc (u32_text (length packet)) packet more)).0 in
    elim h.outside [ inl z ↦ omega (arith, f.some, same) | inr z ↦ omega (arith, f.few, same) ]

pub streams_are_one : StreamsAreOne
streams_are_one bytes packets others rest other h k = frames_front packets others rest other h.framed k.framed (rest_ends rest h.begun) (rest_ends other k.begun) (sym h.text ∙ k.text)

pub breaks_are_one : BreaksAreOne
breaks_are_one bytes packets others at other (size, more, h) (size', more', k) =
    let f = frames_front packets others (u32_text size ++ more) (u32_text size' ++ more') h.framed k.framed (bad_ends size more h.wrong) (bad_ends size' more' k.wrong) (sym h.text ∙ k.text) in
    (f.0, h.place ∙ (ap (λ ps. length (frames_text ps)) f.0 ∙ sym k.place))

-- a rest that begins with four bytes begins with the length of a frame
pub rest_is_not_bad : (rest : List ℕ) (size : ℕ) (left : List ℕ) → IsRest rest → IsBadSize size → rest ≡ u32_text size ++ left → ⊥
rest_is_not_bad rest size left (inl h) b e = omega (arith, ap length e, length-append (u32_text size) left, length-u32_text size)
rest_is_not_bad rest size left (inr (q, m, p)) b e =
    let same : size ≡ length q = (u32_front size (length q) (left ++ m) q b.field (omega (arith, p.framed.few)) (sym (append_assoc (u32_text size) left m) ∙ (ap (λ xs. xs ++ m) (sym e) ∙ p.text))).0 in
    elim b.outside [ inl z ↦ omega (arith, p.framed.some, same) | inr z ↦ omega (arith, p.framed.few, same) ]

pub no_stream_is_broken : NoStreamIsBroken
no_stream_is_broken bytes more packets others at rest h k =
    let (size, left, b) = broken_stays bytes more packets at h in
    let f = frames_front packets others (u32_text size ++ left) rest b.framed k.framed (bad_ends size left b.wrong) (rest_ends rest k.begun) (sym b.text ∙ k.text) in
    rest_is_not_bad rest size left k.begun b.wrong (sym f.1)
