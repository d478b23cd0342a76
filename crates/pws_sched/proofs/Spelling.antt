-- The text of a schedule both ways: it is read as the requests that it says, and what is read as them is their text.
use Rattle.std.proofs.Common.{◌≡◌, ℕ, ◌<◌, true, false, cond, not, inl, inr, List, [], ◌∷◌, ◌++◌, length, map, Option, Some, None, refl, sym, subst, ◌∙◌, ap, arith, append_assoc, codes}
use Rattle.std.specs.List.{All, flat_map, join_with_byte, list_all}
use Rattle.std.specs.Option.{option_map}
use Rattle.std.specs.Str.{bytes_eq}
use Rattle.std.proofs.lemmas.Bool.{cases_Bool, eqb-true, not-true}
use Rattle.std.proofs.lemmas.List.{nil_from_length}
use Rattle.std.proofs.lemmas.List.Elements.{All-append, All-cons, All-head, All-nil, All-tail, All-weaker}
use Rattle.std.proofs.lemmas.List.Splits.{join_with_byte-slice_split, slice_split_at}
use Rattle.std.proofs.lemmas.List.Sums.{AllPass-from_list_all}
use Rattle.std.proofs.lemmas.Option.{cond_some}
use Rattle.std.proofs.lemmas.Slice.Eq.{bytes_eq-Decides}
use Rattle.hex.specs.Hex.{encode_lower}
use Rattle.pws_base.specs.Cursors.{bytes_at}
use Rattle.pws_event.specs.Requests.{RequestFields}
use Rattle.pws_sched.specs.FirstForm.{after, after_seed, first_form, is_last, is_line_feed, lines_of, moves_of, said_by, with_first}
use Rattle.pws_sched.specs.Hexadecimal.{is_lower_digit}
use Rattle.pws_sched.specs.Laws.{FirstFormIsSpelled}
use Rattle.pws_sched.specs.Spelled.{IsFirstForm, IsSayable, IsSeed, content_text, first_text, say_line}
use Rattle.pws_sched.proofs.Contents.{IsBytes-content_text, said_by-said_text, said_text, said_text-said_by}
use Rattle.pws_sched.proofs.Fronts.{after-front, after-read, bind_some, bytes_at-front, bytes_at-read}
use Rattle.pws_sched.proofs.LowerHex.{AllPass-encode_lower}
use Rattle.pws_sched.proofs.Moves.{moves_of_said}

-- ---- the requests are read from their lines

-- a byte that ends no line
abbrev stays : ℕ → Type 0
stays b = is_line_feed b ≡ false

digit_stays : (c : ℕ) → is_lower_digit c ≡ true → stays c
digit_stays c h = grind arith

All-stays-said_text : (r : RequestFields) → IsSayable r → All stays (said_text r)
All-stays-said_text r h =
    let front : All stays (codes "say 0.0 1.0 ") = All-weaker (λ b. not (is_line_feed b) ≡ true) stays (λ b k. not-true (is_line_feed b) k) (codes "say 0.0 1.0 ") (AllPass-from_list_all (λ b. not (is_line_feed b)) (codes "say 0.0 1.0 ") refl) in
    let digits = All-weaker (λ c. is_lower_digit c ≡ true) stays digit_stays (encode_lower (content_text r)) (AllPass-encode_lower (content_text r) (IsBytes-content_text r h)) in
    All-append stays (codes "say 0.0 1.0 ") (encode_lower (content_text r)) front digits

-- the moves of a schedule, each on its line, and the end
abbrev moves_text : List RequestFields → List ℕ
moves_text requests = flat_map say_line requests ++ codes "end\n"

moves_text-cons : (r : RequestFields) (rs : List RequestFields) → moves_text (r ∷ rs) ≡ said_text r ++ 10 ∷ moves_text rs
moves_text-cons r rs = append_assoc (say_line r) (flat_map say_line rs) (codes "end\n") ∙ append_assoc (said_text r) (codes "\n") (moves_text rs)

moves_of-moves_text : (requests : List RequestFields) → All IsSayable requests → moves_of (lines_of (moves_text requests)) ≡ Some requests
moves_of-moves_text [] h = refl
moves_of-moves_text (r ∷ rs) h =
    let here = All-head IsSayable r rs h in
    let cut : lines_of (moves_text (r ∷ rs)) ≡ said_text r ∷ lines_of (moves_text rs) =
    ap lines_of (moves_text-cons r rs) ∙ slice_split_at is_line_feed (said_text r) 10 (moves_text rs) (All-stays-said_text r here) refl in
    let rest = moves_of-moves_text rs (All-tail IsSayable r rs h) in
    ap moves_of cut ∙ (moves_of_said (said_text r) (lines_of (moves_text rs)) r refl (said_by-said_text r here) ∙ ap (λ o. option_map (λ more. r ∷ more) o) rest)

-- ---- what is read as requests is their lines

-- the lines of a schedule's moves, and the end of the text
abbrev moves_lines : List RequestFields → List (List ℕ)
moves_lines requests = map said_text requests ++ (codes "end" ∷ [] ∷ [])

-- the lines say these requests
record Say (lines : List (List ℕ)) (requests : List RequestFields) : Type 0 where
  are : lines ≡ moves_lines requests
  sayable : All IsSayable requests

is_last-true : (lines : List (List ℕ)) → is_last lines ≡ true → lines ≡ [] ∷ []
is_last-true [] h = cc h
is_last-true (line ∷ []) h = ap (λ l. l ∷ []) (nil_from_length line (eqb-true (length line) 0 h))
is_last-true (line ∷ other ∷ lines) h = cc h

option_map_some : (r : RequestFields) (o : Option (List RequestFields)) (requests : List RequestFields) → option_map (λ more. r ∷ more) o ≡ Some requests → (more : List RequestFields) × (o ≡ Some more) × (r ∷ more ≡ requests)
option_map_some r (Some more) requests h = (more, refl, cc h)
option_map_some r None requests h = cc h

with_first_some : (first : Option RequestFields) (rest : Option (List RequestFields)) (requests : List RequestFields) → with_first first rest ≡ Some requests → (r : RequestFields) × (more : List RequestFields) × (first ≡ Some r) × (rest ≡ Some more) × (r ∷ more ≡ requests)
with_first_some first rest requests h =
    let p0 = bind_some first _ requests h in
    let p1 = option_map_some p0.0 rest requests p0.2 in
    (p0.0, p1.0, p0.1, p1.1, p1.2)

Say-end : (line : List ℕ) (lines : List (List ℕ)) (requests : List RequestFields) → bytes_eq line (codes "end") ≡ true → cond (is_last lines) (Some []) None ≡ Some requests → Say (line ∷ lines) requests
Say-end line lines requests ends h =
    let got = cond_some (is_last lines) [] requests h in
    let here : line ≡ codes "end" = (bytes_eq-Decides line (codes "end")).0 ends in
    let all : line ∷ lines ≡ moves_lines [] = ap (λ l. l ∷ lines) here ∙ ap (λ ls. codes "end" ∷ ls) (is_last-true lines got.0) in
    subst (λ (rs : List RequestFields). Say (line ∷ lines) rs) got.1 (record { are = all; sayable = All-nil IsSayable })

Say-said : (line : List ℕ) (lines : List (List ℕ)) (requests : List RequestFields) → with_first (said_by line) (moves_of lines) ≡ Some requests → ((more : List RequestFields) → moves_of lines ≡ Some more → Say lines more) → Say (line ∷ lines) requests
Say-said line lines requests h rest =
    let got = with_first_some (said_by line) (moves_of lines) requests h in
    let said = said_text-said_by line got.0 got.2 in
    let others = rest got.1 got.3 in
    let all : line ∷ lines ≡ moves_lines (got.0 ∷ got.1) = ap (λ l. l ∷ lines) said.0 ∙ ap (λ ls. said_text got.0 ∷ ls) others.are in
    subst (λ (rs : List RequestFields). Say (line ∷ lines) rs) got.4 (record { are = all; sayable = All-cons IsSayable got.0 got.1 said.1 others.sayable })

Say-moves_of : (lines : List (List ℕ)) (requests : List RequestFields) → moves_of lines ≡ Some requests → Say lines requests
Say-moves_of [] requests h = cc h
Say-moves_of (line ∷ lines) requests h =
    elim (cases_Bool (bytes_eq line (codes "end"))) [
      | inl ends ↦ Say-end line lines requests ends (rw ends at h)
      | inr other ↦ Say-said line lines requests (rw other at h) (Say-moves_of lines)
    ]

join_more : (line : List ℕ) (lines : List (List ℕ)) → 0 < length lines → join_with_byte 10 (line ∷ lines) ≡ line ++ 10 ∷ join_with_byte 10 lines
join_more line [] some = absurd (omega arith)
join_more line (other ∷ lines) some = refl

some_lines : (requests : List RequestFields) → 0 < length (moves_lines requests)
some_lines [] = omega arith
some_lines (r ∷ rs) = omega arith

join-moves_lines : (requests : List RequestFields) → join_with_byte 10 (moves_lines requests) ≡ moves_text requests
join-moves_lines [] = refl
join-moves_lines (r ∷ rs) = join_more (said_text r) (moves_lines rs) (some_lines rs) ∙ (ap (λ rest. said_text r ++ 10 ∷ rest) (join-moves_lines rs) ∙ sym (moves_text-cons r rs))

moves_text-read : (text : List ℕ) (requests : List RequestFields) → moves_of (lines_of text) ≡ Some requests → (text ≡ moves_text requests) × All IsSayable requests
moves_text-read text requests h =
    let say = Say-moves_of (lines_of text) requests h in
    (sym (join_with_byte-slice_split 10 text) ∙ (ap (λ ls. join_with_byte 10 ls) say.are ∙ join-moves_lines requests), say.sayable)

-- ---- the seed

after_seed-front : (seed rest : List ℕ) → IsSeed seed → after_seed (seed ++ rest) ≡ Some rest
after_seed-front seed rest h =
    let digits = h.digits in
    rw (bytes_at-front seed rest 64 h.size, digits) refl

-- a seed that was read, before the rest
record SeedRead (text rest : List ℕ) : Type 0 where
  seed : List ℕ
  is_seed : IsSeed seed
  whole : text ≡ seed ++ rest

after_seed-read : (text rest : List ℕ) → after_seed text ≡ Some rest → SeedRead text rest
after_seed-read text rest h =
    let p0 = bind_some (bytes_at 64 text) _ rest h in
    let got = cond_some (list_all is_lower_digit p0.0.0) p0.0.1 rest p0.2 in
    let read = bytes_at-read 64 text p0.0 p0.1 in
    record {
      seed = p0.0.0;
      is_seed = record { size = read.size; digits = got.0 };
      whole = read.whole ∙ ap (λ r. p0.0.0 ++ r) got.1;
    }

-- ---- the whole text

nested : (a b c d e : List ℕ) → a ++ b ++ c ++ d ++ e ≡ a ++ (b ++ (c ++ (d ++ e)))
nested a b c d e = append_assoc (a ++ b ++ c) d e ∙ (append_assoc (a ++ b) c (d ++ e) ∙ append_assoc a b (c ++ (d ++ e)))

abbrev title : List ℕ
title = codes "pws-schedule 1\nseed "

abbrev groups : List ℕ
groups = codes "\ngroup 0 0\ngroup 1 0\nbad 0.0\nbegin\n"

first_text-nested : (seed : List ℕ) (requests : List RequestFields) → first_text seed requests ≡ title ++ (seed ++ (groups ++ moves_text requests))
first_text-nested seed requests = nested title seed groups (flat_map say_line requests) (codes "end\n")

first_form_steps : (text t1 t2 t3 : List ℕ) (requests : List RequestFields) → after title text ≡ Some t1 → after_seed t1 ≡ Some t2 → after groups t2 ≡ Some t3 → moves_of (lines_of t3) ≡ Some requests → first_form text ≡ Some requests
first_form_steps text t1 t2 t3 requests h1 h2 h3 h4 = rw (h1, h2, h3) h4

-- the text of requests is read as them
first_form-spelled : (text : List ℕ) (requests : List RequestFields) → IsFirstForm text requests → first_form text ≡ Some requests
first_form-spelled text requests h =
    ap first_form (h.spells ∙ first_text-nested h.seed requests)
    ∙ first_form_steps (title ++ (h.seed ++ (groups ++ moves_text requests))) (h.seed ++ (groups ++ moves_text requests)) (groups ++ moves_text requests) (moves_text requests) requests
    (after-front title (h.seed ++ (groups ++ moves_text requests)))
    (after_seed-front h.seed (groups ++ moves_text requests) h.is_seed)
    (after-front groups (moves_text requests))
    (moves_of-moves_text requests h.sayable)

-- what is read as requests is their text
spelled-first_form : (text : List ℕ) (requests : List RequestFields) → first_form text ≡ Some requests → IsFirstForm text requests
spelled-first_form text requests h =
    let p0 = bind_some (after title text) _ requests h in
    let p1 = bind_some (after_seed p0.0) _ requests p0.2 in
    let p2 = bind_some (after groups p1.0) _ requests p1.2 in
    let moves = moves_text-read p2.0 requests p2.2 in
    let seed = after_seed-read p0.0 p1.0 p1.1 in
    let behind : p1.0 ≡ groups ++ moves_text requests = after-read groups p1.0 p2.0 p2.1 ∙ ap (λ rest. groups ++ rest) moves.0 in
    let whole : text ≡ title ++ (seed.seed ++ (groups ++ moves_text requests)) =
    after-read title text p0.0 p0.1 ∙ ap (λ rest. title ++ rest) (seed.whole ∙ ap (λ rest. seed.seed ++ rest) behind) in
    record {
      seed = seed.seed;
      is_seed = seed.is_seed;
      sayable = moves.1;
      spells = whole ∙ sym (first_text-nested seed.seed requests);
    }

pub first_form_is_spelled : FirstFormIsSpelled
first_form_is_spelled text requests = (spelled-first_form text requests, first_form-spelled text requests)
