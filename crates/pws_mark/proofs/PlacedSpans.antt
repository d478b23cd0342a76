-- Where the comments and sections of content are: none before it, and none behind it.
use Rattle.std.proofs.Common.{◌≡◌, ℕ, ◌+◌, ◌<◌, ◌≤◌, nat_le, nat_lt, Bool, false, ◌&&◌, ◌||◌, List, ◌∷◌, ◌++◌, length, refl, ◌∙◌, arith, length-append}
use Rattle.std.specs.Prelude.{encode_utf8_all}
use Rattle.std.specs.List.{list_any}
use Rattle.std.proofs.lemmas.Bool.{and_left, and_right, or_from, lt-leb, le-ltb}
use Rattle.std.proofs.lemmas.List.Folds.{list_any-append}
use Rattle.pws_mark.specs.Documents.{Tag, Content, Nothing, Text, Section, Comment, Hollow, Element, spell_piece, spell_tag, spell_content, section_start, section_end, comment_start, comment_end}
use Rattle.pws_mark.specs.Faults.{open_length, close_length}
use Rattle.pws_mark.specs.Places.{spans}

abbrev pub is_in : ℕ → List (ℕ × ℕ) → Bool
is_in p all = list_any (λ s. nat_le s.0 p && nat_lt p s.1) all

pub in_both : (p : ℕ) (xs ys : List (ℕ × ℕ)) → is_in p (xs ++ ys) ≡ (is_in p xs || is_in p ys)
in_both p xs ys = list_any-append (λ s. nat_le s.0 p && nat_lt p s.1) xs ys

not_from : (a b p : ℕ) → p < a → (nat_le a p && nat_lt p b) ≡ false
not_from a b p h = and_left (nat_le a p) (nat_lt p b) (lt-leb a p h)

not_to : (a b p : ℕ) → b ≤ p → (nat_le a p && nat_lt p b) ≡ false
not_to a b p h = and_right (nat_le a p) (nat_lt p b) (le-ltb p b h)

pub size_of_element : (at : ℕ) (tag : Tag) (gap : List ℕ) (inner rest : Content) → at + open_length tag + (length (spell_content inner) + close_length tag gap) + length (spell_content rest) ≡ at + length (spell_content (Element tag inner gap rest))
size_of_element at tag gap inner rest =
    omega (arith, length-append (spell_tag tag) (62 ∷ (spell_content inner ++ 60 ∷ 47 ∷ (encode_utf8_all tag.name ++ (encode_utf8_all gap ++ 62 ∷ spell_content rest)))), length-append (spell_content inner) (60 ∷ 47 ∷ (encode_utf8_all tag.name ++ (encode_utf8_all gap ++ 62 ∷ spell_content rest))), length-append (encode_utf8_all tag.name) (encode_utf8_all gap ++ 62 ∷ spell_content rest), length-append (encode_utf8_all gap) (62 ∷ spell_content rest), length-append (encode_utf8_all tag.name) (encode_utf8_all gap))

pub size_of_hollow : (at : ℕ) (tag : Tag) (rest : Content) → at + (open_length tag + 1) + length (spell_content rest) ≡ at + length (spell_content (Hollow tag rest))
size_of_hollow at tag rest = omega (arith, length-append (spell_tag tag) (47 ∷ 62 ∷ spell_content rest))

pub size_of_section : (at : ℕ) (cs : List ℕ) (rest : Content) → at + length (section_start ++ (encode_utf8_all cs ++ section_end)) + length (spell_content rest) ≡ at + length (spell_content (Section cs rest))
unfolding section_start section_end
size_of_section at cs rest = omega (arith, length-append (encode_utf8_all cs) section_end, length-append (encode_utf8_all cs) (section_end ++ spell_content rest))

pub size_of_comment : (at : ℕ) (cs : List ℕ) (rest : Content) → at + length (comment_start ++ (encode_utf8_all cs ++ comment_end)) + length (spell_content rest) ≡ at + length (spell_content (Comment cs rest))
unfolding comment_start comment_end
size_of_comment at cs rest = omega (arith, length-append (encode_utf8_all cs) comment_end, length-append (encode_utf8_all cs) (comment_end ++ spell_content rest))

pub none_before : (c : Content) (at p : ℕ) → p ≤ at → is_in p (spans at c) ≡ false
unfolding section_start comment_start
none_before Nothing at p h = refl
none_before (Text piece rest) at p h = none_before rest (at + length (spell_piece piece)) p (omega arith)
none_before (Section cs rest) at p h =
    let end : ℕ = at + length (section_start ++ (encode_utf8_all cs ++ section_end)) in
    or_from (nat_le (at + length section_start) p && nat_lt p end) (is_in p (spans end rest)) (not_from (at + length section_start) end p (omega arith)) (none_before rest end p (omega arith))
none_before (Comment cs rest) at p h =
    let end : ℕ = at + length (comment_start ++ (encode_utf8_all cs ++ comment_end)) in
    or_from (nat_le (at + length comment_start) p && nat_lt p end) (is_in p (spans end rest)) (not_from (at + length comment_start) end p (omega arith)) (none_before rest end p (omega arith))
none_before (Hollow tag rest) at p h = none_before rest (at + (open_length tag + 1)) p (omega arith)
none_before (Element tag inner gap rest) at p h =
    let inner_at : ℕ = at + open_length tag in
    let end : ℕ = inner_at + (length (spell_content inner) + close_length tag gap) in
    in_both p (spans inner_at inner) (spans end rest) ∙ or_from (is_in p (spans inner_at inner)) (is_in p (spans end rest)) (none_before inner inner_at p (omega arith)) (none_before rest end p (omega arith))

pub none_behind : (c : Content) (at p : ℕ) → at + length (spell_content c) ≤ p → is_in p (spans at c) ≡ false
none_behind Nothing at p h = refl
none_behind (Text piece rest) at p h = none_behind rest (at + length (spell_piece piece)) p (omega (arith, h, length-append (spell_piece piece) (spell_content rest)))
none_behind (Section cs rest) at p h =
    let end : ℕ = at + length (section_start ++ (encode_utf8_all cs ++ section_end)) in
    or_from (nat_le (at + length section_start) p && nat_lt p end) (is_in p (spans end rest)) (not_to (at + length section_start) end p (omega (arith, h, size_of_section at cs rest))) (none_behind rest end p (omega (arith, h, size_of_section at cs rest)))
none_behind (Comment cs rest) at p h =
    let end : ℕ = at + length (comment_start ++ (encode_utf8_all cs ++ comment_end)) in
    or_from (nat_le (at + length comment_start) p && nat_lt p end) (is_in p (spans end rest)) (not_to (at + length comment_start) end p (omega (arith, h, size_of_comment at cs rest))) (none_behind rest end p (omega (arith, h, size_of_comment at cs rest)))
none_behind (Hollow tag rest) at p h = none_behind rest (at + (open_length tag + 1)) p (omega (arith, h, size_of_hollow at tag rest))
none_behind (Element tag inner gap rest) at p h =
    let inner_at : ℕ = at + open_length tag in
    let end : ℕ = inner_at + (length (spell_content inner) + close_length tag gap) in
    in_both p (spans inner_at inner) (spans end rest)
    ∙ or_from (is_in p (spans inner_at inner)) (is_in p (spans end rest)) (none_behind inner inner_at p (omega (arith, h, size_of_element at tag gap inner rest))) (none_behind rest end p (omega (arith, h, size_of_element at tag gap inner rest)))
