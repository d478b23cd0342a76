-- Places in a text, and what stands there.
use Rattle.std.specs.Prelude.{ℕ, ◌+◌, Bool, ◌&&◌, ◌||◌, nat_le, nat_lt, List, [], ◌∷◌, ◌++◌, length, drop, codes, nat_eq, encode_utf8_all}
use Rattle.std.specs.List.{list_any, starts_with}
use Rattle.pws_mark.specs.Documents.{Content, Nothing, Text, Section, Comment, Hollow, Element, Document, spell_piece, spell_content, spell_head, spell_prolog, section_start, section_end, comment_start, comment_end, byte_order_mark}
use Rattle.pws_mark.specs.Faults.{open_length, close_length}

-- where the comments and CDATA sections of content are, each from behind what opens it to its end
abbrev pub spans : ℕ → Content → List (ℕ × ℕ)
spans at Nothing = []
spans at (Text piece rest) = spans (at + length (spell_piece piece)) rest
spans at (Section chars rest) =
    let end = at + length (section_start ++ (encode_utf8_all chars ++ section_end)) in
    (at + length section_start, end) ∷ spans end rest
spans at (Comment chars rest) =
    let end = at + length (comment_start ++ (encode_utf8_all chars ++ comment_end)) in
    (at + length comment_start, end) ∷ spans end rest
spans at (Hollow tag rest) = spans (at + (open_length tag + 1)) rest
spans at (Element tag inner gap rest) =
    let inner_at = at + open_length tag in
    spans inner_at inner ++ spans (inner_at + (length (spell_content inner) + close_length tag gap)) rest

-- whether a place is in one of them
abbrev pub is_inside : Document → ℕ → Bool
is_inside d at =
    let before = spans (length (spell_head d)) d.before in
    let root = spans (length (spell_prolog d)) d.root in
    let after = spans (length (spell_prolog d) + length (spell_content d.root)) d.after in
    list_any (λ s. nat_le s.0 at && nat_lt at s.1) (before ++ (root ++ after))

-- these bytes stand at this place
abbrev pub is_at : List ℕ → ℕ → List ℕ → Bool
is_at bytes at piece = starts_with nat_eq (drop at bytes) piece

-- an XML declaration begins, <?xml and white space, and before it stands nothing but a byte order mark
abbrev pub is_declared : List ℕ → ℕ → Bool
is_declared bytes at =
    (nat_eq at 0 || (nat_eq at 3 && is_at bytes 0 byte_order_mark))
    && (is_at bytes at (codes "<?xml ") || (is_at bytes at (codes "<?xml" ++ 9 ∷ []) || (is_at bytes at (codes "<?xml" ++ 10 ∷ []) || is_at bytes at (codes "<?xml" ++ 13 ∷ []))))
