-- A vote that is found is of a replica and in the window.
use Rattle.std.proofs.Common.{◌≡◌, ℕ, Bool, true, false, List, [], ◌∷◌, find, Some, is_some, refl, ◌∙◌, ap, cond, ◌&&◌, nat_lt}
use Rattle.std.specs.List.{list_all}
use Rattle.std.specs.Option.{option_map}
use Rattle.pws_base.specs.Places.{is_in_window}
use Rattle.pws_base.specs.Shapes.{size_of_group}
use Rattle.pws_votes.specs.declared.list_book.Entry.{Entry}
use Rattle.pws_votes.specs.Votes.{Key}
use Rattle.pws_votes.specs.ListBooks.{key_of, is_same_key, is_inside}
use Rattle.pws_votes.proofs.Found.{both, keys_are}

abbrev in_range : ℕ → ℕ → Key → Bool
in_range f low k = nat_lt k.voter (size_of_group f) && is_in_window low k.place

found_go : (f low : ℕ) (e : Entry) (es : List Entry) (k : Key) (b : Bool) → is_same_key k (key_of e) ≡ b → is_inside f low e ≡ true
    → (is_some (option_map (λ (e : Entry). e.digest) (find (λ e. is_same_key k (key_of e)) es)) ≡ true → in_range f low k ≡ true)
    → is_some (option_map (λ (e : Entry). e.digest) (cond b (Some e) (find (λ e. is_same_key k (key_of e)) es))) ≡ true → in_range f low k ≡ true
found_go f low e es k true same here later h = ap (in_range f low) (keys_are k (key_of e) same) ∙ here
found_go f low e es k false same here later h = later h

pub found_inside : (f low : ℕ) (es : List Entry) (k : Key) → list_all (is_inside f low) es ≡ true
    → is_some (option_map (λ (e : Entry). e.digest) (find (λ e. is_same_key k (key_of e)) es)) ≡ true → in_range f low k ≡ true
found_inside f low [] k all h = absurd (cc)
found_inside f low (e ∷ es) k all h =
    let parts = both (is_inside f low e) (list_all (is_inside f low) es) all in
    found_go f low e es k (is_same_key k (key_of e)) refl parts.0 (found_inside f low es k parts.1) h
