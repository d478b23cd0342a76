-- What a list of votes keeps: no two have one key, and all are inside.
use Rattle.std.proofs.Common.{◌≡◌, ℕ, ◌≤◌, ◌&&◌, ◌||◌, not, Bool, true, false, nat_lt, List, [], ◌∷◌, ◌++◌, find, filter, Option, Some, None, is_some, cond, refl, sym, ◌∙◌, ap, arith}
use Rattle.std.specs.FinMap.{get}
use Rattle.std.specs.List.{list_any, list_all}
use Rattle.std.specs.Option.{option_map}
use Rattle.std.proofs.lemmas.Bool.Decides.{nat_tests}
use Rattle.std.proofs.lemmas.List.Folds.{list_any-append, list_all-append}
use Rattle.pws_votes.specs.declared.list_book.Entry.{Entry}
use Rattle.pws_votes.specs.Votes.{Key, is_checkpoint}
use Rattle.pws_votes.specs.ListBooks.{votes_in, key_of, is_same_key, are_apart, is_inside, IsKept}
use Rattle.pws_votes.proofs.Found.{both, get_is, keys_are, key_itself}

turned_go : (x y : Bool) (a b : Key) → is_same_key a b ≡ x → is_same_key b a ≡ y → x ≡ y
turned_go true true a b h k = refl
turned_go true false a b h k = let e = ap (λ c. is_same_key c a) (sym (keys_are a b h)) ∙ key_itself a in cc
turned_go false true a b h k = let e = ap (λ c. is_same_key c b) (sym (keys_are b a k)) ∙ key_itself b in cc
turned_go false false a b h k = refl

turned : (a b : Key) → is_same_key a b ≡ is_same_key b a
turned a b = turned_go (is_same_key a b) (is_same_key b a) a b refl refl

pub turn_not : (a : Bool) → not a ≡ true → a ≡ false
turn_not true h = absurd (cc)
turn_not false h = refl

filter_any_go : {X : Type 0} (p q : X → Bool) (x : X) (xs : List X) (y : Bool) → p x ≡ y → q x || list_any q xs ≡ false → (list_any q xs ≡ false → list_any q (filter p xs) ≡ false) → list_any q (cond y (x ∷ filter p xs) (filter p xs)) ≡ false
filter_any_go p q x xs true e h k = let n = neither (q x) (list_any q xs) h in ap (λ b. b || list_any q (filter p xs)) n.0 ∙ k n.1
  where
    neither : (a b : Bool) → a || b ≡ false → (a ≡ false) × (b ≡ false)
    neither true b h = absurd (cc)
    neither false b h = (refl, h)
filter_any_go p q x xs false e h k = k (later (q x) (list_any q xs) h)
  where
    later : (a b : Bool) → a || b ≡ false → b ≡ false
    later true b h = absurd (cc)
    later false b h = h

filter_any : {X : Type 0} (p q : X → Bool) (xs : List X) → list_any q xs ≡ false → list_any q (filter p xs) ≡ false
filter_any p q [] h = refl
filter_any p q (x ∷ xs) h = filter_any_go p q x xs (p x) refl h (filter_any p q xs)

apart_filter_go : (p : Entry → Bool) (e : Entry) (es : List Entry) (y : Bool) → are_apart (e ∷ es) ≡ true → (are_apart es ≡ true → are_apart (filter p es) ≡ true) → are_apart (cond y (e ∷ filter p es) (filter p es)) ≡ true
apart_filter_go p e es true h k =
    let b = both (not (list_any (λ x. is_same_key (key_of e) (key_of x)) es)) (are_apart es) h in
    ap (λ t. not t && are_apart (filter p es)) (filter_any p (λ x. is_same_key (key_of e) (key_of x)) es (turn_not _ b.0)) ∙ k b.1
apart_filter_go p e es false h k = k (both (not (list_any (λ x. is_same_key (key_of e) (key_of x)) es)) (are_apart es) h).1

-- a filter keeps entries apart
apart_filter : (p : Entry → Bool) (es : List Entry) → are_apart es ≡ true → are_apart (filter p es) ≡ true
apart_filter p [] h = refl
apart_filter p (e ∷ es) h = apart_filter_go p e es (p e) h (apart_filter p es)

inside_go : {X : Type 0} (p q r : X → Bool) (x : X) (xs : List X) (y : Bool) → p x ≡ y → q x && list_all q xs ≡ true → (q x ≡ true → p x ≡ true → r x ≡ true) → (list_all q xs ≡ true → list_all r (filter p xs) ≡ true) → list_all r (cond y (x ∷ filter p xs) (filter p xs)) ≡ true
inside_go p q r x xs true e h f k =
    let b = both (q x) (list_all q xs) h in
    ap (λ t. t && list_all r (filter p xs)) (f b.0 e) ∙ k b.1
inside_go p q r x xs false e h f k = k (both (q x) (list_all q xs) h).1

-- what all pass, and what a filter adds
inside_filter : {X : Type 0} (p q r : X → Bool) (xs : List X) → list_all q xs ≡ true → ((x : X) → q x ≡ true → p x ≡ true → r x ≡ true) → list_all r (filter p xs) ≡ true
inside_filter p q r [] h f = refl
inside_filter p q r (x ∷ xs) h f = inside_go p q r x xs (p x) refl h (f x) (λ e. inside_filter p q r xs e f)

pub kept_none : (f low : ℕ) → f ≤ 3 → IsKept f low []
kept_none f low h = record { shape = h; apart = refl; inside = refl }

pub kept_checkpoints : (f low : ℕ) (es : List Entry) → IsKept f low es → IsKept f low (filter (λ e. is_checkpoint e.kind) es)
kept_checkpoints f low es k =
    record { shape = k.shape; apart = apart_filter (λ e. is_checkpoint e.kind) es k.apart; inside = inside_filter (λ e. is_checkpoint e.kind) (is_inside f low) (is_inside f low) es k.inside (λ e h p. h) }

raised_inside : (f low new : ℕ) (e : Entry) → low ≤ new → is_inside f low e ≡ true → nat_lt new e.place ≡ true → is_inside f new e ≡ true
raised_inside f low new e h k p = grind (arith, nat_tests)

pub kept_above : (f low new : ℕ) (es : List Entry) → low ≤ new → IsKept f low es → IsKept f new (filter (λ e. nat_lt new e.place) es)
kept_above f low new es h k =
    record { shape = k.shape; apart = apart_filter (λ e. nat_lt new e.place) es k.apart; inside = inside_filter (λ e. nat_lt new e.place) (is_inside f low) (is_inside f new) es k.inside (λ e i p. raised_inside f low new e h i p) }

absent_go : (x : Bool) (e : Entry) (o : Option Entry) → cond x (Some e) o ≡ None → (x ≡ false) × (o ≡ None)
absent_go true e o h = absurd (cc)
absent_go false e o h = (refl, h)

-- what isn't found is no entry's key
absent : (k : Key) (es : List Entry) → find (λ e. is_same_key k (key_of e)) es ≡ None → list_any (λ e. is_same_key k (key_of e)) es ≡ false
absent k [] h = refl
absent k (e ∷ es) h =
    let n = absent_go (is_same_key k (key_of e)) e (find (λ e. is_same_key k (key_of e)) es) h in
    ap (λ t. t || list_any (λ e. is_same_key k (key_of e)) es) n.0 ∙ absent k es n.1

push_go : (n d t m : Bool) → not (n || (t || false)) && (d && not m) ≡ (not n && d) && not (t || m)
push_go true d t m = refl
push_go false true true m = refl
push_go false true false m = refl
push_go false false true m = refl
push_go false false false m = refl

are_apart-push : (es : List Entry) (x : Entry) → are_apart (es ++ x ∷ []) ≡ are_apart es && not (list_any (λ e. is_same_key (key_of x) (key_of e)) es)
are_apart-push [] x = refl
are_apart-push (e ∷ es) x =
    ap (λ t. not t && are_apart (es ++ x ∷ [])) (list_any-append (λ y. is_same_key (key_of e) (key_of y)) es (x ∷ []) ∙ ap (λ t. list_any (λ y. is_same_key (key_of e) (key_of y)) es || (t || false)) (turned (key_of e) (key_of x)))
    ∙ (ap (λ t. not (list_any (λ y. is_same_key (key_of e) (key_of y)) es || (is_same_key (key_of x) (key_of e) || false)) && t) (are_apart-push es x)
    ∙ push_go (list_any (λ y. is_same_key (key_of e) (key_of y)) es) (are_apart es) (is_same_key (key_of x) (key_of e)) (list_any (λ y. is_same_key (key_of x) (key_of y)) es))

mapped_none : {X Y : Type 0} (f : X → Y) (o : Option X) → option_map f o ≡ None → o ≡ None
mapped_none f None h = refl
mapped_none f (Some x) h = absurd (cc)

pub kept_push : (f low : ℕ) (es : List Entry) (e : Entry) → IsKept f low es → get (votes_in es) (key_of e) ≡ None → is_inside f low e ≡ true → IsKept f low (es ++ e ∷ [])
kept_push f low es e k h i =
    let n = absent (key_of e) es (mapped_none (λ (x : Entry). x.digest) _ (sym (get_is es (key_of e)) ∙ h)) in
    record {
      shape = k.shape;
      apart = are_apart-push es e ∙ (ap (λ t. t && not (list_any (λ x. is_same_key (key_of e) (key_of x)) es)) k.apart ∙ ap not n);
      inside = list_all-append (is_inside f low) es (e ∷ []) ∙ (ap (λ t. t && (is_inside f low e && true)) k.inside ∙ ap (λ t. t && true) i);
    }

pub is_none : {X : Type 0} (o : Option X) → is_some o ≡ false → o ≡ None
is_none None h = refl
is_none (Some x) h = absurd (cc)
