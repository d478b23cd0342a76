-- The levels of open elements, and what is found by them.
use Rattle.std.proofs.Common.{◌≡◌, ℕ, zero, suc, ◌+◌, ◌-◌, ◌<◌, ◌≤◌, Bool, true, false, ◌==◌, if◌then◌else◌, List, [], ◌∷◌, ◌++◌, fold, length, drop, take, get_or, Option, Some, None, refl, ap, sym, ◌∙◌, arith, append_assoc, append-nil, length-append, ◌⊎◌, inl, inr}
use Rattle.std.specs.Prelude.{slice_get, Vec}
use Rattle.std.specs.BTreeMap.{BTreeMap, UpdatesBy}
use Rattle.std.specs.Cmp.Lexicographic.{slice_cmp}
use Rattle.std.specs.Ordering.{nat_cmp}
use Rattle.std.specs.Option.{option_or, option_map_or}
use Rattle.std.specs.Str.{bytes_eq}
use Rattle.std.proofs.Math.Seq.{take-append_seam}
use Rattle.std.proofs.lemmas.Bool.{ne_eqb, eq-eqb}
use Rattle.std.proofs.lemmas.Slice.Eq.{bytes_eq-Decides}
use Rattle.std.proofs.lemmas.List.Sums.{fold-append}
use Rattle.pws_mark.specs.Bindings.{Bindings, space_at, outermost}
use Rattle.pws_mark.specs.Levels.{levels_at, last_of, without_last, declared_at, then_scope, scopes_of, levels_of, FindsLevels}
use Rattle.pws_mark.specs.Prefixes.{value_at}
use Rattle.pws_mark.specs.Scopes.{opened, opens_of}
use Rattle.pws_mark.specs.States.{Open, bound_at}
use Rattle.pws_mark.specs.declared.scopes.OpenElement.{OpenElement}
use Rattle.pws_mark.proofs.Opened.{space_around}
use Rattle.pws_mark.proofs.Walks.{drop_all}
use Rattle.pws_mark.proofs.Prefixes.{update_at, head_space, tail_space}

declared_head : (level : ℕ) (b : List ℕ × Option (List ℕ)) (bs : Bindings) (prefix : List ℕ) → bytes_eq b.0 prefix ≡ true → declared_at level (b ∷ bs) prefix ≡ level ∷ declared_at level bs prefix
declared_head level b bs prefix e = rw e refl

declared_tail : (level : ℕ) (b : List ℕ × Option (List ℕ)) (bs : Bindings) (prefix : List ℕ) → bytes_eq b.0 prefix ≡ false → declared_at level (b ∷ bs) prefix ≡ declared_at level bs prefix
declared_tail level b bs prefix e = rw e refl

levels_if : {B : Type 0} (t : Bool) (o p : Option (Vec ℕ B)) → option_map_or (λ v. v.items) (if t then o else p) [] ≡ (if t then option_map_or (λ v. v.items) o [] else option_map_or (λ v. v.items) p [])
levels_if true o p = refl
levels_if false o p = refl

same_prefix : (xs ys : List ℕ) → bytes_eq xs ys ≡ true → xs ≡ ys
same_prefix xs ys e = (bytes_eq-Decides xs ys).0 e

module _ {A B : Type 0} where
  -- the levels of a prefix after a change at one
  pub removed_at : (old new : BTreeMap (Vec ℕ A) (Vec ℕ B)) (prefix : List ℕ) → UpdatesBy (λ x y. slice_cmp nat_cmp x.items y.items) (λ k. slice_cmp nat_cmp prefix k.items) old new None → (other : List ℕ) → levels_at new other ≡ (if bytes_eq prefix other then [] else levels_at old other)
  removed_at old new prefix h other =
      ap (λ o. option_map_or (λ v. v.items) o []) (update_at old new prefix None h other)
      ∙ levels_if (bytes_eq prefix other) None (value_at old other)

  pub added_at : (before mid after : BTreeMap (Vec ℕ A) (Vec ℕ B)) (prefix : List ℕ) (stack : Vec ℕ B) (level : ℕ) → ((other : List ℕ) → levels_at mid other ≡ (if bytes_eq prefix other then [] else levels_at before other)) → stack.items ≡ levels_at before prefix ++ level ∷ [] → ((other : List ℕ) → value_at after other ≡ (if bytes_eq prefix other then Some stack else value_at mid other)) → (other : List ℕ) → levels_at after other ≡ (if bytes_eq prefix other then levels_at before other ++ level ∷ [] else levels_at before other)
  added_at before mid after prefix stack level taken items put other = start ∙ by (bytes_eq prefix other) refl
    where
      start : levels_at after other ≡ (if bytes_eq prefix other then stack.items else levels_at mid other)
      start = ap (λ o. option_map_or (λ v. v.items) o []) (put other) ∙ levels_if (bytes_eq prefix other) (Some stack) (value_at mid other)

      by : (t : Bool) → bytes_eq prefix other ≡ t → (if t then stack.items else levels_at mid other) ≡ (if t then levels_at before other ++ level ∷ [] else levels_at before other)
      by true e = items ∙ ap (λ p. levels_at before p ++ level ∷ []) (same_prefix prefix other e)
      by false e = taken other ∙ ap (λ t. if t then [] else levels_at before other) e

  pub dropped_at : (old new : BTreeMap (Vec ℕ A) (Vec ℕ B)) (prefix : List ℕ) (stack w : Vec ℕ B) → Some stack ≡ value_at old prefix → UpdatesBy (λ x y. slice_cmp nat_cmp x.items y.items) (λ k. slice_cmp nat_cmp prefix k.items) old new (Some w) → w.items ≡ without_last stack.items → (other : List ℕ) → levels_at new other ≡ (if bytes_eq prefix other then without_last (levels_at old other) else levels_at old other)
  dropped_at old new prefix stack w was h items other = start ∙ by (bytes_eq prefix other) refl
    where
      start : levels_at new other ≡ (if bytes_eq prefix other then w.items else levels_at old other)
      start = ap (λ o. option_map_or (λ v. v.items) o []) (update_at old new prefix (Some w) h other) ∙ levels_if (bytes_eq prefix other) (Some w) (value_at old other)

      by : (t : Bool) → bytes_eq prefix other ≡ t → (if t then w.items else levels_at old other) ≡ (if t then without_last (levels_at old other) else levels_at old other)
      by true e =
          items
          ∙ (ap without_last (ap (λ o. option_map_or (λ v. v.items) o []) was)
          ∙ ap (λ p. without_last (levels_at old p)) (same_prefix prefix other e))
      by false e = refl

-- one declaration more has its level
level_more : (level : ℕ) (b : List ℕ × Option (List ℕ)) (bs : Bindings) (prefix old new total : List ℕ) (t : Bool) → bytes_eq b.0 prefix ≡ t → new ≡ (if t then old ++ level ∷ [] else old) → old ++ declared_at level (b ∷ bs) prefix ≡ total → new ++ declared_at level bs prefix ≡ total
level_more level b bs prefix old new total true e h all =
    ap (λ z. z ++ declared_at level bs prefix) h
    ∙ (append_assoc old (level ∷ []) (declared_at level bs prefix)
    ∙ (ap (λ z. old ++ z) (sym (declared_head level b bs prefix e)) ∙ all))
level_more level b bs prefix old new total false e h all =
    ap (λ z. z ++ declared_at level bs prefix) h
    ∙ (ap (λ z. old ++ z) (sym (declared_tail level b bs prefix e)) ∙ all)

pub added_step : (level : ℕ) (xs : Bindings) (i : ℕ) (b : List ℕ × Option (List ℕ)) (prefix old new total : List ℕ) → drop i xs ≡ b ∷ drop (i + 1) xs → new ≡ (if bytes_eq b.0 prefix then old ++ level ∷ [] else old) → old ++ declared_at level (drop i xs) prefix ≡ total → new ++ declared_at level (drop (i + 1) xs) prefix ≡ total
added_step level xs i b prefix old new total split h all = level_more level b (drop (i + 1) xs) prefix old new total (bytes_eq b.0 prefix) refl h (ap (λ z. old ++ declared_at level z prefix) (sym split) ∙ all)

pub added_all : (level : ℕ) (xs : Bindings) (i : ℕ) (prefix now total : List ℕ) → length xs ≤ i → now ++ declared_at level (drop i xs) prefix ≡ total → now ≡ total
added_all level xs i prefix now total end h = sym (ap (λ z. now ++ declared_at level z prefix) (drop_all xs i end) ∙ append-nil now) ∙ h

turn_step : (level : ℕ) (b : List ℕ × Option (List ℕ)) (bs : Bindings) (prefix : List ℕ) → level ∷ declared_at level bs prefix ≡ declared_at level bs prefix ++ level ∷ [] → (t : Bool) → bytes_eq b.0 prefix ≡ t → level ∷ declared_at level (b ∷ bs) prefix ≡ declared_at level (b ∷ bs) prefix ++ level ∷ []
turn_step level b bs prefix more true e =
    ap (λ z. level ∷ z) (declared_head level b bs prefix e ∙ more)
    ∙ ap (λ z. z ++ level ∷ []) (sym (declared_head level b bs prefix e))
turn_step level b bs prefix more false e =
    ap (λ z. level ∷ z) (declared_tail level b bs prefix e)
    ∙ (more ∙ ap (λ z. z ++ level ∷ []) (sym (declared_tail level b bs prefix e)))

-- they are all one level
declared_turn : (level : ℕ) (bs : Bindings) (prefix : List ℕ) → level ∷ declared_at level bs prefix ≡ declared_at level bs prefix ++ level ∷ []
declared_turn level [] prefix = refl
declared_turn level (b ∷ bs) prefix = turn_step level b bs prefix (declared_turn level bs prefix) (bytes_eq b.0 prefix) refl

pub without_more : (xs : List ℕ) (x : ℕ) → without_last (xs ++ x ∷ []) ≡ xs
without_more xs x =
    let long : length (xs ++ x ∷ []) - 1 ≡ length xs = omega (arith, length-append xs (x ∷ [])) in
    ap (λ n. take n (xs ++ x ∷ [])) long ∙ take-append_seam xs (x ∷ [])

pub last_more : (xs : List ℕ) (x : ℕ) → last_of (xs ++ x ∷ []) ≡ Some x
last_more xs x =
    let long : length (xs ++ x ∷ []) - 1 ≡ length xs = omega (arith, length-append xs (x ∷ [])) in
    ap (λ n. slice_get (xs ++ x ∷ []) n) long ∙ seam xs
  where
    seam : (ys : List ℕ) → slice_get (ys ++ x ∷ []) (length ys) ≡ Some x
    seam [] = refl
    seam (y ∷ ys) = seam ys

level_less : (level : ℕ) (b : List ℕ × Option (List ℕ)) (bs : Bindings) (prefix old new rest : List ℕ) (t : Bool) → bytes_eq b.0 prefix ≡ t → new ≡ (if t then without_last old else old) → old ≡ rest ++ declared_at level (b ∷ bs) prefix → new ≡ rest ++ declared_at level bs prefix
level_less level b bs prefix old new rest true e h all =
    h
    ∙ (ap without_last (all ∙ (ap (λ z. rest ++ z) (declared_head level b bs prefix e ∙ declared_turn level bs prefix) ∙ sym (append_assoc rest (declared_at level bs prefix) (level ∷ []))))
    ∙ without_more (rest ++ declared_at level bs prefix) level)
level_less level b bs prefix old new rest false e h all = h ∙ (all ∙ ap (λ z. rest ++ z) (declared_tail level b bs prefix e))

pub dropped_step : (level : ℕ) (xs : Bindings) (i : ℕ) (b : List ℕ × Option (List ℕ)) (prefix old new rest : List ℕ) → drop i xs ≡ b ∷ drop (i + 1) xs → new ≡ (if bytes_eq b.0 prefix then without_last old else old) → old ≡ rest ++ declared_at level (drop i xs) prefix → new ≡ rest ++ declared_at level (drop (i + 1) xs) prefix
dropped_step level xs i b prefix old new rest split h all = level_less level b (drop (i + 1) xs) prefix old new rest (bytes_eq b.0 prefix) refl h (all ∙ ap (λ z. rest ++ declared_at level z prefix) split)

-- one element more or less
scopes_more : (xs : List OpenElement) (x : OpenElement) → scopes_of (xs ++ x ∷ []) ≡ x.scope ∷ scopes_of xs
scopes_more xs x = fold-append then_scope [] xs (x ∷ [])

length_then : (acc : List Bindings) (xs : List OpenElement) → length (fold then_scope acc xs) ≡ length acc + length xs
length_then acc [] = omega arith
length_then acc (x ∷ xs) = omega (arith, length_then (x.scope ∷ acc) xs)

pub length_scopes : (xs : List OpenElement) → length (scopes_of xs) ≡ length xs
length_scopes xs = omega (arith, length_then [] xs)

levels_more : (xs : List OpenElement) (x : OpenElement) (prefix : List ℕ) → levels_of (scopes_of (xs ++ x ∷ [])) prefix ≡ levels_of (scopes_of xs) prefix ++ declared_at (length xs) x.scope prefix
levels_more xs x prefix =
    ap (λ s. levels_of s prefix) (scopes_more xs x)
    ∙ ap (λ n. levels_of (scopes_of xs) prefix ++ declared_at n x.scope prefix) (length_scopes xs)

module _ {A B : Type 0} where
  pub finds_pushed : (old new : BTreeMap (Vec ℕ A) (Vec ℕ B)) (items now : List OpenElement) (x : OpenElement) → FindsLevels old items → now ≡ items ++ x ∷ [] → ((prefix : List ℕ) → levels_at new prefix ≡ levels_at old prefix ++ declared_at (length items) x.scope prefix) → FindsLevels new now
  finds_pushed old new items now x finds is more = record {
    all = λ prefix.
        more prefix
        ∙ (ap (λ z. z ++ declared_at (length items) x.scope prefix) (finds.all prefix)
        ∙ (sym (levels_more items x prefix) ∙ ap (λ z. levels_of (scopes_of z) prefix) (sym is)));
  }

  pub finds_popped : (old new : BTreeMap (Vec ℕ A) (Vec ℕ B)) (items now : List OpenElement) (x : OpenElement) → FindsLevels old items → items ≡ now ++ x ∷ [] → ((prefix rest : List ℕ) (level : ℕ) → levels_at old prefix ≡ rest ++ declared_at level x.scope prefix → levels_at new prefix ≡ rest) → FindsLevels new now
  finds_popped old new items now x finds is less = record {
    all = λ prefix. less prefix (levels_of (scopes_of now) prefix) (length now) (finds.all prefix ∙ (ap (λ z. levels_of (scopes_of z) prefix) is ∙ levels_more now x prefix));
  }

-- whether a tag declares a prefix
record Missing (level : ℕ) (s : Bindings) (prefix : List ℕ) : Type 0 where
  pub levels : declared_at level s prefix ≡ []
  pub space : space_at s prefix ≡ None

record Declares (level : ℕ) (s : Bindings) (prefix : List ℕ) : Type 0 where
  pub more : List ℕ
  pub levels : declared_at level s prefix ≡ more ++ level ∷ []
  pub space : Option (List ℕ)
  pub found : space_at s prefix ≡ Some space

cases_step : (level : ℕ) (b : List ℕ × Option (List ℕ)) (bs : Bindings) (prefix : List ℕ) → Missing level bs prefix ⊎ Declares level bs prefix → (t : Bool) → bytes_eq b.0 prefix ≡ t → Missing level (b ∷ bs) prefix ⊎ Declares level (b ∷ bs) prefix
cases_step level b bs prefix more true e = inr (record {
  more = declared_at level bs prefix;
  levels = declared_head level b bs prefix e ∙ declared_turn level bs prefix;
  space = b.1;
  found = head_space b bs prefix e;
})
cases_step level b bs prefix (inl m) false e = inl (record {
  levels = declared_tail level b bs prefix e ∙ m.levels;
  space = tail_space b bs prefix e ∙ m.space;
})
cases_step level b bs prefix (inr d) false e = inr (record {
  more = d.more;
  levels = declared_tail level b bs prefix e ∙ d.levels;
  space = d.space;
  found = tail_space b bs prefix e ∙ d.found;
})

declared_cases : (level : ℕ) (s : Bindings) (prefix : List ℕ) → Missing level s prefix ⊎ Declares level s prefix
declared_cases level [] prefix = inl (record { levels = refl; space = refl })
declared_cases level (b ∷ bs) prefix = cases_step level b bs prefix (declared_cases level bs prefix) (bytes_eq b.0 prefix) refl

-- what the tags bind together, and one of them
abbrev pub bound_of : List Bindings → Bindings
bound_of [] = outermost
bound_of (s ∷ outer) = s ++ bound_of outer

abbrev pub at_level : List Bindings → ℕ → Bindings
at_level [] n = []
at_level (s ∷ outer) n = if n == length outer then s else at_level outer n

pub record Found (scopes : List Bindings) (prefix : List ℕ) (n : ℕ) : Type 0 where
  pub low : n < length scopes
  pub same : space_at (bound_of scopes) prefix ≡ space_at (at_level scopes n) prefix

none_some : (n : ℕ) → ◌≡◌ {A = Option ℕ} None (Some n) → ⊥
none_some n h = cc

some_same : (m n : ℕ) → ◌≡◌ {A = Option ℕ} (Some m) (Some n) → m ≡ n
some_same m n h = cc

missing_levels : (s : Bindings) (outer : List Bindings) (prefix : List ℕ) → Missing (length outer) s prefix → levels_of (s ∷ outer) prefix ≡ levels_of outer prefix
missing_levels s outer prefix m = ap (λ z. levels_of outer prefix ++ z) m.levels ∙ append-nil (levels_of outer prefix)

missing_space : (s : Bindings) (outer : List Bindings) (prefix : List ℕ) → Missing (length outer) s prefix → space_at (bound_of (s ∷ outer)) prefix ≡ space_at (bound_of outer) prefix
missing_space s outer prefix m = space_around s (bound_of outer) prefix ∙ ap (λ o. option_or o (space_at (bound_of outer) prefix)) m.space

declares_last : (s : Bindings) (outer : List Bindings) (prefix : List ℕ) → Declares (length outer) s prefix → last_of (levels_of (s ∷ outer) prefix) ≡ Some (length outer)
declares_last s outer prefix d =
    ap last_of (ap (λ z. levels_of outer prefix ++ z) d.levels ∙ sym (append_assoc (levels_of outer prefix) d.more (length outer ∷ [])))
    ∙ last_more (levels_of outer prefix ++ d.more) (length outer)

declares_space : (s : Bindings) (outer : List Bindings) (prefix : List ℕ) → Declares (length outer) s prefix → space_at (bound_of (s ∷ outer)) prefix ≡ space_at s prefix
declares_space s outer prefix d =
    space_around s (bound_of outer) prefix
    ∙ (ap (λ o. option_or o (space_at (bound_of outer) prefix)) d.found ∙ sym d.found)

other_level : (s : Bindings) (outer : List Bindings) (n : ℕ) → n < length outer → at_level (s ∷ outer) n ≡ at_level outer n
other_level s outer n h = rw (ne_eqb n (length outer) (λ e. omega (arith, h, e))) refl

this_level : (s : Bindings) (outer : List Bindings) (n : ℕ) → length outer ≡ n → at_level (s ∷ outer) n ≡ s
this_level s outer n h = rw (eq-eqb n (length outer) (sym h)) refl

found_step : (s : Bindings) (outer : List Bindings) (prefix : List ℕ) (n : ℕ) → (last_of (levels_of outer prefix) ≡ Some n → Found outer prefix n) → last_of (levels_of (s ∷ outer) prefix) ≡ Some n → Missing (length outer) s prefix ⊎ Declares (length outer) s prefix → Found (s ∷ outer) prefix n
found_step s outer prefix n more h (inl m) =
    let rest : Found outer prefix n = more (sym (ap last_of (missing_levels s outer prefix m)) ∙ h) in
    record {
      low = omega (arith, rest.low);
      same = missing_space s outer prefix m ∙ (rest.same ∙ ap (λ z. space_at z prefix) (sym (other_level s outer n rest.low)));
    }
found_step s outer prefix n more h (inr d) =
    let here : length outer ≡ n = some_same (length outer) n (sym (declares_last s outer prefix d) ∙ h) in
    record {
      low = omega (arith, here);
      same = declares_space s outer prefix d ∙ ap (λ z. space_at z prefix) (sym (this_level s outer n here));
    }

level_found : (scopes : List Bindings) (prefix : List ℕ) (n : ℕ) → last_of (levels_of scopes prefix) ≡ Some n → Found scopes prefix n
level_found [] prefix n h = absurd (none_some n h)
level_found (s ∷ outer) prefix n h = found_step s outer prefix n (level_found outer prefix n) h (declared_cases (length outer) s prefix)

none_step : (s : Bindings) (outer : List Bindings) (prefix : List ℕ) → (last_of (levels_of outer prefix) ≡ None → space_at (bound_of outer) prefix ≡ space_at outermost prefix) → last_of (levels_of (s ∷ outer) prefix) ≡ None → Missing (length outer) s prefix ⊎ Declares (length outer) s prefix → space_at (bound_of (s ∷ outer)) prefix ≡ space_at outermost prefix
none_step s outer prefix more h (inl m) = missing_space s outer prefix m ∙ more (sym (ap last_of (missing_levels s outer prefix m)) ∙ h)
none_step s outer prefix more h (inr d) = absurd (none_some (length outer) (sym h ∙ declares_last s outer prefix d))

no_level : (scopes : List Bindings) (prefix : List ℕ) → last_of (levels_of scopes prefix) ≡ None → space_at (bound_of scopes) prefix ≡ space_at outermost prefix
no_level [] prefix h = refl
no_level (s ∷ outer) prefix h = none_step s outer prefix (no_level outer prefix) h (declared_cases (length outer) s prefix)

bound_fold : (opens : List Open) (scopes : List Bindings) (items : List OpenElement) → bound_at opens ≡ bound_of scopes → bound_at (fold opened opens items) ≡ bound_of (fold then_scope scopes items)
bound_fold opens scopes [] h = h
bound_fold opens scopes (x ∷ xs) h = bound_fold (opened opens x) (x.scope ∷ scopes) xs (ap (λ m. x.scope ++ m) h)

stays_at : (acc : List Bindings) (items : List OpenElement) (n : ℕ) → n < length acc → at_level (fold then_scope acc items) n ≡ at_level acc n
stays_at acc [] n h = refl
stays_at acc (x ∷ xs) n h = stays_at (x.scope ∷ acc) xs n (omega (arith, h)) ∙ other_level x.scope acc n h

item_scope : (acc : List Bindings) (items : List OpenElement) (i : ℕ) (d : OpenElement) → i < length items → d ≡ get_or items i d → at_level (fold then_scope acc items) (length acc + i) ≡ d.scope
item_scope acc [] i d within here = absurd (omega arith)
item_scope acc (x ∷ xs) zero d within here =
    let none : length acc + zero ≡ length acc = omega arith in
    ap (at_level (fold then_scope (x.scope ∷ acc) xs)) none
    ∙ (stays_at (x.scope ∷ acc) xs (length acc) (omega arith)
    ∙ (this_level x.scope acc (length acc) refl ∙ ap (λ z. z.scope) (sym here)))
item_scope acc (x ∷ xs) (suc i) d within here =
    let next : length acc + suc i ≡ length (x.scope ∷ acc) + i = omega arith in
    ap (at_level (fold then_scope (x.scope ∷ acc) xs)) next ∙ item_scope (x.scope ∷ acc) xs i d (omega (arith, within)) here

module _ {A B : Type 0} (levels : BTreeMap (Vec ℕ A) (Vec ℕ B)) (items : List OpenElement) (finds : FindsLevels levels items) (prefix : List ℕ) where
  pub level_within : (n : ℕ) → Some n ≡ last_of (levels_at levels prefix) → n < length items
  level_within n h =
      let found : Found (scopes_of items) prefix n = level_found (scopes_of items) prefix n (sym (h ∙ ap last_of (finds.all prefix))) in
      omega (arith, found.low, length_scopes items)

  pub level_space : (n : ℕ) (d : OpenElement) → Some n ≡ last_of (levels_at levels prefix) → d ≡ get_or items n d → space_at d.scope prefix ≡ space_at (bound_at (opens_of items)) prefix
  level_space n d h here =
      let found : Found (scopes_of items) prefix n = level_found (scopes_of items) prefix n (sym (h ∙ ap last_of (finds.all prefix))) in
      let none : 0 + n ≡ n = omega arith in
      sym (ap (λ m. space_at m prefix) (bound_fold [] [] items refl)
      ∙ (found.same
      ∙ ap (λ m. space_at m prefix) (ap (at_level (scopes_of items)) (sym none) ∙ item_scope [] items n d (level_within n h) here)))

  pub level_none : None ≡ last_of (levels_at levels prefix) → space_at outermost prefix ≡ space_at (bound_at (opens_of items)) prefix
  level_none h =
      sym (ap (λ m. space_at m prefix) (bound_fold [] [] items refl) ∙ no_level (scopes_of items) prefix (sym (h ∙ ap last_of (finds.all prefix))))
