-- The digests that slots, rows of Q and the possible choice name, as a list.
use Rattle.std.proofs.Common.{◌≡◌, inl, inr, ℕ, ◌*◌, ◌≤◌, ◌||◌, true, List, [], ◌++◌, length, map, Option, Some, None, refl, sym, ◌∙◌, ap, subst, arith, length-append, is_some}
use Rattle.std.specs.List.{Contains, flat_map}
use Rattle.std.specs.Option.{option_map_or, unwrap_or}
use Rattle.std.specs.Ordering.{nat_cmp}
use Rattle.std.specs.Cmp.{nat_cmp_total}
use Rattle.std.specs.Cmp.Lexicographic.{slice_cmp}
use Rattle.std.specs.FinMap.{empty, get, entries, values, keys, len, contains_key, nat_cmp-IsAntisymmetric, get-empty}
use Rattle.std.specs.Str.{bytes_eq}
use Rattle.std.proofs.lemmas.Bool.{false≢true, or_cases}
use Rattle.std.proofs.lemmas.Cmp.{nat_list_cmp_total}
use Rattle.std.proofs.lemmas.List.{length-map}
use Rattle.std.proofs.lemmas.List.Elements.{Contains-append_left, Contains-append_right}
use Rattle.std.proofs.lemmas.Slice.Eq.{bytes_eq-Decides}
use Rattle.pws_base.proofs.Members.{any_has, has_map, map_has}
use Rattle.pws_base.proofs.Maps.{entry_get}
use Rattle.pws_msg.specs.declared.changes.Choice.{Choice}
use Rattle.pws_change.specs.Sets.{Digests}
use Rattle.pws_protocol.specs.States.{State, Slot, window}
use Rattle.pws_protocol.specs.Gathered.{slots_name, rows_name, choice_names}
use Rattle.pws_protocol.specs.Reactions.{is_named}
use Rattle.pws_voter_laws.proofs.Fields.{exact_digests}
use Rattle.pws_voter_laws.proofs.Found.{passing}
use Rattle.pws_holding.proofs.Counting.{flat_length, flat_has, value_in, key_in, values_length, keys_length}

-- of slots
abbrev by_slots : State → List (List ℕ)
by_slots s = map (λ t. t.digest) (values s.slots)

-- of rows of Q
abbrev by_rows : State → List (List ℕ)
by_rows s = flat_map keys (values s.pre_prepared)

-- of a choice
abbrev by_choice : Option Choice → List (List ℕ)
by_choice choice = option_map_or (λ c. c.chosen) choice []

-- all of these
unfoldable pub named_by : State → Option Choice → List (List ℕ)
named_by s choice = by_slots s ++ (by_rows s ++ by_choice choice)

same_bytes : (a b : List ℕ) → bytes_eq a b ≡ true → a ≡ b
same_bytes a b h = (bytes_eq-Decides a b).0 h

slot_named : (s : State) (d : List ℕ) → slots_name s d ≡ true → Contains (by_slots s) d
unfolding slots_name
slot_named s d h =
    let p = any_has _ (window s.low) h in
    let t = passing (λ (t : Slot). bytes_eq t.digest d) (get s.slots p.0) p.2 in
    let c = has_map (λ (t : Slot). t.digest) (values s.slots) t.0 (value_in nat_cmp_total nat_cmp-IsAntisymmetric s.slots p.0 t.0 t.1) in
    subst (λ x. Contains (by_slots s) x) (same_bytes t.0.digest d t.2) c

key_of : (row : Digests) (d : List ℕ) (o : Option ℕ) → get row d ≡ o → is_some o ≡ true → Contains (keys row) d
key_of row d None e h = absurd (false≢true h)
key_of row d (Some v) e h = key_in nat_list_cmp_total exact_digests row d v e

row_has : (s : State) (p : ℕ) (d : List ℕ) (o : Option Digests) → get s.pre_prepared p ≡ o → contains_key (unwrap_or o empty) d ≡ true → Contains (by_rows s) d
row_has s p d None e h = absurd (false≢true (sym (ap is_some (get-empty (slice_cmp nat_cmp) d)) ∙ h))
row_has s p d (Some row) e h = flat_has keys (values s.pre_prepared) row d (value_in nat_cmp_total nat_cmp-IsAntisymmetric s.pre_prepared p row e) (key_of row d (get row d) refl h)

row_named : (s : State) (d : List ℕ) → rows_name s d ≡ true → Contains (by_rows s) d
unfolding rows_name
row_named s d h = let p = any_has _ (window s.low) h in row_has s p.0 d (get s.pre_prepared p.0) refl p.2

choice_named : (o : Option Choice) (d : List ℕ) → choice_names o d ≡ true → Contains (by_choice o) d
unfolding choice_names
choice_named None d h = absurd (false≢true h)
choice_named (Some c) d h = let x = any_has (bytes_eq d) c.chosen h in subst (λ y. Contains c.chosen y) (sym (same_bytes d x.0 x.2)) x.1

-- what is named is in the list
pub named_in : (s : State) (o : Option Choice) (d : List ℕ) → is_named s o d ≡ true → Contains (named_by s o) d
unfolding named_by
named_in s o d h = elim (or_cases (slots_name s d) (rows_name s d || choice_names o d) h) [
  | inl e ↦ Contains-append_left (by_slots s) (by_rows s ++ by_choice o) d (slot_named s d e)
  | inr e ↦ Contains-append_right (by_slots s) (by_rows s ++ by_choice o) d (elim (or_cases (rows_name s d) (choice_names o d) e) [
    | inl r ↦ Contains-append_left (by_rows s) (by_choice o) d (row_named s d r)
    | inr r ↦ Contains-append_right (by_rows s) (by_choice o) d (choice_named o d r)
  ])
]

rows_few : (s : State) → ((p : ℕ) (row : Digests) → get s.pre_prepared p ≡ Some row → len row ≤ 16) → length (by_rows s) ≤ len s.pre_prepared * 16
rows_few s h =
    let each : (row : Digests) → Contains (values s.pre_prepared) row → length (keys row) ≤ 16 = λ row c.
    let m = map_has (λ (e : ℕ × Digests). e.1) (entries s.pre_prepared) row c in
    let g : get s.pre_prepared m.0.0 ≡ Some m.0.1 = entry_get nat_cmp_total s.pre_prepared m.0.0 m.0.1 m.1 in
    subst (λ n. n ≤ 16) (sym (keys_length row)) (h m.0.0 row (subst (λ x. get s.pre_prepared m.0.0 ≡ Some x) m.2 g)) in
    subst (λ n. length (by_rows s) ≤ n * 16) (values_length s.pre_prepared) (flat_length keys 16 (values s.pre_prepared) each)

choice_few : (o : Option Choice) → ((c : Choice) → o ≡ Some c → length c.chosen ≤ 32) → length (by_choice o) ≤ 32
choice_few None h = omega arith
choice_few (Some c) h = h c refl

-- and that isn't long
pub named_few : (s : State) (o : Option Choice) → len s.slots ≤ 32 → len s.pre_prepared ≤ 32 → ((p : ℕ) (row : Digests) → get s.pre_prepared p ≡ Some row → len row ≤ 16)
    → ((c : Choice) → o ≡ Some c → length c.chosen ≤ 32) → length (named_by s o) ≤ 576
unfolding named_by
named_few s o a b h k =
    let slots : length (by_slots s) ≡ len s.slots = length-map (values s.slots) (λ (t : Slot). t.digest) ∙ values_length s.slots in
    let rows = rows_few s h in
    let choice = choice_few o k in
    omega (arith, slots, rows, choice, a, b, length-append (by_slots s) (by_rows s ++ by_choice o), length-append (by_rows s) (by_choice o))
