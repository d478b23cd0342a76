-- What is counted for an event is what supports it.
use Rattle.std.proofs.Common.{◌≡◌, ℕ, ◌+◌, ◌<◌, ◌&&◌, ◌||◌, ◌==◌, nat_lt, Bool, true, List, [], ◌∷◌, map, length, Option, Some, None, refl, sym, ◌∙◌, ap, arith}
use Rattle.std.specs.Prelude.{slice_get, filter}
use Rattle.std.specs.List.{list_all, list_any, range_with_len}
use Rattle.std.specs.Option.{option_map_or}
use Rattle.std.proofs.lemmas.Bool.{and_from, lt-ltb, eq-eqb}
use Rattle.std.proofs.lemmas.List.{length-map}
use Rattle.std.proofs.lemmas.List.Folds.{list_all-map}
use Rattle.pws_base.specs.declared.shapes.ReplicaId.{ReplicaId}
use Rattle.pws_base.specs.Shapes.{size_of_group, quorum_of}
use Rattle.pws_event.specs.Readings.{RiseFrom}
use Rattle.pws_event.specs.declared.events.Event.{Event}
use Rattle.pws_msg.specs.declared.contents.Content.{Content}
use Rattle.pws_change.specs.Rising.{rises}
use Rattle.pws_protocol.specs.Keys.{replica}
use Rattle.pws_protocol.specs.Evidence.{Evidence, is_kept}
use Rattle.pws_protocol.specs.Support.{Support, Always, SaidBy, ReadBy, Stated, is_read, are_read, support_of, vouchers_by, vouchers}
use Rattle.pws_evidence.specs.Counted.{sayer_of, is_counted, counted_among}
use Rattle.pws_evidence.proofs.Ranged.{made_nothing}

above : (b least : ℕ) (xs : List Stated) → b < least → RiseFrom least (map (λ x. x.index) xs) → list_all (λ x. nat_lt b x.index) xs ≡ true
above b least [] l h = refl
above b least (x ∷ xs) l h =
    and_from (nat_lt b x.index) (list_all (λ x. nat_lt b x.index) xs) (lt-ltb b x.index (omega (arith, h.0)))
    (above b (x.index + 1) xs (omega (arith, h.0)) h.2)

rise : (least : ℕ) (xs : List Stated) → RiseFrom least (map (λ x. x.index) xs) → rises (λ a b. nat_lt a.index b.index) xs ≡ true
rise least [] h = refl
rise least (x ∷ xs) h =
    and_from (list_all (λ y. nat_lt x.index y.index) xs) (rises (λ a b. nat_lt a.index b.index) xs)
    (above x.index (x.index + 1) xs (omega arith) h.2) (rise (x.index + 1) xs h.2)

map_twice : {X Y : Type 0} (to : X → Stated) (f : Stated → Y) (xs : List X) → map f (map to xs) ≡ map (λ x. f (to x)) xs
map_twice to f [] = refl
map_twice to f (x ∷ xs) = ap (λ t. f (to x) ∷ t) (map_twice to f xs)

-- indices that rise are named in order
pub all_read : {X : Type 0} (to : X → Stated) (says : ReplicaId → Content → Bool) (f group ask : ℕ) (xs : List X) → RiseFrom 0 (map (λ x. (to x).index) xs)
    → (length xs == quorum_of f && list_all (λ x. is_read says f group ask (to x)) xs) ≡ are_read says f group ask (map to xs)
all_read to says f group ask xs h =
    let r : rises (λ (a b : Stated). nat_lt a.index b.index) (map to xs) ≡ true = rise 0 (map to xs) (rw (map_twice to (λ (s : Stated). s.index) xs) h) in
    ap (λ n. n == quorum_of f && list_all (λ x. is_read says f group ask (to x)) xs) (sym (length-map xs to))
    ∙ (ap (λ b. length (map to xs) == quorum_of f && b) (sym (list_all-map (is_read says f group ask) to xs))
    ∙ ap (λ b. length (map to xs) == quorum_of f && (b && list_all (is_read says f group ask) (map to xs))) (sym r))

counted_by : (e : Evidence) (s : Support) → Option ℕ → List ReplicaId
counted_by e s None = []
counted_by e s (Some f) = counted_among e s (size_of_group f)

-- the vouchers are those of the group's replicas that are counted
vouchers_at : (e : Evidence) (s : Support) (o : Option ℕ) → slice_get e.layout (sayer_of e s) ≡ o → vouchers_by e s ≡ counted_by e s o
unfolding counted_by
vouchers_at e Always None h = refl
vouchers_at e Always (Some f) h = sym (made_nothing (replica e.group) (size_of_group f))
vouchers_at e (SaidBy sayer c) None h = ap (λ o. map (replica sayer) (filter (λ i. is_kept e (replica sayer i) c) (range_with_len 0 (option_map_or size_of_group o 0)))) h
vouchers_at e (SaidBy sayer c) (Some f) h = ap (λ o. map (replica sayer) (filter (λ i. is_kept e (replica sayer i) c) (range_with_len 0 (option_map_or size_of_group o 0)))) h
vouchers_at e (ReadBy ask xs) None h = ap (λ o. map (replica e.group) (filter (is_counted e (ReadBy ask xs)) (range_with_len 0 (option_map_or size_of_group o 0)))) h
vouchers_at e (ReadBy ask xs) (Some f) h = ap (λ o. map (replica e.group) (filter (is_counted e (ReadBy ask xs)) (range_with_len 0 (option_map_or size_of_group o 0)))) h

-- where the layout has the group, and where it lacks it
pub vouchers_are : (e : Evidence) (x : Event) (f : ℕ) → slice_get e.layout (sayer_of e (support_of e.group x)) ≡ Some f → counted_among e (support_of e.group x) (size_of_group f) ≡ vouchers e x
unfolding vouchers counted_by
vouchers_are e x f h = sym (vouchers_at e (support_of e.group x) (Some f) h)

-- a quorum that is named is read where each is
pub read_then : {X : Type 0} (to : X → Stated) (says : ReplicaId → Content → Bool) (f group ask : ℕ) (xs : List X) → RiseFrom 0 (map (λ x. (to x).index) xs)
    → length xs ≡ quorum_of f → list_all (λ x. is_read says f group ask (to x)) xs ≡ are_read says f group ask (map to xs)
read_then to says f group ask xs h t = ap (λ b. b && list_all (λ x. is_read says f group ask (to x)) xs) (sym (eq-eqb (length xs) (quorum_of f) t)) ∙ all_read to says f group ask xs h

-- a test of some of what is made
pub any_made : {X : Type 0} (to : X → Stated) (p : Stated → Bool) (xs : List X) → list_any (λ x. p (to x)) xs ≡ list_any p (map to xs)
any_made to p [] = refl
any_made to p (x ∷ xs) = ap (λ b. p (to x) || b) (any_made to p xs)
