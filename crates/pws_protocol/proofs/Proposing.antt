-- Each candidate is supported.
use Rattle.std.proofs.Common.{◌≡◌, ℕ, zero, suc, ◌+◌, ◌<◌, ◌&&◌, ◌==◌, ◌++◌, nat_lt, cond, Bool, true, false, if◌then◌else◌, List, [], ◌∷◌, length, map, take, Option, Some, None, refl, sym, ◌∙◌, ap, subst, arith}
use Rattle.std.specs.Prelude.{slice_index, filter, option_to_list}
use Rattle.std.specs.List.{fold, list_all, filter_map, cons_option, flat_map, range_with_len}
use Rattle.std.specs.Option.{option_map, option_or, option_and_then, option_map_or}
use Rattle.std.specs.FinMap.{get}
use Rattle.std.proofs.lemmas.Bool.{and_parts, and_from, eq-eqb, lt-ltb}
use Rattle.std.proofs.lemmas.List.{length-map}
use Rattle.std.proofs.lemmas.List.Folds.{list_all-append}
use Rattle.std.proofs.lemmas.Slice.Eq.{bytes_eq-Decides}
use Rattle.pws_base.specs.Shapes.{size_of_group, quorum_of}
use Rattle.pws_event.specs.declared.readings.Reading.{Reading}
use Rattle.pws_event.specs.declared.readings.Share.{Share}
use Rattle.pws_event.specs.declared.readings.Sort.{Sort}
use Rattle.pws_event.specs.declared.readings.Sort.TheVariants as sort
use Rattle.pws_event.specs.declared.events.Event.{Event}
use Rattle.pws_event.specs.Events.{digest_of}
use Rattle.pws_event.specs.Counters.{Counters, counter_of, least_waiting, is_waiting, would_effect}
use Rattle.pws_msg.specs.declared.readings.ReadingValue.{ReadingValue}
use Rattle.pws_msg.specs.declared.readings.ReadingValue.TheVariants as value
use Rattle.pws_msg.specs.declared.contents.Content.{Content}
use Rattle.pws_msg.specs.declared.contents.Content.TheVariants as content
use Rattle.pws_change.specs.Rising.{rises, is_digest_below}
use Rattle.pws_protocol.specs.declared.keys.Matter.{Matter}
use Rattle.pws_protocol.specs.declared.keys.Matter.TheVariants.{Read}
use Rattle.pws_protocol.specs.declared.keys.Matter.TheVariants as matter
use Rattle.pws_protocol.specs.Keys.{replica, statement_key}
use Rattle.pws_protocol.specs.Evidence.{Evidence, same_value, same_statement, is_kept}
use Rattle.pws_protocol.specs.Support.{Stated, support_of, is_read, are_read, supported_by, supports, reading_said}
use Rattle.pws_protocol.specs.Candidates.{lesser_of, other_groups, members_of, kept_request, is_due, request_for, kept_reply, reply_for, abort_event, abort_for, answer_for, answers_from, time_in, share_in, value_in, kept_value, kept_times, kept_shares, clock_event, random_event, answer_of_sort, ask_answer, candidates}
use Rattle.pws_protocol.specs.Fits.{FitsEvidence}
use Rattle.pws_protocol.specs.Laws.{CandidatesAreSupported}

-- what is there passes a test
Passes : {X : Type 0} → (X → Bool) → Option X → Type 0
Passes p None = Unit {0}
Passes p (Some x) = p x ≡ true

module _ {X : Type 0} (p : X → Bool) where
  cons_passes : (o : Option X) (xs : List X) → Passes p o → list_all p xs ≡ true → list_all p (cons_option o xs) ≡ true
  unfolding Passes
  cons_passes None xs u k = k
  cons_passes (Some x) xs u k = and_from (p x) (list_all p xs) u k

  or_passes : (o q : Option X) → Passes p o → Passes p q → Passes p (option_or o q)
  unfolding Passes
  or_passes None q u v = v
  or_passes (Some x) q u v = u

  some_passes : (o : Option X) → Passes p o → list_all p (option_to_list o) ≡ true
  unfolding Passes
  some_passes None u = refl
  some_passes (Some x) u = and_from (p x) true u refl

  tested_passes : (x : X) (b : Bool) → p x ≡ b → Passes p (if b then Some x else None)
  unfolding Passes
  tested_passes x true e = e
  tested_passes x false e = tt

  map_passes : {A : Type 0} (h : A → Option X) (xs : List A) → ((x : A) → Passes p (h x)) → list_all p (filter_map h xs) ≡ true
  map_passes h [] f = refl
  map_passes h (x ∷ xs) f = cons_passes (h x) (filter_map h xs) (f x) (map_passes h xs f)

  flat_passes : {A : Type 0} (h : A → List X) (xs : List A) → ((x : A) → list_all p (h x) ≡ true) → list_all p (flat_map h xs) ≡ true
  flat_passes h [] f = refl
  flat_passes h (x ∷ xs) f = list_all-append p (h x) (flat_map h xs) ∙ and_from (list_all p (h x)) (list_all p (flat_map h xs)) (f x) (flat_passes h xs f)

  filter_step : (q : X → Bool) (x : X) (rest : List X) (b : Bool) → q x ≡ b → ((x : X) → q x ≡ true → p x ≡ true) → list_all p rest ≡ true → list_all p (cond b (x ∷ rest) rest) ≡ true
  filter_step q x rest true e f h = and_from (p x) (list_all p rest) (f x e) h
  filter_step q x rest false e f h = h

  filtered : (q : X → Bool) (xs : List X) → ((x : X) → q x ≡ true → p x ≡ true) → list_all p (filter q xs) ≡ true
  filtered q [] f = refl
  filtered q (x ∷ xs) f = filter_step q x (filter q xs) (q x) refl f (filtered q xs f)

  taken : (n : ℕ) (xs : List X) → list_all p xs ≡ true → list_all p (take n xs) ≡ true
  taken zero xs h = refl
  taken (suc n) [] h = refl
  taken (suc n) (x ∷ xs) h = let t = and_parts (p x) (list_all p xs) h in and_from (p x) (list_all p (take n xs)) t.0 (taken n xs t.1)

-- the least of some events is one of them
one_of_two : (p : Event → Bool) (x b : Event) (t : Bool) → p x ≡ true → p b ≡ true → Passes p (if t then Some x else Some b)
unfolding Passes
one_of_two p x b true h k = h
one_of_two p x b false h k = k

lesser_passes : (p : Event → Bool) (best : Option Event) (x : Event) → Passes p best → p x ≡ true → Passes p (lesser_of best x)
unfolding Passes
lesser_passes p None x u h = h
lesser_passes p (Some b) x u h = one_of_two p x b (is_digest_below (digest_of x) (digest_of b)) h u

least_passes : (p : Event → Bool) (xs : List Event) (best : Option Event) → Passes p best → list_all p xs ≡ true → Passes p (fold lesser_of best xs)
least_passes p [] best u h = u
least_passes p (x ∷ xs) best u h = let t = and_parts (p x) (list_all p xs) h in least_passes p xs (lesser_of best x) (lesser_passes p best x u t.0) t.1

none_passes : {X : Type 0} (p : X → Bool) → Passes p None
unfolding Passes
none_passes p = tt

no_value : (v : ReadingValue) → ◌≡◌ {A = Option ReadingValue} None (Some v) → ⊥
no_value v h = cc

-- a list with rising indices, made index by index
module _ {X : Type 0} (to : X → Stated) (good : Stated → Bool) (h : ℕ → Option X) where
  -- what stands at an index has it, and is good
  IsAt : ℕ → Option X → Type 0
  IsAt i None = Unit {0}
  IsAt i (Some x) = ((to x).index ≡ i) × (good (to x) ≡ true)

  made : ℕ → ℕ → List X
  made a n = filter_map h (range_with_len a n)

  above : (b a : ℕ) (o : Option X) (xs : List X) → b < a → IsAt a o → list_all (λ x. nat_lt b (to x).index) xs ≡ true → list_all (λ x. nat_lt b (to x).index) (cons_option o xs) ≡ true
  unfolding IsAt
  above b a None xs l u k = k
  above b a (Some x) xs l u k = and_from (nat_lt b (to x).index) (list_all (λ x. nat_lt b (to x).index) xs) (lt-ltb b (to x).index (omega (arith, u.0))) k

  all_above : (b a n : ℕ) → b < a → ((i : ℕ) → i < a + n → IsAt i (h i)) → list_all (λ x. nat_lt b (to x).index) (made a n) ≡ true
  unfolding made
  all_above b a zero l f = refl
  all_above b a (suc n) l f = above b a (h a) (filter_map h (range_with_len (a + 1) n)) l (f a (omega arith)) (all_above b (a + 1) n (omega arith) (λ i k. f i (omega arith)))

  rising : (a : ℕ) (o : Option X) (xs : List X) → IsAt a o → ((b : ℕ) → b < a + 1 → list_all (λ x. nat_lt b (to x).index) xs ≡ true) → rises (λ x y. nat_lt (to x).index (to y).index) xs ≡ true
      → rises (λ x y. nat_lt (to x).index (to y).index) (cons_option o xs) ≡ true
  unfolding IsAt
  rising a None xs u g k = k
  rising a (Some x) xs u g k = and_from (list_all (λ y. nat_lt (to x).index (to y).index) xs) (rises (λ x y. nat_lt (to x).index (to y).index) xs) (g (to x).index (omega (arith, u.0))) k

  all_rise : (a n : ℕ) → ((i : ℕ) → i < a + n → IsAt i (h i)) → rises (λ x y. nat_lt (to x).index (to y).index) (made a n) ≡ true
  unfolding made
  all_rise a zero f = refl
  all_rise a (suc n) f =
      rising a (h a) (filter_map h (range_with_len (a + 1) n)) (f a (omega arith))
      (λ b l. all_above b (a + 1) n l (λ i k. f i (omega arith))) (all_rise (a + 1) n (λ i k. f i (omega arith)))

  goods : (a : ℕ) (o : Option X) (xs : List X) → IsAt a o → list_all (λ x. good (to x)) xs ≡ true → list_all (λ x. good (to x)) (cons_option o xs) ≡ true
  unfolding IsAt
  goods a None xs u k = k
  goods a (Some x) xs u k = and_from (good (to x)) (list_all (λ x. good (to x)) xs) u.1 k

  all_good : (a n : ℕ) → ((i : ℕ) → i < a + n → IsAt i (h i)) → list_all (λ x. good (to x)) (made a n) ≡ true
  unfolding made
  all_good a zero f = refl
  all_good a (suc n) f = goods a (h a) (filter_map h (range_with_len (a + 1) n)) (f a (omega arith)) (all_good (a + 1) n (λ i k. f i (omega arith)))

  mapped : (p : Stated → Bool) (ys : List X) → list_all (λ y. p (to y)) ys ≡ true → list_all p (map to ys) ≡ true
  mapped p [] r = refl
  mapped p (y ∷ ys) r = let t = and_parts (p (to y)) (list_all (λ y. p (to y)) ys) r in and_from (p (to y)) (list_all p (map to ys)) t.0 (mapped p ys t.1)

  -- of its first items
  first_rise : (k : ℕ) (xs : List X) → rises (λ x y. nat_lt (to x).index (to y).index) xs ≡ true → rises (λ x y. nat_lt x.index y.index) (map to (take k xs)) ≡ true
  first_rise zero xs r = refl
  first_rise (suc k) [] r = refl
  first_rise (suc k) (x ∷ xs) r =
      let t = and_parts (list_all (λ y. nat_lt (to x).index (to y).index) xs) (rises (λ x y. nat_lt (to x).index (to y).index) xs) r in
      and_from (list_all (λ y. nat_lt (to x).index y.index) (map to (take k xs))) (rises (λ x y. nat_lt x.index y.index) (map to (take k xs)))
      (mapped (λ y. nat_lt (to x).index y.index) (take k xs) (taken (λ y. nat_lt (to x).index (to y).index) k xs t.0)) (first_rise k xs t.1)

  first_good : (k a n : ℕ) → ((i : ℕ) → i < a + n → IsAt i (h i)) → list_all good (map to (take k (made a n))) ≡ true
  first_good k a n f = mapped good (take k (made a n)) (taken (λ x. good (to x)) k (made a n) (all_good a n f))

module _ (e : Evidence) (fits : FitsEvidence e) where
  request_passes : (asked : Counters) (caller : ℕ) → Passes (supports e) (request_for e asked caller)
  unfolding request_for
  request_passes asked caller =
      let ys = filter_map (kept_request e caller (counter_of asked.last caller 0 + 1)) (members_of e caller) in
      least_passes (supports e) (filter (is_due e asked) ys) None (none_passes (supports e)) (filtered (supports e) (is_due e asked) ys (λ x h. (and_parts (supports e x) (would_effect asked x) h).0))

  reply_passes : (called number : ℕ) → Passes (supports e) (reply_for e called number)
  reply_passes called number =
      let ys = filter_map (kept_reply e called number) (members_of e called) in
      least_passes (supports e) (filter (supports e) ys) None (none_passes (supports e)) (filtered (supports e) (supports e) ys (λ x h. h))

  by_waiting : (called number : ℕ) (b : Bool) → Passes (supports e) (if b then option_or (reply_for e called number) (abort_for e called number) else None)
  by_waiting called number true =
      or_passes (supports e) (reply_for e called number) (abort_for e called number) (reply_passes called number)
      (tested_passes (supports e) (abort_event called number) (supports e (abort_event called number)) refl)
  by_waiting called number false = none_passes (supports e)

  answers_pass : (asked : Counters) (called : ℕ) → list_all (supports e) (answers_from e asked called) ≡ true
  unfolding answers_from
  answers_pass asked called = map_passes (supports e) (answer_for e asked called) (range_with_len (least_waiting asked called) 16) (λ number. by_waiting called number (is_waiting asked.waiting called number))

  -- a replica's kept reading is one of its statements for the ask
  same_value_itself : (v : ReadingValue) → same_value v v ≡ true
  same_value_itself (value.Time ms) = eq-eqb ms ms refl
  same_value_itself (value.Share s) = (bytes_eq-Decides s s).1 refl

  read_of : (a b : ℕ) → ◌≡◌ {A = Option Matter} (Some (Read a)) (Some (Read b)) → a ≡ b
  read_of a b h = ap ask_of h
    where
      in_matter : Matter → ℕ
      in_matter (matter.Requested c n) = 0
      in_matter (matter.Replied c n) = 0
      in_matter (matter.Expired c n) = 0
      in_matter (matter.Read a) = a

      ask_of : Option Matter → ℕ
      ask_of None = 0
      ask_of (Some m) = in_matter m

  -- what is kept under the key of an ask, and has this value, is this reading
  is_reading_kept : (ask i : ℕ) (c : Content) (v : ReadingValue) → get e.statements (statement_key (replica e.group i) (Read ask)) ≡ Some c → value_in c ≡ Some v → same_statement c (reading_said ask v) ≡ true
  unfolding same_statement
  is_reading_kept ask i (content.Reading r) v h k =
      let a : r.ask ≡ ask = read_of r.ask ask ((fits.statements (statement_key (replica e.group i) (Read ask)) (content.Reading r) h).0) in
      let same : ◌≡◌ {A = Option ReadingValue} (Some r.value) (Some v) = k in
      let w : same_value r.value v ≡ true = subst (λ o. option_map_or (λ x. same_value r.value x) o false ≡ true) same (same_value_itself r.value) in
      and_from (r.ask == ask) (same_value r.value v) (eq-eqb r.ask ask a) w
  is_reading_kept ask i (content.Request r) v h k = absurd (no_value v k)
  is_reading_kept ask i (content.Reply r) v h k = absurd (no_value v k)
  is_reading_kept ask i (content.Part r) v h k = absurd (no_value v k)
  is_reading_kept ask i (content.Expired r) v h k = absurd (no_value v k)
  is_reading_kept ask i (content.PrePrepare r) v h k = absurd (no_value v k)
  is_reading_kept ask i (content.Prepare r) v h k = absurd (no_value v k)
  is_reading_kept ask i (content.Commit r) v h k = absurd (no_value v k)
  is_reading_kept ask i (content.Checkpoint r) v h k = absurd (no_value v k)
  is_reading_kept ask i (content.ViewChange r) v h k = absurd (no_value v k)
  is_reading_kept ask i (content.Ack r) v h k = absurd (no_value v k)
  is_reading_kept ask i (content.NewView r) v h k = absurd (no_value v k)
  is_reading_kept ask i (content.Relay r) v h k = absurd (no_value v k)
  is_reading_kept ask i (content.Fetch r) v h k = absurd (no_value v k)
  is_reading_kept ask i (content.Done r) v h k = absurd (no_value v k)
  is_reading_kept ask i (content.Need r) v h k = absurd (no_value v k)
  is_reading_kept ask i (content.Give r) v h k = absurd (no_value v k)

  is_said : (ask i : ℕ) (o : Option Content) (v : ReadingValue) → get e.statements (statement_key (replica e.group i) (Read ask)) ≡ o → option_and_then value_in o ≡ Some v → is_kept e (replica e.group i) (reading_said ask v) ≡ true
  unfolding is_kept
  is_said ask i None v h k = absurd (no_value v k)
  is_said ask i (Some c) v h k = subst (λ o. option_map_or (λ first. same_statement first (reading_said ask v)) o false ≡ true) (sym h) (is_reading_kept ask i c v h k)

  kept_is_said : (ask i : ℕ) (v : ReadingValue) → kept_value e ask i ≡ Some v → is_kept e (replica e.group i) (reading_said ask v) ≡ true
  kept_is_said ask i v h = is_said ask i (get e.statements (statement_key (replica e.group i) (Read ask))) v refl h

  size : ℕ
  size = slice_index e.layout e.group

  -- at each index what is kept is stated by the event
  abbrev time : Reading → Stated
  time r = record { index = r.index; value = value.Time r.ms }

  abbrev share : Share → Stated
  share s = record { index = s.index; value = value.Share s.bytes }

  abbrev good : ℕ → Stated → Bool
  good ask = is_read (is_kept e) (slice_index e.layout e.group) e.group ask

  time_at : (ask i : ℕ) (o : Option ReadingValue) → i < size_of_group (slice_index e.layout e.group) → kept_value e ask i ≡ o → IsAt time (good ask) (λ j. option_and_then (time_in j) (kept_value e ask j)) i (option_and_then (time_in i) o)
  unfolding IsAt
  time_at ask i None l h = tt
  time_at ask i (Some (value.Share s)) l h = tt
  time_at ask i (Some (value.Time ms)) l h = (refl, and_from (nat_lt i (size_of_group (slice_index e.layout e.group))) (is_kept e (replica e.group i) (reading_said ask (value.Time ms))) (lt-ltb i (size_of_group (slice_index e.layout e.group)) l) (kept_is_said ask i (value.Time ms) h))

  share_at : (ask i : ℕ) (o : Option ReadingValue) → i < size_of_group (slice_index e.layout e.group) → kept_value e ask i ≡ o → IsAt share (good ask) (λ j. option_and_then (share_in j) (kept_value e ask j)) i (option_and_then (share_in i) o)
  unfolding IsAt
  share_at ask i None l h = tt
  share_at ask i (Some (value.Time ms)) l h = tt
  share_at ask i (Some (value.Share s)) l h = (refl, and_from (nat_lt i (size_of_group (slice_index e.layout e.group))) (is_kept e (replica e.group i) (reading_said ask (value.Share s))) (lt-ltb i (size_of_group (slice_index e.layout e.group)) l) (kept_is_said ask i (value.Share s) h))

  -- the first 2f + 1 of them are enough
  enough : {X : Type 0} (to : X → Stated) (ask : ℕ) (xs : List X) → length (take (quorum_of (slice_index e.layout e.group)) xs) == quorum_of (slice_index e.layout e.group) ≡ true
      → rises (λ x y. nat_lt x.index y.index) (map to (take (quorum_of (slice_index e.layout e.group)) xs)) ≡ true → list_all (good ask) (map to (take (quorum_of (slice_index e.layout e.group)) xs)) ≡ true
      → are_read (is_kept e) (slice_index e.layout e.group) e.group ask (map to (take (quorum_of (slice_index e.layout e.group)) xs)) ≡ true
  enough to ask xs n r g =
      let q = quorum_of (slice_index e.layout e.group) in
      let ys = take q xs in
      let long : length (map to ys) ≡ length ys = length-map ys to in
      and_from (length (map to ys) == q) (rises (λ (x y : Stated). nat_lt x.index y.index) (map to ys) && list_all (good ask) (map to ys)) (subst (λ k. k == q ≡ true) (sym long) n)
      (and_from (rises (λ (x y : Stated). nat_lt x.index y.index) (map to ys)) (list_all (good ask) (map to ys)) r g)

  clock_passes : (ask : ℕ) (b : Bool) → length (take (quorum_of (slice_index e.layout e.group)) (kept_times e ask)) == quorum_of (slice_index e.layout e.group) ≡ b
      → Passes (supports e) (option_map (clock_event ask) (if b then Some (take (quorum_of (slice_index e.layout e.group)) (kept_times e ask)) else None))
  unfolding Passes supports supported_by support_of made
  clock_passes ask false h = tt
  clock_passes ask true h =
      let f : ℕ → Option Reading = λ i. option_and_then (time_in i) (kept_value e ask i) in
      enough time ask (kept_times e ask) h
      (first_rise time (good ask) f (quorum_of (slice_index e.layout e.group)) (kept_times e ask) (all_rise time (good ask) f 0 (size_of_group (slice_index e.layout e.group)) (λ i l. time_at ask i (kept_value e ask i) (omega (arith, l)) refl)))
      (first_good time (good ask) f (quorum_of (slice_index e.layout e.group)) 0 (size_of_group (slice_index e.layout e.group)) (λ i l. time_at ask i (kept_value e ask i) (omega (arith, l)) refl))

  random_passes : (ask : ℕ) (b : Bool) → length (take (quorum_of (slice_index e.layout e.group)) (kept_shares e ask)) == quorum_of (slice_index e.layout e.group) ≡ b
      → Passes (supports e) (option_map (random_event ask) (if b then Some (take (quorum_of (slice_index e.layout e.group)) (kept_shares e ask)) else None))
  unfolding Passes supports supported_by support_of made
  random_passes ask false h = tt
  random_passes ask true h =
      let f : ℕ → Option Share = λ i. option_and_then (share_in i) (kept_value e ask i) in
      enough share ask (kept_shares e ask) h
      (first_rise share (good ask) f (quorum_of (slice_index e.layout e.group)) (kept_shares e ask) (all_rise share (good ask) f 0 (size_of_group (slice_index e.layout e.group)) (λ i l. share_at ask i (kept_value e ask i) (omega (arith, l)) refl)))
      (first_good share (good ask) f (quorum_of (slice_index e.layout e.group)) 0 (size_of_group (slice_index e.layout e.group)) (λ i l. share_at ask i (kept_value e ask i) (omega (arith, l)) refl))

  sort_passes : (ask : ℕ) (s : Sort) → Passes (supports e) (answer_of_sort e ask s)
  sort_passes ask sort.Clock = clock_passes ask (length (take (quorum_of (slice_index e.layout e.group)) (kept_times e ask)) == quorum_of (slice_index e.layout e.group)) refl
  sort_passes ask sort.Random = random_passes ask (length (take (quorum_of (slice_index e.layout e.group)) (kept_shares e ask)) == quorum_of (slice_index e.layout e.group)) refl

  ask_passes : (ask : ℕ) (o : Option Sort) → Passes (supports e) (option_and_then (answer_of_sort e ask) o)
  ask_passes ask None = none_passes (supports e)
  ask_passes ask (Some s) = sort_passes ask s

  all_pass : (asked : Counters) → list_all (supports e) (candidates e asked) ≡ true
  unfolding candidates ask_answer
  all_pass asked =
      let a = filter_map (request_for e asked) (other_groups e) in
      let b = flat_map (answers_from e asked) (other_groups e) in
      let c = option_to_list (ask_answer e asked) in
      list_all-append (supports e) a (b ++ c) ∙ and_from (list_all (supports e) a) (list_all (supports e) (b ++ c)) (map_passes (supports e) (request_for e asked) (other_groups e) (λ x. request_passes asked x))
      (list_all-append (supports e) b c ∙ and_from (list_all (supports e) b) (list_all (supports e) c) (flat_passes (supports e) (answers_from e asked) (other_groups e) (λ x. answers_pass asked x))
      (some_passes (supports e) (ask_answer e asked) (ask_passes (asked.answered + 1) asked.ask)))

pub candidates_are_supported : CandidatesAreSupported
candidates_are_supported e asked fits = all_pass e fits asked
