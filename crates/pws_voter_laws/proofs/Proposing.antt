-- What fits before an event is proposed fits after it: each candidate is in range.
use Rattle.std.proofs.Common.{◌≡◌, ◌⊎◌, inl, inr, ℕ, zero, suc, ◌+◌, ◌*◌, ◌^◌, ◌<◌, ◌≤◌, ◌==◌, ◌&&◌, ◌++◌, nat_lt, Bool, true, false, if◌then◌else◌, List, [], ◌∷◌, map, filter, length, Option, Some, None, Contains, refl, sym, ◌∙◌, ap, subst, arith}
use Rattle.std.specs.Prelude.{slice_get, slice_index, option_to_list, IsTrue}
use Rattle.std.specs.List.{fold, filter_map, flat_map, list_all, range_with_len}
use Rattle.std.specs.Option.{option_map, option_map_or, option_or}
use Rattle.std.specs.Str.{bytes_eq}
use Rattle.std.specs.FinMap.{get}
use Rattle.std.proofs.lemmas.Bool.{false≢true, and_parts, eqb-true, ltb-true, leb-true}
use Rattle.std.proofs.lemmas.List.{length-map}
use Rattle.std.proofs.lemmas.Slice.Eq.{bytes_eq-Decides}
use Rattle.sha2.specs.Sha256.{sha256}
use Rattle.sha2.proofs.Facts256.{length-sha256}
use Rattle.pws_base.specs.declared.shapes.ReplicaId.{ReplicaId}
use Rattle.pws_base.specs.Counts.{count_below}
use Rattle.pws_base.specs.Shapes.{size_of_group, quorum_of, weak_of}
use Rattle.pws_base.proofs.Members.{nowhere, here, there, first_or_rest, all_from, all_has, has_map, filter_has}
use Rattle.pws_event.specs.declared.readings.Reading.{Reading}
use Rattle.pws_event.specs.declared.readings.Share.{Share}
use Rattle.pws_event.specs.declared.readings.Sort.{Sort}
use Rattle.pws_event.specs.declared.readings.Sort.TheVariants as sort
use Rattle.pws_event.specs.declared.events.Event.{Event}
use Rattle.pws_event.specs.declared.events.Event.TheVariants as event
use Rattle.pws_event.specs.Readings.{RiseFrom, is_count}
use Rattle.pws_event.specs.Events.{IsEvent, digest_of, event_text}
use Rattle.pws_event.specs.Counters.{Counters, counter_of, least_waiting, is_waiting}
use Rattle.pws_msg.specs.declared.readings.ReadingValue.{ReadingValue}
use Rattle.pws_msg.specs.declared.readings.ReadingValue.TheVariants as value
use Rattle.pws_msg.specs.declared.contents.Content.{Content}
use Rattle.pws_msg.specs.declared.contents.Content.TheVariants as content
use Rattle.pws_msg.specs.Contents.{IsContent}
use Rattle.pws_msg.specs.Statements.{OwnRequestFields, ReplyNoteFields, CallNameFields, OwnReadingFields, IsOwnReading}
use Rattle.pws_change.specs.Rising.{rises, is_digest_below}
use Rattle.pws_protocol.specs.declared.keys.BodyKey.{BodyKey}
use Rattle.pws_protocol.specs.Keys.{replica, body_key, statement_key}
use Rattle.pws_protocol.specs.Evidence.{Evidence, matter_of, first_of, same_value, same_statement, is_request, is_reply, is_expired, is_reading, is_kept}
use Rattle.pws_protocol.specs.Support.{Stated, is_read, are_read, enough_say, supports, supported_by, support_of, reading_said}
use Rattle.pws_protocol.specs.Candidates.{lesser_of, other_groups, members_of, request_in, kept_request, is_due, request_for, reply_in, kept_reply, reply_for, abort_event, abort_for, answer_for, answers_from, answer_of_sort, kept_times, kept_shares, quorum_in, clock_event, random_event, ask_answer, candidates}
use Rattle.pws_protocol.specs.States.{State}
use Rattle.pws_protocol.specs.Fits.{FitsEvidence}
use Rattle.pws_protocol.specs.Actions as act
use Rattle.pws_protocol.specs.Actions.{next_place}
use Rattle.pws_protocol.specs.Doing.{did}
use Rattle.pws_protocol.proofs.Proposing.{candidates_are_supported}
use Rattle.pws_voter_laws.specs.Enabled.{IsEnabled}
use Rattle.pws_voter_laws.proofs.Fields.{accepted_fits, text_fits}
use Rattle.pws_voter_laws.proofs.Found.{nothing, same, guarded, passing, then_is, mapped, one_of_two}
use Rattle.pws_voter_laws.proofs.Parts.{Whole}
use Rattle.pws_voter_laws.proofs.Tests.{propose_is_open}
use Rattle.pws_voter_laws.proofs.Updates.{propose_is}

-- two statements that are the same are one
both : (a b : Bool) → (a && b) ≡ true → (a ≡ true) × (b ≡ true)
both a b h = and_parts a b h

request_same : (a : OwnRequestFields) (c : Content) → is_request a c ≡ true → content.Request a ≡ c
request_same a (content.Request b) h =
    let p = both (a.number == b.number) (a.low == b.low && bytes_eq a.body b.body) h in
    let q = both (a.low == b.low) (bytes_eq a.body b.body) p.1 in
    let n = eqb-true a.number b.number p.0 in
    let l = eqb-true a.low b.low q.0 in
    let t = (bytes_eq-Decides a.body b.body).0 q.1 in
    (λ i. content.Request (record { number = n i; low = l i; body = t i }))
request_same a _ h = absurd (false≢true h)

reply_same : (a : ReplyNoteFields) (c : Content) → is_reply a c ≡ true → content.Reply a ≡ c
reply_same a (content.Reply b) h =
    let p = both (a.caller == b.caller) (a.number == b.number && bytes_eq a.digest b.digest) h in
    let q = both (a.number == b.number) (bytes_eq a.digest b.digest) p.1 in
    let n = eqb-true a.caller b.caller p.0 in
    let l = eqb-true a.number b.number q.0 in
    let t = (bytes_eq-Decides a.digest b.digest).0 q.1 in
    (λ i. content.Reply (record { caller = n i; number = l i; digest = t i }))
reply_same a _ h = absurd (false≢true h)

expired_same : (a : CallNameFields) (c : Content) → is_expired a c ≡ true → content.Expired a ≡ c
expired_same a (content.Expired b) h =
    let p = both (a.called == b.called) (a.number == b.number) h in
    let n = eqb-true a.called b.called p.0 in
    let l = eqb-true a.number b.number p.1 in
    (λ i. content.Expired (record { called = n i; number = l i }))
expired_same a _ h = absurd (false≢true h)

value_same : (a b : ReadingValue) → same_value a b ≡ true → a ≡ b
value_same (value.Time a) (value.Time b) h = ap value.Time (eqb-true a b h)
value_same (value.Share a) (value.Share b) h = ap value.Share ((bytes_eq-Decides a b).0 h)
value_same (value.Time a) (value.Share b) h = absurd (false≢true h)
value_same (value.Share a) (value.Time b) h = absurd (false≢true h)

reading_same : (a : OwnReadingFields) (c : Content) → is_reading a c ≡ true → content.Reading a ≡ c
reading_same a (content.Reading b) h =
    let p = both (a.ask == b.ask) (same_value a.value b.value) h in
    let n = eqb-true a.ask b.ask p.0 in
    let l = value_same a.value b.value p.1 in
    (λ i. content.Reading (record { ask = n i; value = l i }))
reading_same a _ h = absurd (false≢true h)

same_is : (a c : Content) → same_statement a c ≡ true → a ≡ c
unfolding same_statement
same_is (content.Request a) c h = request_same a c h
same_is (content.Reply a) c h = reply_same a c h
same_is (content.Expired a) c h = expired_same a c h
same_is (content.Reading a) c h = reading_same a c h
same_is _ c h = absurd (false≢true h)

-- somebody is counted
some_counted : (n : ℕ) (t : ℕ → Bool) → 1 ≤ count_below n t → (i : ℕ) × (t i ≡ true)
some_counted zero t h = absurd (omega arith)
some_counted (suc n) t h = by (t n) refl h (some_counted n t)
  where
    by : (b : Bool) → t n ≡ b → 1 ≤ (if b then suc (count_below n t) else count_below n t) → (1 ≤ count_below n t → (i : ℕ) × (t i ≡ true)) → (i : ℕ) × (t i ≡ true)
    by true e h more = (n, e)
    by false e h more = more h

module _ (e : Evidence) (fits : FitsEvidence e) where
  -- what is kept of a replica is in range
  kept_in_range : (r : ReplicaId) (c : Content) → is_kept e r c ≡ true → IsContent c
  unfolding is_kept
  kept_in_range r c h =
      let m = passing (λ m. option_map_or (λ first. same_statement first c) (first_of e r m) false) (matter_of e.group r c) h in
      let p = passing (λ first. same_statement first c) (first_of e r m.0) m.2 in
      subst IsContent (same_is p.0 c p.2) (fits.statements (statement_key r m.0) p.0 p.1).1

  -- what enough replicas of a group say is in range, and the group is one of the layout
  said_in_range : (group : ℕ) (c : Content) → enough_say (is_kept e) e.layout group c ≡ true → IsContent c × ((f : ℕ) × (slice_get e.layout group ≡ Some f))
  said_in_range group c h =
      let p = passing _ (slice_get e.layout group) h in
      let l = leb-true (weak_of p.0) (count_below (size_of_group p.0) (λ i. is_kept e (replica group i) c)) p.2 in
      let s = some_counted (size_of_group p.0) (λ i. is_kept e (replica group i) c) (omega (arith, l)) in
      (kept_in_range (replica group s.0) c s.1, (p.0, p.1))

-- in a sum of lists
append_has : {X : Type 0} (xs ys : List X) (x : X) → Contains (xs ++ ys) x → Contains xs x ⊎ Contains ys x
append_has [] ys x c = inr c
append_has (y ∷ xs) ys x c = elim (first_or_rest y x (xs ++ ys) c) [
  | inl e ↦ inl (subst (λ z. Contains (y ∷ xs) z) e (here y xs))
  | inr r ↦ (elim (append_has xs ys x r) [ inl a ↦ inl (there y x xs a) | inr b ↦ inr b ])
]

flat_has : {A X : Type 0} (f : A → List X) (as' : List A) (x : X) → Contains (flat_map f as') x → (a : A) × Contains (f a) x
flat_has f [] x c = absurd (nowhere x c)
flat_has f (a ∷ as') x c = elim (append_has (f a) (flat_map f as') x c) [ inl l ↦ (a, l) | inr r ↦ flat_has f as' x r ]

option_has : {X : Type 0} (o : Option X) (x : X) → Contains (option_to_list o) x → o ≡ Some x
option_has None x c = absurd (nowhere x c)
option_has (Some y) x c = elim (first_or_rest y x [] c) [ inl e ↦ ap Some e | inr r ↦ absurd (nowhere x r) ]

map_is : {A X : Type 0} (f : A → X) (o : Option A) (x : X) → option_map f o ≡ Some x → (a : A) × (o ≡ Some a) × (f a ≡ x)
map_is f None x h = absurd (nothing x h)
map_is f (Some a) x h = (a, refl, same (f a) x h)

least_in : (xs : List Event) (best : Option Event) (x : Event) → fold lesser_of best xs ≡ Some x → (best ≡ Some x) ⊎ Contains xs x
least_in [] best x h = inl h
least_in (y ∷ xs) best x h = elim (least_in xs (lesser_of best y) x h) [
  | inl e ↦ by best e
  | inr r ↦ inr (there y x xs r)
]
  where
    by : (o : Option Event) → lesser_of o y ≡ Some x → (o ≡ Some x) ⊎ Contains (y ∷ xs) x
    by None e = inr (subst (λ z. Contains (y ∷ xs) z) (same y x e) (here y xs))
    by (Some b) e = elim (one_of_two (is_digest_below (digest_of y) (digest_of b)) y b x e) [
      | inl a ↦ inr (subst (λ z. Contains (y ∷ xs) z) (sym a) (here y xs))
      | inr a ↦ inl (ap Some (sym a))
    ]

least_found : (xs : List Event) (x : Event) → fold lesser_of None xs ≡ Some x → Contains xs x
least_found xs x h = elim (least_in xs None x h) [ inl e ↦ absurd (nothing x e) | inr c ↦ c ]

-- the body of a reply isn't too long
IsSmall : Event → Type 0
IsSmall (event.Reply r) = length r.body ≤ 32768
IsSmall _ = Unit {0}

module _ (e : Evidence) (short : (k : BodyKey) (body : List ℕ) → get e.bodies k ≡ Some body → length body ≤ 32768) where
  request_small : (caller : ℕ) (c : Content) (x : Event) → request_in caller c ≡ Some x → IsSmall x
  unfolding IsSmall
  request_small caller (content.Request r) x h = subst IsSmall (same (event.Request (record { caller = caller; number = r.number; low = r.low; body = r.body })) x h) tt
  request_small caller _ x h = absurd (nothing x h)

  request_for_small : (asked : Counters) (caller : ℕ) (x : Event) → request_for e asked caller ≡ Some x → IsSmall x
  unfolding request_for
  request_for_small asked caller x h =
      let ys = filter_map (kept_request e caller (counter_of asked.last caller 0 + 1)) (members_of e caller) in
      let a = filter_has (is_due e asked) ys x (least_found (filter (is_due e asked) ys) x h) in
      let m = mapped (kept_request e caller (counter_of asked.last caller 0 + 1)) (members_of e caller) x a.0 in
      let t = then_is (request_in caller) _ x m.2 in
      request_small caller t.0 x t.2

  reply_small : (called : ℕ) (c : Content) (x : Event) → reply_in e called c ≡ Some x → IsSmall x
  unfolding IsSmall
  reply_small called (content.Reply r) x h =
      let m = map_is (λ body. event.Reply (record { called = called; number = r.number; body = body })) (get e.bodies (body_key called r.number r.digest)) x h in
      subst IsSmall m.2 (short (body_key called r.number r.digest) m.0 m.1)
  reply_small called _ x h = absurd (nothing x h)

  reply_for_small : (called number : ℕ) (x : Event) → reply_for e called number ≡ Some x → IsSmall x
  reply_for_small called number x h =
      let ys = filter_map (kept_reply e called number) (members_of e called) in
      let a = filter_has (supports e) ys x (least_found (filter (supports e) ys) x h) in
      let m = mapped (kept_reply e called number) (members_of e called) x a.0 in
      let t = then_is (reply_in e called) _ x m.2 in
      reply_small called t.0 x t.2

  or_small : (a b : Option Event) (x : Event) → ((y : Event) → a ≡ Some y → IsSmall y) → ((y : Event) → b ≡ Some y → IsSmall y) → option_or a b ≡ Some x → IsSmall x
  or_small None b x f g h = g x h
  or_small (Some y) b x f g h = f x h

  answer_small : (asked : Counters) (called number : ℕ) (x : Event) → answer_for e asked called number ≡ Some x → IsSmall x
  unfolding IsSmall
  answer_small asked called number x h =
      let g = guarded (is_waiting asked.waiting called number) (option_or (reply_for e called number) (abort_for e called number)) x h in
      or_small (reply_for e called number) (abort_for e called number) x (reply_for_small called number)
      (λ y k. subst IsSmall (same (abort_event called number) y (guarded (supports e (abort_event called number)) (Some (abort_event called number)) y k).1) tt) g.1

  sort_small : (ask : ℕ) (s : Sort) (x : Event) → answer_of_sort e ask s ≡ Some x → IsSmall x
  unfolding IsSmall
  sort_small ask sort.Clock x h = let m = map_is (clock_event ask) (quorum_in e (kept_times e ask)) x h in subst IsSmall m.2 tt
  sort_small ask sort.Random x h = let m = map_is (random_event ask) (quorum_in e (kept_shares e ask)) x h in subst IsSmall m.2 tt

  candidate_small : (asked : Counters) (x : Event) → Contains (candidates e asked) x → IsSmall x
  unfolding candidates answers_from ask_answer
  candidate_small asked x c =
      let a = filter_map (request_for e asked) (other_groups e) in
      let b = flat_map (answers_from e asked) (other_groups e) in
      elim (append_has a (b ++ option_to_list (ask_answer e asked)) x c) [
        | inl l ↦ (let m = mapped (request_for e asked) (other_groups e) x l in request_for_small asked m.0 x m.2)
        | inr r ↦ (elim (append_has b (option_to_list (ask_answer e asked)) x r) [
          | inl l ↦ (
              let q = flat_has (answers_from e asked) (other_groups e) x l in
              let m = mapped (answer_for e asked q.0) (range_with_len (least_waiting asked q.0) 16) x q.1 in
              answer_small asked q.0 m.0 x m.2)
          | inr k ↦ (
              let t = then_is (answer_of_sort e (asked.answered + 1)) asked.ask x (option_has (ask_answer e asked) x k) in
              sort_small (asked.answered + 1) t.0 x t.2)
        ])
      ]

-- a group of the layout is below its length
pub group_below : (layout : List ℕ) (group f : ℕ) → slice_get layout group ≡ Some f → group < length layout
group_below [] group f h = absurd (nothing f h)
group_below (x ∷ xs) zero f h = omega arith
group_below (x ∷ xs) (suc n) f h = let r = group_below xs n f h in omega (arith, r)

index_of : (layout : List ℕ) (group f : ℕ) → slice_get layout group ≡ Some f → slice_index layout group ≡ f
index_of [] group f h = absurd (nothing f h)
index_of (x ∷ xs) zero f h = same x f h
index_of (x ∷ xs) (suc n) f h = index_of xs n f h

odd_count : (f : ℕ) → f ≤ 3 → IsTrue (is_count (2 * f + 1))
odd_count zero h = refl
odd_count (suc zero) h = refl
odd_count (suc (suc zero)) h = refl
odd_count (suc (suc (suc zero))) h = refl
odd_count (suc (suc (suc (suc n)))) h = absurd (omega arith)

module _ {X : Type 0} (ix : X → ℕ) (val : X → ReadingValue) where
  abbrev stated : X → Stated
  stated x = record { index = ix x; value = val x }

  rise_from : (xs : List X) (least : ℕ) → rises (λ (a b : Stated). nat_lt a.index b.index) (map stated xs) ≡ true → ((x : X) → Contains xs x → (least ≤ ix x) × (ix x ≤ 9)) → RiseFrom least (map ix xs)
  rise_from [] least h each = tt
  rise_from (x ∷ xs) least h each =
      let p = and_parts (list_all (λ (b : Stated). nat_lt (ix x) b.index) (map stated xs)) (rises (λ (a b : Stated). nat_lt a.index b.index) (map stated xs)) h in
      let first = each x (here x xs) in (
        first.0,
        first.1,
        rise_from xs (ix x + 1) p.1 (λ y c.
            let l = ltb-true (ix x) (ix y) (all_has (λ (b : Stated). nat_lt (ix x) b.index) (map stated xs) p.0 (stated y) (has_map stated xs y c)) in
            (omega (arith, l), (each y (there x y xs c)).1)),
      )

  module _ (e : Evidence) (fits : FitsEvidence e) (f : ℕ) (small : f ≤ 3) (ask : ℕ) (xs : List X) (read : are_read (is_kept e) f e.group ask (map stated xs) ≡ true) where
    parts : ((length (map stated xs) == quorum_of f) ≡ true) × (rises (λ (a b : Stated). nat_lt a.index b.index) (map stated xs) ≡ true) × (list_all (is_read (is_kept e) f e.group ask) (map stated xs) ≡ true)
    parts =
        let p = and_parts (length (map stated xs) == quorum_of f) _ read in
        let q = and_parts (rises (λ (a b : Stated). nat_lt a.index b.index) (map stated xs)) _ p.1 in
        (p.0, q.0, q.1)

    each_read : (x : X) → Contains xs x → (ix x < size_of_group f) × IsOwnReading (record { ask = ask; value = val x })
    each_read x c =
        let r = all_has (is_read (is_kept e) f e.group ask) (map stated xs) parts.2 (stated x) (has_map stated xs x c) in
        let p = and_parts (nat_lt (ix x) (size_of_group f)) (is_kept e (replica e.group (ix x)) (reading_said ask (val x))) r in
        (ltb-true (ix x) (size_of_group f) p.0, kept_in_range e fits (replica e.group (ix x)) (reading_said ask (val x)) p.1)

    many : length xs ≡ 2 * f + 1
    many = sym (length-map xs stated) ∙ eqb-true (length (map stated xs)) (quorum_of f) parts.0

    first_read : (1 ≤ ask) × (ask ≤ 1000000)
    first_read = by xs refl
      where
        by : (ys : List X) → ys ≡ xs → (1 ≤ ask) × (ask ≤ 1000000)
        by [] q = absurd (let l = many in let z : length xs ≡ 0 = ap length (sym q) in omega (arith, l, z))
        by (y ∷ ys) q = let r = (each_read y (subst (λ zs. Contains zs y) q (here y ys))).1 in (r.ask_from, r.ask_to)

    indices : RiseFrom 0 (map ix xs)
    indices = rise_from xs 0 parts.1 (λ x c. let l = (each_read x c).0 in (omega arith, omega (arith, l, small)))

    counts : IsTrue (is_count (length xs))
    counts = subst (λ n. IsTrue (is_count n)) (sym many) (odd_count f small)

-- what is supported is in range
module _ (e : Evidence) (fits : FitsEvidence e) (groups : length e.layout ≤ 16) (f : ℕ) (shape : slice_get e.layout e.group ≡ Some f) (small : f ≤ 3) where
  supported_in_range : (x : Event) → supports e x ≡ true → IsSmall x → IsEvent x
  unfolding supports supported_by support_of IsSmall
  supported_in_range event.Null h k = tt
  supported_in_range (event.Request r) h k =
      let s = said_in_range e fits r.caller (content.Request (record { number = r.number; low = r.low; body = r.body })) h in
      let l = group_below e.layout r.caller s.1.0 s.1.1 in
      record { caller = omega (arith, l, groups); number_from = s.0.number_from; number_to = s.0.number_to; low_from = s.0.low_from; low_to = s.0.low_to; body = s.0.body }
  supported_in_range (event.Reply r) h k =
      let s = said_in_range e fits r.called (content.Reply (record { caller = e.group; number = r.number; digest = sha256 r.body })) h in
      let l = group_below e.layout r.called s.1.0 s.1.1 in
      record { called = omega (arith, l, groups); number_from = s.0.number_from; number_to = s.0.number_to; body = k }
  supported_in_range (event.Abort a) h k =
      let s = said_in_range e fits e.group (content.Expired (record { called = a.called; number = a.number })) h in
      let l = s.0.called in
      record { called = omega (arith, l); number_from = s.0.number_from; number_to = s.0.number_to }
  supported_in_range (event.Clock c) h k =
      let read : are_read (is_kept e) f e.group c.ask (map (stated (λ (r : Reading). r.index) (λ (r : Reading). value.Time r.ms)) c.readings) ≡ true =
      subst (λ n. are_read (is_kept e) n e.group c.ask (map (stated (λ (r : Reading). r.index) (λ (r : Reading). value.Time r.ms)) c.readings) ≡ true) (index_of e.layout e.group f shape) h in
      let a = first_read (λ (r : Reading). r.index) (λ (r : Reading). value.Time r.ms) e fits f small c.ask c.readings read in
      record {
        ask_from = a.0;
        ask_to = a.1;
        count = counts (λ (r : Reading). r.index) (λ (r : Reading). value.Time r.ms) e fits f small c.ask c.readings read;
        indices = indices (λ (r : Reading). r.index) (λ (r : Reading). value.Time r.ms) e fits f small c.ask c.readings read;
        times = all_from (λ (r : Reading). r.ms < 2 ^ 64) c.readings (λ r i. (each_read (λ (r : Reading). r.index) (λ (r : Reading). value.Time r.ms) e fits f small c.ask c.readings read r i).1.value);
      }
  supported_in_range (event.Random c) h k =
      let read : are_read (is_kept e) f e.group c.ask (map (stated (λ (r : Share). r.index) (λ (r : Share). value.Share r.bytes)) c.shares) ≡ true =
      subst (λ n. are_read (is_kept e) n e.group c.ask (map (stated (λ (r : Share). r.index) (λ (r : Share). value.Share r.bytes)) c.shares) ≡ true) (index_of e.layout e.group f shape) h in
      let a = first_read (λ (r : Share). r.index) (λ (r : Share). value.Share r.bytes) e fits f small c.ask c.shares read in
      record {
        ask_from = a.0;
        ask_to = a.1;
        count = counts (λ (r : Share). r.index) (λ (r : Share). value.Share r.bytes) e fits f small c.ask c.shares read;
        indices = indices (λ (r : Share). r.index) (λ (r : Share). value.Share r.bytes) e fits f small c.ask c.shares read;
        sizes = all_from (λ (r : Share). length r.bytes ≡ 32) c.shares (λ r i. (each_read (λ (r : Share). r.index) (λ (r : Share). value.Share r.bytes) e fits f small c.ask c.shares read r i).1.value);
      }

pub candidate_in_range : (s : State) (asked : Counters) (x : Event) → Whole s → Contains (candidates s.evidence asked) x → IsEvent x
candidate_in_range s asked x f c =
    let own : slice_get s.evidence.layout s.evidence.group ≡ Some s.me.f = ap (slice_get s.evidence.layout) f.who.3 ∙ f.who.2 in
    supported_in_range s.evidence f.evidence f.who.4 s.me.f own f.who.1 x
    (all_has (supports s.evidence) (candidates s.evidence asked) (candidates_are_supported s.evidence asked f.evidence) x c)
    (candidate_small s.evidence f.bodies asked x c)

pub propose_fits : (s : State) (asked : Counters) (e : Event) → Whole s → IsEnabled s asked (act.Propose e) → Whole (did s (act.Propose e)).state
propose_fits s asked e f h =
    let o = propose_is_open s asked e h in
    let a = accepted_fits s f (next_place s) (digest_of e) o.0 (o.2.0, o.2.1, o.3) (length-sha256 (event_text e)) in
    subst Whole (sym (propose_is s e)) (text_fits _ a e (candidate_in_range s asked e f o.5))
