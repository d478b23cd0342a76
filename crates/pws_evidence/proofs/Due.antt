-- Each candidate would take effect.
use Rattle.std.proofs.Common.{◌≡◌, ℕ, ◌+◌, ◌&&◌, ◌==◌, ◌++◌, cond, Bool, true, false, if◌then◌else◌, List, [], ◌∷◌, Option, Some, None, refl, sym, ◌∙◌, ap, subst}
use Rattle.std.specs.Prelude.{slice_index, filter, option_to_list, length, take}
use Rattle.std.specs.List.{fold, list_all, filter_map, cons_option, flat_map, range_with_len}
use Rattle.std.specs.Option.{option_map, option_or, option_and_then, option_map_or}
use Rattle.std.specs.FinMap.{get}
use Rattle.std.proofs.lemmas.Bool.{and_parts, and_from, eq-eqb}
use Rattle.std.proofs.lemmas.List.Folds.{list_all-append}
use Rattle.pws_base.specs.Shapes.{quorum_of}
use Rattle.pws_event.specs.declared.readings.Sort.{Sort}
use Rattle.pws_event.specs.declared.readings.Sort.TheVariants as sort
use Rattle.pws_event.specs.declared.events.Event.{Event}
use Rattle.pws_event.specs.declared.events.Event.TheVariants as event
use Rattle.pws_event.specs.Effects.{is_sort}
use Rattle.pws_event.specs.Events.{digest_of}
use Rattle.pws_event.specs.Counters.{Counters, counter_of, least_waiting, is_waiting, would_answer, would_effect}
use Rattle.pws_msg.specs.declared.contents.Content.{Content}
use Rattle.pws_msg.specs.declared.contents.Content.TheVariants as content
use Rattle.pws_change.specs.Rising.{is_digest_below}
use Rattle.pws_protocol.specs.declared.keys.Matter.{Matter}
use Rattle.pws_protocol.specs.declared.keys.Matter.TheVariants.{Replied}
use Rattle.pws_protocol.specs.declared.keys.Matter.TheVariants as matter
use Rattle.pws_protocol.specs.Keys.{replica, statement_key, body_key}
use Rattle.pws_protocol.specs.Evidence.{Evidence}
use Rattle.pws_protocol.specs.Support.{supports}
use Rattle.pws_protocol.specs.Candidates.{lesser_of, other_groups, members_of, kept_request, is_due, request_for, kept_reply, reply_in, reply_for, abort_event, abort_for, answer_for, answers_from, kept_times, kept_shares, clock_event, random_event, answer_of_sort, ask_answer, candidates}
use Rattle.pws_protocol.specs.Fits.{FitsEvidence}
use Rattle.pws_protocol.proofs.Proposing.{candidates_are_supported}
use Rattle.pws_evidence.specs.Laws.{CandidatesAreDue}

-- what is there passes a test
Passes : {X : Type 0} → (X → Bool) → Option X → Type 0
Passes p None = Unit {0}
Passes p (Some x) = p x ≡ true

none_passes : {X : Type 0} (p : X → Bool) → Passes p None
unfolding Passes
none_passes p = tt

module _ {X : Type 0} (p : X → Bool) where
  cons_passes : (o : Option X) (xs : List X) → Passes p o → list_all p xs ≡ true → list_all p (cons_option o xs) ≡ true
  unfolding Passes
  cons_passes None xs u k = k
  cons_passes (Some x) xs u k = and_from (p x) (list_all p xs) u k

  or_passes : (o q : Option X) → Passes p o → Passes p q → Passes p (option_or o q)
  unfolding Passes
  or_passes None q u v = v
  or_passes (Some x) q u v = u

  some_passes : (o : Option X) → Passes p o → list_all p (option_to_list o) ≡ true
  unfolding Passes
  some_passes None u = refl
  some_passes (Some x) u = and_from (p x) true u refl

  if_passes : (x : X) (b : Bool) → p x ≡ true → Passes p (if b then Some x else None)
  unfolding Passes
  if_passes x true h = h
  if_passes x false h = tt

  map_passes : {A : Type 0} (h : A → Option X) (xs : List A) → ((x : A) → Passes p (h x)) → list_all p (filter_map h xs) ≡ true
  map_passes h [] f = refl
  map_passes h (x ∷ xs) f = cons_passes (h x) (filter_map h xs) (f x) (map_passes h xs f)

  flat_passes : {A : Type 0} (h : A → List X) (xs : List A) → ((x : A) → list_all p (h x) ≡ true) → list_all p (flat_map h xs) ≡ true
  flat_passes h [] f = refl
  flat_passes h (x ∷ xs) f = list_all-append p (h x) (flat_map h xs) ∙ and_from (list_all p (h x)) (list_all p (flat_map h xs)) (f x) (flat_passes h xs f)

  tested_step : (q : X → Bool) (x : X) (rest : List X) (b : Bool) → q x ≡ b → ((x : X) → q x ≡ true → p x ≡ true) → list_all p rest ≡ true → list_all p (cond b (x ∷ rest) rest) ≡ true
  tested_step q x rest true e f h = and_from (p x) (list_all p rest) (f x e) h
  tested_step q x rest false e f h = h

  -- those that pass a test by which they pass this one
  tested : (q : X → Bool) (xs : List X) → ((x : X) → q x ≡ true → p x ≡ true) → list_all p (filter q xs) ≡ true
  tested q [] f = refl
  tested q (x ∷ xs) f = tested_step q x (filter q xs) (q x) refl f (tested q xs f)

  kept_step : (x : X) (rest : List X) (b : Bool) → p x ≡ true → list_all p rest ≡ true → list_all p (cond b (x ∷ rest) rest) ≡ true
  kept_step x rest true u h = and_from (p x) (list_all p rest) u h
  kept_step x rest false u h = h

  -- some of those that pass
  kept : (q : X → Bool) (xs : List X) → list_all p xs ≡ true → list_all p (filter q xs) ≡ true
  kept q [] h = refl
  kept q (x ∷ xs) h = let t = and_parts (p x) (list_all p xs) h in kept_step x (filter q xs) (q x) t.0 (kept q xs t.1)

both_pass : {X : Type 0} (p q : X → Bool) (xs : List X) → list_all p xs ≡ true → list_all q xs ≡ true → list_all (λ x. p x && q x) xs ≡ true
both_pass p q [] h k = refl
both_pass p q (x ∷ xs) h k =
    let t = and_parts (p x) (list_all p xs) h in
    let u = and_parts (q x) (list_all q xs) k in
    and_from (p x && q x) (list_all (λ x. p x && q x) xs) (and_from (p x) (q x) t.0 u.0) (both_pass p q xs t.1 u.1)

-- the least of some events is one of them
one_of_two : (p : Event → Bool) (x b : Event) (t : Bool) → p x ≡ true → p b ≡ true → Passes p (if t then Some x else Some b)
unfolding Passes
one_of_two p x b true h k = h
one_of_two p x b false h k = k

lesser_passes : (p : Event → Bool) (best : Option Event) (x : Event) → Passes p best → p x ≡ true → Passes p (lesser_of best x)
unfolding Passes
lesser_passes p None x u h = h
lesser_passes p (Some b) x u h = one_of_two p x b (is_digest_below (digest_of x) (digest_of b)) h u

least_passes : (p : Event → Bool) (xs : List Event) (best : Option Event) → Passes p best → list_all p xs ≡ true → Passes p (fold lesser_of best xs)
least_passes p [] best u h = u
least_passes p (x ∷ xs) best u h = let t = and_parts (p x) (list_all p xs) h in least_passes p xs (lesser_of best x) (lesser_passes p best x u t.0) t.1

-- the number of the call that a matter is a reply to
called_number : Option Matter → ℕ
called_number None = 0
called_number (Some (matter.Requested c n)) = 0
called_number (Some (matter.Replied c n)) = n
called_number (Some (matter.Expired c n)) = 0
called_number (Some (matter.Read a)) = 0

no_matter : (m : Matter) → ◌≡◌ {A = Option Matter} None (Some m) → ⊥
no_matter m h = cc

-- a reply stands under the number of its call
number_is : (b : Bool) (called r number : ℕ) → ◌≡◌ {A = Option Matter} (if b then Some (Replied called r) else None) (Some (Replied called number)) → r ≡ number
unfolding called_number
number_is true called r number h = ap called_number h
number_is false called r number h = absurd (no_matter (Replied called number) h)

module _ (e : Evidence) (asked : Counters) (fits : FitsEvidence e) where
  request_takes : (caller : ℕ) → Passes (would_effect asked) (request_for e asked caller)
  unfolding request_for
  request_takes caller =
      let ys = filter_map (kept_request e caller (counter_of asked.last caller 0 + 1)) (members_of e caller) in
      least_passes (would_effect asked) (filter (is_due e asked) ys) None (none_passes (would_effect asked))
      (tested (would_effect asked) (is_due e asked) ys (λ x h. (and_parts (supports e x) (would_effect asked x) h).1))

  -- the reply to a call that waits
  body_takes : (called number n : ℕ) (o : Option (List ℕ)) → is_waiting asked.waiting called number ≡ true → n ≡ number
      → Passes (would_effect asked) (option_map (λ body. event.Reply (record { called = called; number = n; body = body })) o)
  unfolding Passes
  body_takes called number n None w q = tt
  body_takes called number n (Some body) w q = subst (λ k. is_waiting asked.waiting called k ≡ true) (sym q) w

  reply_takes : (called number index : ℕ) (o : Option Content) → is_waiting asked.waiting called number ≡ true
      → get e.statements (statement_key (replica called index) (Replied called number)) ≡ o → Passes (would_effect asked) (option_and_then (reply_in e called) o)
  unfolding Passes
  reply_takes called number index None w h = tt
  reply_takes called number index (Some (content.Reply r)) w h =
      body_takes called number r.number (get e.bodies (body_key called r.number r.digest)) w
      (number_is (r.caller == e.group) called r.number number ((fits.statements (statement_key (replica called index) (Replied called number)) (content.Reply r) h).0))
  reply_takes called number index (Some (content.Request r)) w h = tt
  reply_takes called number index (Some (content.Part r)) w h = tt
  reply_takes called number index (Some (content.Expired r)) w h = tt
  reply_takes called number index (Some (content.Reading r)) w h = tt
  reply_takes called number index (Some (content.PrePrepare r)) w h = tt
  reply_takes called number index (Some (content.Prepare r)) w h = tt
  reply_takes called number index (Some (content.Commit r)) w h = tt
  reply_takes called number index (Some (content.Checkpoint r)) w h = tt
  reply_takes called number index (Some (content.ViewChange r)) w h = tt
  reply_takes called number index (Some (content.Ack r)) w h = tt
  reply_takes called number index (Some (content.NewView r)) w h = tt
  reply_takes called number index (Some (content.Relay r)) w h = tt
  reply_takes called number index (Some (content.Fetch r)) w h = tt
  reply_takes called number index (Some (content.Done r)) w h = tt
  reply_takes called number index (Some (content.Need r)) w h = tt
  reply_takes called number index (Some (content.Give r)) w h = tt

  replies_take : (called number : ℕ) → is_waiting asked.waiting called number ≡ true → Passes (would_effect asked) (reply_for e called number)
  replies_take called number w =
      let ys = filter_map (kept_reply e called number) (members_of e called) in
      least_passes (would_effect asked) (filter (supports e) ys) None (none_passes (would_effect asked))
      (kept (would_effect asked) (supports e) ys (map_passes (would_effect asked) (kept_reply e called number) (members_of e called)
      (λ i. reply_takes called number i (get e.statements (statement_key (replica called i) (Replied called number))) w refl)))

  answer_takes : (called number : ℕ) (b : Bool) → is_waiting asked.waiting called number ≡ b
      → Passes (would_effect asked) (if b then option_or (reply_for e called number) (abort_for e called number) else None)
  answer_takes called number true w =
      or_passes (would_effect asked) (reply_for e called number) (abort_for e called number) (replies_take called number w)
      (if_passes (would_effect asked) (abort_event called number) (supports e (abort_event called number)) w)
  answer_takes called number false w = none_passes (would_effect asked)

  answers_take : (called : ℕ) → list_all (would_effect asked) (answers_from e asked called) ≡ true
  unfolding answers_from
  answers_take called =
      map_passes (would_effect asked) (answer_for e asked called) (range_with_len (least_waiting asked called) 16)
      (λ number. answer_takes called number (is_waiting asked.waiting called number) refl)

  -- the answer to the ask that waits
  waits_for : (s : Sort) → asked.ask ≡ Some s → would_answer asked (asked.answered + 1) s ≡ true
  waits_for sort.Clock h = ap (λ (o : Option Sort). option_map_or (λ w. asked.answered + 1 == asked.answered + 1 && is_sort w sort.Clock) o false) h ∙ and_from (asked.answered + 1 == asked.answered + 1) true (eq-eqb (asked.answered + 1) (asked.answered + 1) refl) refl
  waits_for sort.Random h = ap (λ (o : Option Sort). option_map_or (λ w. asked.answered + 1 == asked.answered + 1 && is_sort w sort.Random) o false) h ∙ and_from (asked.answered + 1 == asked.answered + 1) true (eq-eqb (asked.answered + 1) (asked.answered + 1) refl) refl

  made_takes : {X : Type 0} (make : List X → Event) (xs : List X) (b : Bool) → would_effect asked (make xs) ≡ true → Passes (would_effect asked) (option_map make (if b then Some xs else None))
  unfolding Passes
  made_takes make xs true h = h
  made_takes make xs false h = tt

  ask_takes : (o : Option Sort) → asked.ask ≡ o → Passes (would_effect asked) (option_and_then (answer_of_sort e (asked.answered + 1)) o)
  unfolding Passes
  ask_takes None h = tt
  ask_takes (Some sort.Clock) h =
      let q = quorum_of (slice_index e.layout e.group) in
      let xs = take q (kept_times e (asked.answered + 1)) in
      made_takes (clock_event (asked.answered + 1)) xs (length xs == q) (waits_for sort.Clock h)
  ask_takes (Some sort.Random) h =
      let q = quorum_of (slice_index e.layout e.group) in
      let xs = take q (kept_shares e (asked.answered + 1)) in
      made_takes (random_event (asked.answered + 1)) xs (length xs == q) (waits_for sort.Random h)

  all_take : list_all (would_effect asked) (candidates e asked) ≡ true
  unfolding candidates ask_answer
  all_take =
      let a = filter_map (request_for e asked) (other_groups e) in
      let b = flat_map (answers_from e asked) (other_groups e) in
      let c = option_to_list (ask_answer e asked) in
      list_all-append (would_effect asked) a (b ++ c) ∙ and_from (list_all (would_effect asked) a) (list_all (would_effect asked) (b ++ c)) (map_passes (would_effect asked) (request_for e asked) (other_groups e) (λ x. request_takes x))
      (list_all-append (would_effect asked) b c ∙ and_from (list_all (would_effect asked) b) (list_all (would_effect asked) c) (flat_passes (would_effect asked) (answers_from e asked) (other_groups e) (λ x. answers_take x))
      (some_passes (would_effect asked) (ask_answer e asked) (ask_takes asked.ask refl)))

pub candidates_are_due : CandidatesAreDue
candidates_are_due e asked fits = both_pass (supports e) (would_effect asked) (candidates e asked) (candidates_are_supported e asked fits) (all_take e asked fits)
