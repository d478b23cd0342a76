-- The best of several events, step by step.
use Rattle.std.proofs.Common.{◌≡◌, ℕ, ◌&&◌, is_some, Bool, true, false, if◌then◌else◌, cond, ◌+◌, List, [], ◌∷◌, filter, Option, Some, None, refl, sym, ◌∙◌, ap}
use Rattle.std.specs.List.{filter_map, fold, range_with_len}
use Rattle.std.specs.Option.{option_map, option_map_or, option_and_then, option_to_list}
use Rattle.std.proofs.lemmas.List.Elements.{filter-append}
use Rattle.std.proofs.lemmas.List.Sums.{fold-append}
use Rattle.std.specs.FinMap.{get, contains_key}
use Rattle.pws_event.specs.declared.events.Event.{Event}
use Rattle.pws_event.specs.declared.events.Event.TheVariants as event
use Rattle.pws_event.specs.Events.{digest_of}
use Rattle.pws_msg.specs.declared.contents.Content.{Content}
use Rattle.pws_msg.specs.declared.contents.Content.TheVariants as content
use Rattle.pws_change.specs.Rising.{is_digest_below}
use Rattle.pws_protocol.specs.declared.keys.Matter.{Matter}
use Rattle.pws_protocol.specs.declared.keys.Matter.TheVariants.{Replied}
use Rattle.pws_protocol.specs.declared.keys.Matter.TheVariants as matter
use Rattle.pws_protocol.specs.Keys.{replica, statement_key, body_key}
use Rattle.pws_protocol.specs.Evidence.{Evidence, first_of, matter_of, is_kept}
use Rattle.pws_protocol.specs.Support.{supports, supported_by, support_of, enough_say}
use Rattle.pws_protocol.specs.Candidates.{lesser_of, least_event, kept_reply, reply_in}
use Rattle.pws_evidence.specs.Counted.{reply_content}
use Rattle.pws_evidence.specs.Proposed.{reply_under, lesser_if, better_of}
use Rattle.pws_evidence.specs.Stores.{IsStore, reply_digest_in}
use Rattle.pws_evidence.proofs.Ranged.{first_options_more}

one_of : (y : Event) (a b : Bool) → (if a then (if b then Some y else Some y) else Some y) ≡ Some y
one_of y true true = refl
one_of y true false = refl
one_of y false b = refl

-- the best stays where the other is the best itself
pub same_stays : (due : Event → Bool) (best x : Option Event) → best ≡ x → better_of due best x ≡ best
same_stays due best None h = refl
same_stays due best (Some y) h = ap (λ b. better_of due b (Some y)) h ∙ (one_of y (due y) (is_digest_below (digest_of y) (digest_of y)) ∙ sym h)

if_by : (best : Option Event) (x : Option Event) (b : Bool) → b ≡ false → (if b then x else best) ≡ best
if_by best x true h = absurd (cc)
if_by best x false h = refl

-- and where the other isn't there or fails the test
pub fails_stays : (due : Event → Bool) (best x : Option Event) → option_map_or due x false ≡ false → better_of due best x ≡ best
fails_stays due best None h = refl
fails_stays due best (Some y) h = if_by best (lesser_of best y) (due y) h

then_by : (best : Option Event) (x : Option Event) (b : Bool) → b ≡ true → x ≡ (if b then x else best)
then_by best x true h = refl
then_by best x false h = absurd (cc)

-- where the other passes, the lesser is better
pub passes_lesser : (due : Event → Bool) (best x : Option Event) → option_map_or due x false ≡ true → lesser_if best x ≡ better_of due best x
passes_lesser due best None h = refl
passes_lesser due best (Some y) h = then_by best (lesser_of best y) (due y) h

-- the lesser of what is there
pub lesser_none : (x : Option Event) → x ≡ lesser_if None x
lesser_none None = refl
lesser_none (Some y) = refl

number_of : (a b c d : ℕ) → ◌≡◌ {A = Option Matter} (Some (Replied a b)) (Some (Replied c d)) → b ≡ d
number_of a b c d h = ap in_option h
  where
    in_matter : Matter → ℕ
    in_matter (matter.Requested c n) = 0
    in_matter (matter.Replied c n) = n
    in_matter (matter.Expired c n) = 0
    in_matter (matter.Read a) = 0

    in_option : Option Matter → ℕ
    in_option None = 0
    in_option (Some m) = in_matter m

no_matter : (m : Matter) → ◌≡◌ {A = Option Matter} None (Some m) → ⊥
no_matter m h = cc

replied_by : (e : Evidence) (called index number a n : ℕ) (b : Bool) → (if b then Some (Replied called n) else None) ≡ Some (Replied called number) → n ≡ number
replied_by e called index number a n true h = number_of called n called number h
replied_by e called index number a n false h = absurd (no_matter (Replied called number) h)

-- the event of a kept reply is told by its digest
digest_tells_at : (e : Evidence) (called index number : ℕ) (c : Content) → matter_of e.group (replica called index) c ≡ Some (Replied called number) → option_and_then (reply_under e called number) (reply_digest_in c) ≡ reply_in e called c
digest_tells_at e called index number (content.Reply r) h =
    ap (λ n. option_map (λ body. event.Reply (record { called = called; number = n; body = body })) (get e.bodies (body_key called n r.digest))) (sym (replied_by e called index number r.caller r.number _ h))
digest_tells_at e called index number (content.Request r) h = refl
digest_tells_at e called index number (content.Part r) h = refl
digest_tells_at e called index number (content.Expired r) h = refl
digest_tells_at e called index number (content.Reading r) h = refl
digest_tells_at e called index number (content.PrePrepare r) h = refl
digest_tells_at e called index number (content.Prepare r) h = refl
digest_tells_at e called index number (content.Commit r) h = refl
digest_tells_at e called index number (content.Checkpoint r) h = refl
digest_tells_at e called index number (content.ViewChange r) h = refl
digest_tells_at e called index number (content.Ack r) h = refl
digest_tells_at e called index number (content.NewView r) h = refl
digest_tells_at e called index number (content.Relay r) h = refl
digest_tells_at e called index number (content.Fetch r) h = refl
digest_tells_at e called index number (content.Done r) h = refl
digest_tells_at e called index number (content.Need r) h = refl
digest_tells_at e called index number (content.Give r) h = refl

pub digest_tells : (e : Evidence) (called index number : ℕ) (c : Content) → IsStore e → Some c ≡ first_of e (replica called index) (Replied called number)
    → option_and_then (reply_under e called number) (reply_digest_in c) ≡ kept_reply e called number index
digest_tells e called index number c s h =
    digest_tells_at e called index number c (s.fits.statements (statement_key (replica called index) (Replied called number)) c (sym h)).0
    ∙ ap (option_and_then (reply_in e called)) h

due_at : (e : Evidence) (called number : ℕ) (digest : List ℕ) (o : Option (List ℕ)) → IsStore e → get e.bodies (body_key called number digest) ≡ o
    → (is_some o && enough_say (is_kept e) e.layout called (reply_content e.group number digest)) ≡ option_map_or (supports e) (option_map (λ body. event.Reply (record { called = called; number = number; body = body })) o) false
unfolding supports supported_by support_of
due_at e called number digest None s h = refl
due_at e called number digest (Some body) s h =
    ap (λ d. enough_say (is_kept e) e.layout called (reply_content e.group number d)) (sym (s.fits.bodies (body_key called number digest) body h))

-- a reply that enough say is supported where its body is held
pub reply_due : (e : Evidence) (called number : ℕ) (digest : List ℕ) → IsStore e
    → (contains_key e.bodies (body_key called number digest) && enough_say (is_kept e) e.layout called (reply_content e.group number digest)) ≡ option_map_or (supports e) (reply_under e called number digest) false
reply_due e called number digest s = due_at e called number digest (get e.bodies (body_key called number digest)) s refl

better_go : (due : Event → Bool) (best : Option Event) (o : Option Event) (b : Bool) (x : Event) → due x ≡ b → fold lesser_of best (cond b (x ∷ []) []) ≡ (if b then lesser_of best x else best)
better_go due best o true x e = refl
better_go due best o false x e = refl

better_by : (due : Event → Bool) (best : Option Event) (o : Option Event) → fold lesser_of best (filter due (option_to_list o)) ≡ better_of due best o
better_by due best None = refl
better_by due best (Some x) = better_go due best None (due x) x refl

-- the least of those that are due, with one more
pub least_more : (due : Event → Bool) (h : ℕ → Option Event) (n : ℕ) → least_event (filter due (filter_map h (range_with_len 0 (n + 1)))) ≡ better_of due (least_event (filter due (filter_map h (range_with_len 0 n)))) (h n)
least_more due h n =
    ap (λ xs. least_event (filter due xs)) (first_options_more h n)
    ∙ (ap least_event (filter-append due (filter_map h (range_with_len 0 n)) (option_to_list (h n)))
    ∙ (fold-append lesser_of None (filter due (filter_map h (range_with_len 0 n))) (filter due (option_to_list (h n)))
    ∙ better_by due (least_event (filter due (filter_map h (range_with_len 0 n)))) (h n)))
