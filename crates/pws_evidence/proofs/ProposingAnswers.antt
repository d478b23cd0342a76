-- Which numbers wait, and what the next of several does to the best of them.
use Rattle.std.proofs.Common.{◌≡◌, ℕ, ◌+◌, ◌≤◌, ◌&&◌, is_some, Bool, true, false, if◌then◌else◌, List, ◌++◌, filter, Option, Some, sym, ◌∙◌, ap, arith}
use Rattle.std.specs.Prelude.{slice_index, nat_lt}
use Rattle.std.specs.List.{filter_map, range_with_len}
use Rattle.std.specs.Option.{option_map_or, option_to_list}
use Rattle.std.specs.FinMap.{get}
use Rattle.pws_event.specs.Counters.{Counters, IsCounters, is_waiting, counter_of}
use Rattle.pws_event.specs.declared.events.Event.{Event}
use Rattle.pws_protocol.specs.Keys.{body_key}
use Rattle.pws_protocol.specs.Evidence.{Evidence, is_kept}
use Rattle.pws_protocol.specs.Support.{supports, enough_say}
use Rattle.pws_protocol.specs.Candidates.{least_event}
use Rattle.pws_evidence.specs.Counted.{reply_content}
use Rattle.pws_evidence.specs.Proposed.{reply_under, better_of}
use Rattle.pws_evidence.specs.Stores.{IsStore}
use Rattle.pws_evidence.proofs.Bettered.{least_more, reply_due}
use Rattle.pws_evidence.proofs.Ranged.{first_options_more}

counter_small : (n : ℕ) (b : Bool) → n ≤ 1000000 → (if b then n else 0) ≤ 1000000
counter_small n true l = l
counter_small n false l = omega arith

-- the number of a call that waits is in range
pub waiting_small : (c : Counters) (called number : ℕ) → IsCounters c → is_waiting c.waiting called number ≡ true → number ≤ 1000000
waiting_small c called number s h =
    let l : number ≤ counter_of c.called called 0 = (s.window called number h).0 in
    let m : counter_of c.called called 0 ≤ 1000000 = counter_small (slice_index c.called called) (nat_lt called 16) (s.few called) in
    omega (arith, l, m)

-- a reply whose body is held is supported where enough say it
pub held_reply : (e : Evidence) (called number : ℕ) (digest body : List ℕ) → IsStore e → get e.bodies (body_key called number digest) ≡ Some body
    → enough_say (is_kept e) e.layout called (reply_content e.group number digest) ≡ option_map_or (supports e) (reply_under e called number digest) false
held_reply e called number digest body s h =
    sym (ap (λ (o : Option (List ℕ)). is_some o && enough_say (is_kept e) e.layout called (reply_content e.group number digest)) h) ∙ reply_due e called number digest s

-- the best after one more that is better or not
pub best_more : (due : Event → Bool) (h : ℕ → Option Event) (n : ℕ) (best next : Option Event) → best ≡ least_event (filter due (filter_map h (range_with_len 0 n))) → next ≡ better_of due best (h n) → next ≡ least_event (filter due (filter_map h (range_with_len 0 (n + 1))))
best_more due h n best next e f = f ∙ (ap (λ b. better_of due b (h n)) e ∙ sym (least_more due h n))

-- the options of the indices, with one more that is added
pub push_more : {X : Type 0} (h : ℕ → Option X) (n : ℕ) (xs ys : List X) (o : Option X) → xs ≡ filter_map h (range_with_len 0 n) → o ≡ h n → ys ≡ xs ++ option_to_list o → ys ≡ filter_map h (range_with_len 0 (n + 1))
push_more {X = X} h n xs ys o e f g =
    g ∙ (ap (λ (z : Option X). xs ++ option_to_list z) f ∙ (ap (λ (zs : List X). zs ++ option_to_list (h n)) e ∙ sym (first_options_more h n)))
