-- The latest request of a caller among the effects, and the counters that follow it.
use Rattle.std.proofs.Common.{◌≡◌, ◌≢◌, ℕ, ◌+◌, ◌<◌, Bool, true, false, List, [], ◌∷◌, ◌++◌, length, get_or, refl, sym, ◌∙◌, ap, arith, nat_eq, nat_lt, cond}
use Rattle.std.proofs.Math.ListN.{set}
use Rattle.std.proofs.lemmas.Grind.{fold-append, get_or-set_at}
use Rattle.std.proofs.lemmas.List.{get_or-set_other}
use Rattle.std.proofs.lemmas.Bool.Decides.{nat_tests}
use Rattle.pws_event.specs.Requests.{RequestFields}
use Rattle.pws_event.specs.declared.events.Event.{Event}
use Rattle.pws_event.specs.declared.events.Event.TheVariants as event
use Rattle.pws_base.specs.Replicas.{is_other}
use Rattle.pws_event.specs.Effects.{field_after, latest, is_next}
use Rattle.pws_event.specs.Counters.{counter_of, CountsRequests}

pub latest_after : (field : RequestFields → ℕ) (caller first : ℕ) (fx : List Event) (r : RequestFields) → latest field caller first (fx ++ event.Request r ∷ []) ≡ cond (nat_eq r.caller caller) (field r) (latest field caller first fx)
latest_after field caller first fx r = fold-append (field_after field caller) first fx (event.Request r ∷ [])

-- a request that takes effect has a caller of the layout, and the next number
pub next_caller : (me : ℕ) (layout : List ℕ) (last low : ℕ) (r : RequestFields) → is_next me layout last low r ≡ true → r.caller < length layout
next_caller me layout last low r h = grind (arith, nat_tests)

pub next_other : (me : ℕ) (layout : List ℕ) (last low : ℕ) (r : RequestFields) → is_next me layout last low r ≡ true → is_other me layout r.caller ≡ true
next_other me layout last low r h = grind (arith, nat_tests)

pub next_number : (me : ℕ) (layout : List ℕ) (last low : ℕ) (r : RequestFields) → is_next me layout last low r ≡ true → r.number ≡ last + 1
next_number me layout last low r h = grind (arith, nat_tests)

written_by : (xs : List ℕ) (i k y : ℕ) (b : Bool) → i < length xs → nat_eq i k ≡ b → get_or (set xs i y) k 0 ≡ cond b y (get_or xs k 0)
written_by xs i k y true h e = let same : k ≡ i = grind (arith, nat_tests) in get_or-set_at xs i k y 0 same h
written_by xs i k y false h e = let other : k ≢ i = grind (arith, nat_tests) in get_or-set_other xs i k y 0 other

-- what stands in a list after a write
pub written : (xs : List ℕ) (i k y : ℕ) → i < length xs → get_or (set xs i y) k 0 ≡ cond (nat_eq i k) y (get_or xs k 0)
written xs i k y h = written_by xs i k y (nat_eq i k) h refl

counter_by : (xs : List ℕ) (i k y none : ℕ) (b : Bool) → length xs ≡ 16 → i < 16 → nat_lt k 16 ≡ b → cond b (get_or (set xs i y) k 0) none ≡ cond (nat_eq i k) y (cond b (get_or xs k 0) none)
counter_by xs i k y none true size h e = written xs i k y (omega arith)
counter_by xs i k y none false size h e = let other : nat_eq i k ≡ false = grind (arith, nat_tests) in ap (λ b. cond b y none) (sym other)

-- a counter after a write
pub counter_written : (xs : List ℕ) (i k y none : ℕ) → length xs ≡ 16 → i < 16 → counter_of (set xs i y) k none ≡ cond (nat_eq i k) y (counter_of xs k none)
counter_written xs i k y none size h = counter_by xs i k y none (nat_lt k 16) size h refl

-- one more request that takes effect
pub requests_more : (last low : List ℕ) (fx : List Event) (r : RequestFields) → length last ≡ 16 → length low ≡ 16 → r.caller < 16 → CountsRequests last low fx → CountsRequests (set last r.caller r.number) (set low r.caller r.low) (fx ++ event.Request r ∷ [])
requests_more last low fx r a b k h = record {
  last = λ caller. counter_written last r.caller caller r.number 0 a k ∙ (ap (cond (nat_eq r.caller caller) r.number) (h.last caller) ∙ sym (latest_after (λ r. r.number) caller 0 fx r));
  low = λ caller. counter_written low r.caller caller r.low 1 b k ∙ (ap (cond (nat_eq r.caller caller) r.low) (h.low caller) ∙ sym (latest_after (λ r. r.low) caller 1 fx r));
}

-- one more effect that is no request
pub requests_same : (last low : List ℕ) (fx : List Event) (e : Event) → ((field : RequestFields → ℕ) (caller value : ℕ) → field_after field caller value e ≡ value) → CountsRequests last low fx → CountsRequests last low (fx ++ e ∷ [])
requests_same last low fx e same h = record {
  last = λ caller. h.last caller ∙ sym (fold-append (field_after (λ r. r.number) caller) 0 fx (e ∷ []) ∙ same (λ r. r.number) caller (latest (λ r. r.number) caller 0 fx));
  low = λ caller. h.low caller ∙ sym (fold-append (field_after (λ r. r.low) caller) 1 fx (e ∷ []) ∙ same (λ r. r.low) caller (latest (λ r. r.low) caller 1 fx));
}
