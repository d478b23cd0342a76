-- Lawful calls and replies go to other groups.
use Rattle.std.proofs.Common.{◌≡◌, ◌⊎◌, inl, inr, ℕ, ◌+◌, ◌<◌, ◌≤◌, ◌==◌, Bool, true, false, not, ◌&&◌, ◌||◌, nat_eq, nat_lt, nat_le, List, [], ◌∷◌, ◌++◌, length, refl, sym, ◌∙◌, ap, arith, subst}
use Rattle.std.specs.List.{list_any, list_all}
use Rattle.std.proofs.lemmas.Bool.Decides.{nat_tests}
use Rattle.pws_event.specs.declared.events.Event.{Event}
use Rattle.pws_event.specs.declared.events.Event.TheVariants as event
use Rattle.pws_base.specs.Replicas.{is_other}
use Rattle.pws_event.specs.Effects.{last_of, low_of}
use Rattle.pws_service.specs.declared.keys.Key.{Key}
use Rattle.pws_service.specs.declared.acts.Act.{Act}
use Rattle.pws_service.specs.declared.acts.Act.TheVariants as act
use Rattle.pws_service.specs.Keys.{request_key}
use Rattle.pws_service.specs.Effects.{takes_effect_after, InTurn}
use Rattle.pws_service.specs.Lawful.{is_request, reaches_other, CallAfter, LawfulCalls, ReplyAfter, LawfulReplies}

first_and : (a b c d e : Bool) → (a && b && c && d && e) ≡ true → a ≡ true
first_and true b c d e h = refl
first_and false b c d e h = let i : ◌≡◌ {A = Bool} false true = h in absurd (cc)

or_true : (a b : Bool) → (a || b) ≡ true → (a ≡ true) ⊎ (b ≡ true)
or_true true b h = inl refl
or_true false b h = inr h

same_group : (a b : ℕ) (c : Bool) → (nat_eq a b && c) ≡ true → b ≡ a
same_group a b c h = grind (arith, nat_tests)

-- a request that takes effect comes from another group of the layout
caller_is_other : (me : ℕ) (layout : List ℕ) (acts : List Act) (before : List Event) (k : Key) (e : Event) → takes_effect_after me layout acts before e ≡ true → is_request k e ≡ true → is_other me layout k.group ≡ true
caller_is_other me layout acts before k event.Null t h = let i : ◌≡◌ {A = Bool} false true = h in absurd (cc)
caller_is_other me layout acts before k (event.Request r) t h =
    let o : is_other me layout r.caller ≡ true = first_and (is_other me layout r.caller) (r.number == last_of r.caller before + 1) (nat_le (low_of r.caller before) r.low) (nat_le r.low r.number) (nat_lt r.number (r.low + 16)) t in
    let same : r.caller ≡ k.group = same_group k.group r.caller (nat_eq k.number r.number) h in
    subst (λ (g : ℕ). is_other me layout g ≡ true) same o
caller_is_other me layout acts before k (event.Reply r) t h = let i : ◌≡◌ {A = Bool} false true = h in absurd (cc)
caller_is_other me layout acts before k (event.Abort a) t h = let i : ◌≡◌ {A = Bool} false true = h in absurd (cc)
caller_is_other me layout acts before k (event.Clock c) t h = let i : ◌≡◌ {A = Bool} false true = h in absurd (cc)
caller_is_other me layout acts before k (event.Random r) t h = let i : ◌≡◌ {A = Bool} false true = h in absurd (cc)

callers_are_others : (me : ℕ) (layout : List ℕ) (serve : List Event → List Act) (k : Key) (before es : List Event) → InTurn me layout serve before es → list_any (is_request k) es ≡ true → is_other me layout k.group ≡ true
callers_are_others me layout serve k before [] t h = let i : ◌≡◌ {A = Bool} false true = h in absurd (cc)
callers_are_others me layout serve k before (e ∷ es) t h = elim (or_true (is_request k e) (list_any (is_request k) es) h) [
  | inl a ↦ caller_is_other me layout (serve before) before k e t.0 a
  | inr a ↦ callers_are_others me layout serve k (before ++ e ∷ []) es t.1 a
]

other : (me : ℕ) (layout : List ℕ) (g : ℕ) → g < length layout → nat_eq g me ≡ false → is_other me layout g ≡ true
other me layout g a b = grind (arith, nat_tests)

reaches : (me : ℕ) (layout : List ℕ) (serve : List Event → List Act) (es : List Event) (before : List Act) (a : Act) → InTurn me layout serve [] es → CallAfter me layout es before a → ReplyAfter es before a → reaches_other me layout a ≡ true
reaches me layout serve es before (act.Call called number low body timeout) t c r = other me layout called c.group c.other
reaches me layout serve es before (act.Reply caller number body) t c r = callers_are_others me layout serve (record { group = caller; number = number }) [] es t r.request
reaches me layout serve es before (act.AskClock ask) t c r = refl
reaches me layout serve es before (act.AskRandom ask) t c r = refl
reaches me layout serve es before act.Halted t c r = refl

all_cons : {A : Type 0} (p : A → Bool) (x : A) (xs : List A) → p x ≡ true → list_all p xs ≡ true → list_all p (x ∷ xs) ≡ true
all_cons p x xs h t = rw (h, t) refl

pub acts_reach : (me : ℕ) (layout : List ℕ) (serve : List Event → List Act) (es : List Event) (before acts : List Act) → InTurn me layout serve [] es → LawfulCalls me layout es before acts → LawfulReplies es before acts → list_all (reaches_other me layout) acts ≡ true
acts_reach me layout serve es before [] t c r = refl
acts_reach me layout serve es before (a ∷ acts) t c r = all_cons (reaches_other me layout) a acts (reaches me layout serve es before a t c.0 r.0) (acts_reach me layout serve es (before ++ a ∷ []) acts t c.1 r.1)
