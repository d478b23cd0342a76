-- Acts that may be noted, one after the other.
use Rattle.std.proofs.Common.{◌≡◌, ℕ, suc, ◌+◌, ◌<◌, List, [], ◌∷◌, ◌++◌, length, get_or, take, drop, sym, ◌∙◌, ap, append_assoc, add-one}
use Rattle.std.proofs.Math.Seq.{drop-cons, take-suc}
use Rattle.pws_event.specs.declared.events.Event.{Event}
use Rattle.pws_event.specs.Counters.{Counters, HasTaken}
use Rattle.pws_service.specs.declared.acts.Act.{Act}
use Rattle.pws_service.specs.declared.acts.Act.TheVariants as act
use Rattle.pws_service.specs.Effects.{InTurn}
use Rattle.pws_service.specs.Lawful.{LawfulCalls, LawfulAsks, CallAfter, AskAfter}
use Rattle.pws_service.specs.Noting.{led, MayNote, CanNote}
use Rattle.pws_service.proofs.Splits.{calls_split, asks_split}
use Rattle.pws_service.proofs.Calls.{may_call}
use Rattle.pws_service.proofs.Asks.{may_ask}

may_note : (c : Counters) (a : Act) (serve : List Event → List Act) (es : List Event) (before : List Act) → HasTaken c (led before es) → InTurn c.me c.layout serve [] es
    → LawfulCalls c.me c.layout es [] before → LawfulAsks es [] before → CallAfter c.me c.layout es before a → AskAfter es before a → MayNote c a
may_note c (act.Call called number low body timeout) serve es before h t calls asks l m = may_call c es before (record { group = called; number = number }) low body h calls l
may_note c (act.Reply caller number body) serve es before h t calls asks l m = tt
may_note c (act.AskClock ask) serve es before h t calls asks l m = may_ask c serve es before ask h t asks m
may_note c (act.AskRandom ask) serve es before h t calls asks l m = may_ask c serve es before ask h t asks m
may_note c act.Halted serve es before h t calls asks l m = tt

pub can_first : (c : Counters) (a : Act) (acts : List Act) → CanNote c (a ∷ acts) → MayNote c a
can_first c a acts h =
    let x = calls_split c.me c.layout h.effects [] h.before (a ∷ acts) h.calls in
    let y = asks_split h.effects [] h.before (a ∷ acts) h.asks in
    may_note c a h.serve h.effects h.before h.taken h.turn x.0 y.0 x.1.0 y.1.0

pub can_rest : (c d : Counters) (a : Act) (acts : List Act) → CanNote c (a ∷ acts) → ((es : List Event) (before : List Act) → HasTaken c (led before es) → HasTaken d (led (before ++ a ∷ []) es)) → d.me ≡ c.me → d.layout ≡ c.layout → CanNote d acts
can_rest c d a acts h more me layout = record {
  serve = h.serve;
  effects = h.effects;
  before = h.before ++ a ∷ [];
  taken = more h.effects h.before h.taken;
  turn = rw (me, layout) h.turn;
  calls = rw (me, layout, append_assoc h.before (a ∷ []) acts) h.calls;
  asks = rw (append_assoc h.before (a ∷ []) acts) h.asks;
}

drop_at : (xs : List Act) (i : ℕ) (a : Act) → i < length xs → a ≡ get_or xs i a → drop i xs ≡ a ∷ drop (i + 1) xs
drop_at xs i a h e = rw add-one (drop-cons xs i a h ∙ ap (λ (x : Act). x ∷ drop (suc i) xs) (sym e))

take_at : (xs : List Act) (i : ℕ) (a : Act) → i < length xs → a ≡ get_or xs i a → take (i + 1) xs ≡ take i xs ++ a ∷ []
take_at xs i a h e = rw add-one (take-suc xs i a h ∙ ap (λ (x : Act). take i xs ++ x ∷ []) (sym e))

pub first_at : (c : Counters) (xs : List Act) (i : ℕ) (a : Act) → i < length xs → a ≡ get_or xs i a → CanNote c (drop i xs) → MayNote c a
first_at c xs i a h e n = can_first c a (drop (i + 1) xs) (rw (← drop_at xs i a h e) n)

pub rest_at : (c d : Counters) (xs : List Act) (i : ℕ) (a : Act) → i < length xs → a ≡ get_or xs i a → CanNote c (drop i xs)
    → ((es : List Event) (before : List Act) → HasTaken c (led before es) → HasTaken d (led (before ++ a ∷ []) es)) → d.me ≡ c.me → d.layout ≡ c.layout → CanNote d (drop (i + 1) xs)
rest_at c d xs i a h e n more me layout = can_rest c d a (drop (i + 1) xs) (rw (← drop_at xs i a h e) n) more me layout

pub led_at : (b c d : Counters) (xs : List Act) (i : ℕ) (a : Act) → i < length xs → a ≡ get_or xs i a
    → ((es : List Event) (before : List Act) → HasTaken b (led before es) → HasTaken c (led (before ++ take i xs) es))
    → ((es : List Event) (before : List Act) → HasTaken c (led before es) → HasTaken d (led (before ++ a ∷ []) es))
    → (es : List Event) (before : List Act) → HasTaken b (led before es) → HasTaken d (led (before ++ take (i + 1) xs) es)
led_at b c d xs i a h e f g es before t = rw (take_at xs i a h e, ← append_assoc before (take i xs) (a ∷ [])) (g es (before ++ take i xs) (f es before t))
