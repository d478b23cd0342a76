-- A driver and counters that are led together, one event further.
use Rattle.std.proofs.Common.{◌≡◌, ℕ, Bool, true, false, cond, List, [], ◌∷◌, ◌++◌, refl, sym, ◌∙◌, ap, subst}
use Rattle.std.proofs.lemmas.List.{append-nil}
use Rattle.pws_event.specs.declared.events.Event.{Event}
use Rattle.pws_event.specs.declared.effects.Taken.{Taken}
use Rattle.pws_event.specs.declared.effects.Taken.TheVariants as got
use Rattle.pws_event.specs.Counters.{Counters, HasTaken}
use Rattle.pws_event.specs.Histories.{nothing}
use Rattle.pws_service.specs.declared.acts.Act.{Act}
use Rattle.pws_service.specs.Effects.{noted, takes_effect_after, InTurn}
use Rattle.pws_service.specs.Lawful.{LawfulCalls, LawfulAsks}
use Rattle.pws_service.specs.Noting.{led, CanNote}
use Rattle.pws_service.specs.Holders.{IsLed}

pub took : (b : Bool) → ◌≡◌ {A = Taken} got.Taken (cond b got.Taken got.Void) → b ≡ true
took true h = refl
took false h = absurd (cc)

pub void : (b : Bool) → ◌≡◌ {A = Taken} got.Void (cond b got.Taken got.Void) → b ≡ false
void true h = absurd (cc)
void false h = refl

-- the counters after an event that took effect
pub led_took : (c : Counters) (acts : List Act) (es : List Event) (e : Event) (b : Bool) → b ≡ true → HasTaken c (record { acts = noted acts; effects = cond b (es ++ e ∷ []) es }) → HasTaken c (led acts (es ++ e ∷ []))
led_took c acts es e true h t = t
led_took c acts es e false h t = absurd (cc)

pub can_note_by : (c : Counters) (serve : List Event → List Act) (es : List Event) (before acts all : List Act) → HasTaken c (led before es) → InTurn c.me c.layout serve [] es → all ≡ before ++ acts → LawfulCalls c.me c.layout es [] all → LawfulAsks es [] all → CanNote c acts
can_note_by c serve es before acts all h t e calls asks = record {
  serve = serve;
  effects = es;
  before = before;
  taken = h;
  turn = t;
  calls = rw (← e) calls;
  asks = rw (← e) asks;
}

-- ---- what a driver did, by whether the event took effect

pub acts_void : (serve : List Event → List Act) (es : List Event) (e : Event) (xs : List Act) (b : Bool) → b ≡ false → xs ≡ [] → serve (cond b (es ++ e ∷ []) es) ≡ serve es ++ xs
acts_void serve es e xs true h n = absurd (cc)
acts_void serve es e xs false h n = rw (n, append-nil (serve es)) refl

pub acts_took : (serve : List Event → List Act) (es : List Event) (e : Event) (xs : List Act) (b : Bool) → b ≡ true → serve (es ++ e ∷ []) ≡ serve es ++ xs → serve (cond b (es ++ e ∷ []) es) ≡ serve es ++ xs
acts_took serve es e xs true h n = n
acts_took serve es e xs false h n = absurd (cc)

pub is_led_void : (Took : List Event → Type 0) (serve : List Event → List Act) (c d : Counters) (es : List Event) (e : Event) (b : Bool) → b ≡ false → d.me ≡ c.me → d.layout ≡ c.layout → IsLed Took serve c es → HasTaken d (record { acts = noted (serve es); effects = cond b (es ++ e ∷ []) es }) → IsLed Took serve d (cond b (es ++ e ∷ []) es)
is_led_void Took serve c d es e true h me layout l t = absurd (cc)
is_led_void Took serve c d es e false h me layout l t = record { driver = l.driver; counters = t; turn = rw (me, layout) l.turn }

pub is_led_took : (Took : List Event → Type 0) (serve : List Event → List Act) (d : Counters) (es : List Event) (e : Event) (acts : List Act) (b : Bool) → b ≡ true → Took (es ++ e ∷ []) → serve (es ++ e ∷ []) ≡ serve es ++ acts → HasTaken d (led (serve es ++ acts) (es ++ e ∷ [])) → InTurn d.me d.layout serve [] (es ++ e ∷ []) → IsLed Took serve d (cond b (es ++ e ∷ []) es)
is_led_took Took serve d es e acts true h took goes t turn = record { driver = took; counters = rw goes t; turn = turn }
is_led_took Took serve d es e acts false h took goes t turn = absurd (cc)

-- ---- before the first event

pub led_nothing : (c : Counters) → HasTaken c nothing → HasTaken c (led [] [])
unfolding noted
led_nothing c t = t
