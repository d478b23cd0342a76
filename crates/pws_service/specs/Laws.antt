-- What follows from the rules of effects and acts alone; this project's own.
use Rattle.std.specs.Prelude.{◌≡◌, ℕ, true, List, [], ◌∷◌, ◌++◌, None}
use Rattle.std.specs.List.{list_all}
use Rattle.pws_event.specs.declared.events.Event.{Event}
use Rattle.pws_event.specs.Counters.{Counters, HasTaken, CanCall}
use Rattle.pws_service.specs.declared.keys.Key.{Key}
use Rattle.pws_service.specs.declared.acts.Act.{Act}
use Rattle.pws_service.specs.Effects.{noted, with_act, takes_effect_after, InTurn, effects_of}
use Rattle.pws_service.specs.Lawful.{reaches_other, IsLawfulCall, LawfulCalls, LawfulReplies, IsLawfulAsk, LawfulAsks}
use Rattle.pws_service.specs.Noting.{led}

-- the events of a list that take effect do so in turn
abbrev pub EffectsAreInTurn : Type 0
EffectsAreInTurn = (me : ℕ) (layout : List ℕ) (serve : List Event → List Act) (events : List Event) → InTurn me layout serve [] (effects_of me layout serve events)

-- one event more that takes effect does so in turn
abbrev pub TurnsGrow : Type 0
TurnsGrow = (me : ℕ) (layout : List ℕ) (serve : List Event → List Act) (es : List Event) (e : Event) → InTurn me layout serve [] es → takes_effect_after me layout (serve es) es e ≡ true → InTurn me layout serve [] (es ++ e ∷ [])

-- what one act more adds to what was called and asked
abbrev pub NotesGrow : Type 0
NotesGrow = (before : List Act) (a : Act) → noted (before ++ a ∷ []) ≡ with_act a (noted before)

-- lawful acts are lawful part by part
abbrev pub LawsSplit : Type 0
LawsSplit = (me : ℕ) (layout : List ℕ) (es : List Event) (before acts more : List Act) →
    (LawfulCalls me layout es before (acts ++ more) → LawfulCalls me layout es before acts × LawfulCalls me layout es (before ++ acts) more)
    × ((LawfulReplies es before (acts ++ more) → LawfulReplies es before acts × LawfulReplies es (before ++ acts) more)
    × (LawfulAsks es before (acts ++ more) → LawfulAsks es before acts × LawfulAsks es (before ++ acts) more))

-- a call that is lawful after these acts may be noted by counters that have taken them
abbrev pub CallsMayBeNoted : Type 0
CallsMayBeNoted = (c : Counters) (es : List Event) (before : List Act) (k : Key) (low : ℕ) (body : List ℕ) →
    HasTaken c (led before es) → LawfulCalls c.me c.layout es [] before → IsLawfulCall c.me c.layout es before k low body → CanCall c k.group k.number

-- no ask waits by counters that have taken these acts, where one more ask is lawful after them
abbrev pub AsksMayBeNoted : Type 0
AsksMayBeNoted = (c : Counters) (serve : List Event → List Act) (es : List Event) (before : List Act) (ask : ℕ) →
    HasTaken c (led before es) → InTurn c.me c.layout serve [] es → LawfulAsks es [] before → IsLawfulAsk es before ask → c.ask ≡ None

-- lawful calls and replies go to other groups of the layout
abbrev pub ActsReachOthers : Type 0
ActsReachOthers = (me : ℕ) (layout : List ℕ) (serve : List Event → List Act) (es : List Event) (before acts : List Act) →
    InTurn me layout serve [] es → LawfulCalls me layout es before acts → LawfulReplies es before acts → list_all (reaches_other me layout) acts ≡ true
