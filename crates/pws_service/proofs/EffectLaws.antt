-- The events of a list that take effect do so in turn.
use Rattle.std.proofs.Common.{◌≡◌, ℕ, Bool, true, false, cond, List, [], ◌∷◌, ◌++◌, refl, sym, ◌∙◌, ap, append_assoc}
use Rattle.std.specs.List.{fold}
use Rattle.std.proofs.lemmas.List.{append-nil}
use Rattle.std.proofs.lemmas.List.Sums.{fold-append}
use Rattle.pws_event.specs.declared.events.Event.{Event}
use Rattle.pws_service.specs.declared.acts.Act.{Act}
use Rattle.pws_event.specs.Effects.{with_event}
use Rattle.pws_service.specs.Effects.{noted, takes_effect_after, InTurn, effects_of}

in_turn_from : (me : ℕ) (layout : List ℕ) (f : List Event → List Act) (before es : List Event) (e : Event) → InTurn me layout f before es → takes_effect_after me layout (f (before ++ es)) (before ++ es) e ≡ true → InTurn me layout f before (es ++ e ∷ [])
in_turn_from me layout f before [] e t h = (rw (← append-nil before) h, tt)
in_turn_from me layout f before (x ∷ es) e t h = (t.0, in_turn_from me layout f (before ++ x ∷ []) es e t.1 (rw (append_assoc before (x ∷ []) es) h))

pub in_turn_more : (me : ℕ) (layout : List ℕ) (f : List Event → List Act) (es : List Event) (e : Event) → InTurn me layout f [] es → takes_effect_after me layout (f es) es e ≡ true → InTurn me layout f [] (es ++ e ∷ [])
in_turn_more me layout f es e t h = in_turn_from me layout f [] es e t h

in_turn_if : (me : ℕ) (layout : List ℕ) (f : List Event → List Act) (es : List Event) (e : Event) (b : Bool) → takes_effect_after me layout (f es) es e ≡ b → InTurn me layout f [] es → InTurn me layout f [] (cond b (es ++ e ∷ []) es)
in_turn_if me layout f es e true h t = in_turn_more me layout f es e t h
in_turn_if me layout f es e false h t = t

in_turn_fold : (me : ℕ) (layout : List ℕ) (f : List Event → List Act) (events es : List Event) → InTurn me layout f [] es → InTurn me layout f [] (fold (with_event me layout (λ before. noted (f before))) es events)
in_turn_fold me layout f [] es t = t
in_turn_fold me layout f (e ∷ events) es t = in_turn_fold me layout f events (with_event me layout (λ before. noted (f before)) es e) (in_turn_if me layout f es e (takes_effect_after me layout (f es) es e) refl t)

pub effects_in_turn : (me : ℕ) (layout : List ℕ) (f : List Event → List Act) (events : List Event) → InTurn me layout f [] (effects_of me layout f events)
effects_in_turn me layout f events = in_turn_fold me layout f events [] tt
