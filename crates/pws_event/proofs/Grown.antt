-- The effects of a longer list begin with those of the shorter.
use Rattle.std.proofs.Common.{◌≡◌, ℕ, Bool, true, false, List, [], ◌∷◌, ◌++◌, refl, sym, ◌∙◌, ap, cond, append_assoc, append-nil}
use Rattle.std.specs.List.{fold}
use Rattle.std.proofs.lemmas.Grind.{fold-append}
use Rattle.pws_event.specs.declared.events.Event.{Event}
use Rattle.pws_event.specs.Effects.{Acts, takes_effect, with_event, effects}
use Rattle.pws_event.specs.Laws.{EffectsGrow}

grown_by : (fx : List Event) (e : Event) (b : Bool) → (more : List Event) × (cond b (fx ++ e ∷ []) fx ≡ fx ++ more)
grown_by fx e true = (e ∷ [], refl)
grown_by fx e false = ([], sym (append-nil fx))

grown_fold : (me : ℕ) (layout : List ℕ) (acts : List Event → Acts) (fx events : List Event) → (more : List Event) × (fold (with_event me layout acts) fx events ≡ fx ++ more)
grown_fold me layout acts fx [] = ([], sym (append-nil fx))
grown_fold me layout acts fx (e ∷ events) =
    let first = grown_by fx e (takes_effect me layout (acts fx) fx e) in
    let rest = grown_fold me layout acts (with_event me layout acts fx e) events in
    (first.0 ++ rest.0, rest.1 ∙ (ap (λ xs. xs ++ rest.0) first.1 ∙ append_assoc fx first.0 rest.0))

pub effects_grow : EffectsGrow
effects_grow me layout acts earlier later =
    let more = grown_fold me layout acts (effects me layout acts earlier) later in
    (more.0, fold-append (with_event me layout acts) [] earlier later ∙ more.1)
