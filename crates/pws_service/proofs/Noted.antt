-- One more act that is noted.
use Rattle.std.proofs.Common.{◌≡◌, ℕ, List, [], ◌∷◌, ◌++◌, refl, sym, ◌∙◌, ap}
use Rattle.std.specs.List.{filter_map}
use Rattle.std.proofs.lemmas.List.{append-nil}
use Rattle.std.proofs.lemmas.List.Elements.{filter_map-append}
use Rattle.pws_event.specs.declared.events.Event.{Event}
use Rattle.pws_event.specs.declared.readings.Sort.{Sort}
use Rattle.pws_event.specs.declared.readings.Sort.TheVariants as sort
use Rattle.pws_event.specs.Effects.{Acts, Call}
use Rattle.pws_event.specs.Histories.{with_call, with_ask}
use Rattle.pws_service.specs.declared.acts.Act.{Act}
use Rattle.pws_service.specs.declared.acts.Act.TheVariants as act
use Rattle.pws_service.specs.Effects.{call_in, ask_in, noted, with_act}

acts_more : (before : List Act) (a : Act) → noted (before ++ a ∷ []) ≡ record { calls = filter_map call_in before ++ filter_map call_in (a ∷ []); asks = filter_map ask_in before ++ filter_map ask_in (a ∷ []) }
unfolding noted
acts_more before a =
    ap (λ (cs : List Call). record { calls = cs; asks = filter_map ask_in (before ++ a ∷ []) }) (filter_map-append call_in before (a ∷ []))
    ∙ ap (λ (ss : List Sort). record { calls = filter_map call_in before ++ filter_map call_in (a ∷ []); asks = ss }) (filter_map-append ask_in before (a ∷ []))

abbrev acts_of : List Call → List Sort → Acts
acts_of calls asks = record { calls = calls; asks = asks }

no_asks : (before : List Act) (calls : List Call) → acts_of calls (filter_map ask_in before ++ []) ≡ acts_of calls (filter_map ask_in before)
no_asks before calls = ap (λ (ss : List Sort). acts_of calls ss) (append-nil (filter_map ask_in before))

no_calls : (before : List Act) (asks : List Sort) → acts_of (filter_map call_in before ++ []) asks ≡ acts_of (filter_map call_in before) asks
no_calls before asks = ap (λ (cs : List Call). acts_of cs asks) (append-nil (filter_map call_in before))

pub call_noted : (before : List Act) (called number low : ℕ) (body : List ℕ) (timeout : ℕ) → noted (before ++ act.Call called number low body timeout ∷ []) ≡ with_call called number (noted before)
unfolding noted
call_noted before called number low body timeout = acts_more before (act.Call called number low body timeout) ∙ no_asks before (filter_map call_in before ++ record { called = called; number = number } ∷ [])

pub clock_noted : (before : List Act) (ask : ℕ) → noted (before ++ act.AskClock ask ∷ []) ≡ with_ask sort.Clock (noted before)
unfolding noted
clock_noted before ask = acts_more before (act.AskClock ask) ∙ no_calls before (filter_map ask_in before ++ sort.Clock ∷ [])

pub random_noted : (before : List Act) (ask : ℕ) → noted (before ++ act.AskRandom ask ∷ []) ≡ with_ask sort.Random (noted before)
unfolding noted
random_noted before ask = acts_more before (act.AskRandom ask) ∙ no_calls before (filter_map ask_in before ++ sort.Random ∷ [])

neither : (before : List Act) → acts_of (filter_map call_in before ++ []) (filter_map ask_in before ++ []) ≡ acts_of (filter_map call_in before) (filter_map ask_in before)
neither before = no_asks before (filter_map call_in before ++ []) ∙ no_calls before (filter_map ask_in before)

pub reply_noted : (before : List Act) (caller number : ℕ) (body : List ℕ) → noted (before ++ act.Reply caller number body ∷ []) ≡ noted before
unfolding noted
reply_noted before caller number body = acts_more before (act.Reply caller number body) ∙ neither before

pub halt_noted : (before : List Act) → noted (before ++ act.Halted ∷ []) ≡ noted before
unfolding noted
halt_noted before = acts_more before act.Halted ∙ neither before

pub act_noted : (before : List Act) (a : Act) → noted (before ++ a ∷ []) ≡ with_act a (noted before)
act_noted before (act.Call called number low body timeout) = call_noted before called number low body timeout
act_noted before (act.Reply caller number body) = reply_noted before caller number body
act_noted before (act.AskClock ask) = clock_noted before ask
act_noted before (act.AskRandom ask) = random_noted before ask
act_noted before act.Halted = halt_noted before
