-- The lawful acts of a driver, each after the acts before it and on the effects of the whole list; this project's own
-- rules.
use Rattle.std.specs.Prelude.{◌≡◌, ℕ, ◌+◌, ◌<◌, ◌≤◌, ◌==◌, nat_eq, max, Bool, true, false, if◌then◌else◌, List, [], ◌∷◌, ◌++◌, length}
use Rattle.std.specs.List.{fold, list_any, count_by}
use Rattle.pws_base.specs.Limits.{max_number, max_body, call_window}
use Rattle.pws_event.specs.declared.events.Event.{Event}
use Rattle.pws_event.specs.declared.events.Event.TheVariants as event
use Rattle.pws_base.specs.Replicas.{is_other}
use Rattle.pws_service.specs.declared.keys.Key.{Key}
use Rattle.pws_service.specs.declared.acts.Act.{Act}
use Rattle.pws_service.specs.declared.acts.Act.TheVariants as act
use Rattle.pws_service.specs.Keys.{same_key, request_key, reply_key, abort_key}

-- ---- calls

-- whether the act is this call
abbrev pub is_call : Key → Act → Bool
is_call k (act.Call called number low body timeout) = same_key k (record { group = called; number = number })
is_call k (act.Reply caller number body) = false
is_call k (act.AskClock ask) = false
is_call k (act.AskRandom ask) = false
is_call k act.Halted = false

-- whether the event answers this call
abbrev pub is_answer : Key → Event → Bool
is_answer k event.Null = false
is_answer k (event.Request r) = false
is_answer k (event.Reply r) = same_key k (reply_key r)
is_answer k (event.Abort a) = same_key k (abort_key a)
is_answer k (event.Clock c) = false
is_answer k (event.Random r) = false

abbrev pub to_group : ℕ → Act → Bool
to_group g (act.Call called number low body timeout) = called == g
to_group g (act.Reply caller number body) = false
to_group g (act.AskClock ask) = false
to_group g (act.AskRandom ask) = false
to_group g act.Halted = false

-- how many calls go to the group
abbrev pub calls_to : ℕ → List Act → ℕ
calls_to g acts = count_by (to_group g) acts

abbrev pub after_call : ℕ → ℕ → Act → ℕ
after_call g n (act.Call called number low body timeout) = if called == g then max n low else n
after_call g n (act.Reply caller number body) = n
after_call g n (act.AskClock ask) = n
after_call g n (act.AskRandom ask) = n
after_call g n act.Halted = n

-- the greatest low number of the calls to the group
abbrev pub greatest_low : ℕ → List Act → ℕ
greatest_low g acts = fold (after_call g) 0 acts

-- a call goes to another group of the layout; its number is the next one to that group, at most 1,000,000; its low
-- number is at least 1, at most its own number and that of each call to the group that waits, never below an earlier
-- one, and its number is among the sixteen from it on; its body has at most 32,768 bytes
pub record IsLawfulCall (me : ℕ) (layout : List ℕ) (effects : List Event) (before : List Act) (k : Key) (low : ℕ) (body : List ℕ) : Type 0 where
  pub group : k.group < length layout
  pub other : nat_eq k.group me ≡ false
  pub number : k.number ≡ calls_to k.group before + 1
  pub most : k.number ≤ max_number
  pub low_from : 1 ≤ low
  pub low_own : low ≤ k.number
  pub low_waiting : (j : Key) → j.group ≡ k.group → list_any (is_call j) before ≡ true → list_any (is_answer j) effects ≡ false → low ≤ j.number
  pub low_rises : greatest_low k.group before ≤ low
  pub window : k.number < low + call_window
  pub size : length body ≤ max_body

abbrev pub CallAfter : ℕ → List ℕ → List Event → List Act → Act → Type 0
CallAfter me layout effects before (act.Call called number low body timeout) = IsLawfulCall me layout effects before (record { group = called; number = number }) low body
CallAfter me layout effects before (act.Reply caller number body) = Unit {0}
CallAfter me layout effects before (act.AskClock ask) = Unit {0}
CallAfter me layout effects before (act.AskRandom ask) = Unit {0}
CallAfter me layout effects before act.Halted = Unit {0}

-- each call among these acts is lawful after those before it
abbrev pub LawfulCalls : ℕ → List ℕ → List Event → List Act → List Act → Type 0
LawfulCalls me layout effects before [] = Unit {0}
LawfulCalls me layout effects before (a ∷ acts) = CallAfter me layout effects before a × LawfulCalls me layout effects (before ++ a ∷ []) acts

-- ---- replies

-- whether the event is this request
abbrev pub is_request : Key → Event → Bool
is_request k event.Null = false
is_request k (event.Request r) = same_key k (request_key r)
is_request k (event.Reply r) = false
is_request k (event.Abort a) = false
is_request k (event.Clock c) = false
is_request k (event.Random r) = false

-- whether the act answers this request
abbrev pub is_reply : Key → Act → Bool
is_reply k (act.Call called number low body timeout) = false
is_reply k (act.Reply caller number body) = same_key k (record { group = caller; number = number })
is_reply k (act.AskClock ask) = false
is_reply k (act.AskRandom ask) = false
is_reply k act.Halted = false

-- a reply answers a request that took effect and wasn't answered; its body has at most 32,768 bytes
pub record IsLawfulReply (effects : List Event) (before : List Act) (k : Key) (body : List ℕ) : Type 0 where
  pub request : list_any (is_request k) effects ≡ true
  pub once : list_any (is_reply k) before ≡ false
  pub size : length body ≤ max_body

abbrev pub ReplyAfter : List Event → List Act → Act → Type 0
ReplyAfter effects before (act.Call called number low body timeout) = Unit {0}
ReplyAfter effects before (act.Reply caller number body) = IsLawfulReply effects before (record { group = caller; number = number }) body
ReplyAfter effects before (act.AskClock ask) = Unit {0}
ReplyAfter effects before (act.AskRandom ask) = Unit {0}
ReplyAfter effects before act.Halted = Unit {0}

-- each reply among these acts is lawful after those before it
abbrev pub LawfulReplies : List Event → List Act → List Act → Type 0
LawfulReplies effects before [] = Unit {0}
LawfulReplies effects before (a ∷ acts) = ReplyAfter effects before a × LawfulReplies effects (before ++ a ∷ []) acts

-- ---- asks

-- whether the event is the agreed time that answers this ask
abbrev pub is_clock : ℕ → Event → Bool
is_clock ask event.Null = false
is_clock ask (event.Request r) = false
is_clock ask (event.Reply r) = false
is_clock ask (event.Abort a) = false
is_clock ask (event.Clock c) = c.ask == ask
is_clock ask (event.Random r) = false

-- whether the event is the agreed seed that answers this ask
abbrev pub is_random : ℕ → Event → Bool
is_random ask event.Null = false
is_random ask (event.Request r) = false
is_random ask (event.Reply r) = false
is_random ask (event.Abort a) = false
is_random ask (event.Clock c) = false
is_random ask (event.Random r) = r.ask == ask

-- whether the act is this ask for the time
abbrev pub is_clock_ask : ℕ → Act → Bool
is_clock_ask n (act.Call called number low body timeout) = false
is_clock_ask n (act.Reply caller number body) = false
is_clock_ask n (act.AskClock ask) = ask == n
is_clock_ask n (act.AskRandom ask) = false
is_clock_ask n act.Halted = false

-- whether the act is this ask for a seed
abbrev pub is_random_ask : ℕ → Act → Bool
is_random_ask n (act.Call called number low body timeout) = false
is_random_ask n (act.Reply caller number body) = false
is_random_ask n (act.AskClock ask) = false
is_random_ask n (act.AskRandom ask) = ask == n
is_random_ask n act.Halted = false

abbrev pub is_ask : Act → Bool
is_ask (act.Call called number low body timeout) = false
is_ask (act.Reply caller number body) = false
is_ask (act.AskClock ask) = true
is_ask (act.AskRandom ask) = true
is_ask act.Halted = false

-- an ask has the next number, at most 1,000,000, whatever the sort of those before it, and each of these is answered
pub record IsLawfulAsk (effects : List Event) (before : List Act) (ask : ℕ) : Type 0 where
  pub number : ask ≡ count_by is_ask before + 1
  pub most : ask ≤ max_number
  pub clocks : (n : ℕ) → list_any (is_clock_ask n) before ≡ true → list_any (is_clock n) effects ≡ true
  pub randoms : (n : ℕ) → list_any (is_random_ask n) before ≡ true → list_any (is_random n) effects ≡ true

abbrev pub AskAfter : List Event → List Act → Act → Type 0
AskAfter effects before (act.Call called number low body timeout) = Unit {0}
AskAfter effects before (act.Reply caller number body) = Unit {0}
AskAfter effects before (act.AskClock ask) = IsLawfulAsk effects before ask
AskAfter effects before (act.AskRandom ask) = IsLawfulAsk effects before ask
AskAfter effects before act.Halted = Unit {0}

-- each ask among these acts is lawful after those before it
abbrev pub LawfulAsks : List Event → List Act → List Act → Type 0
LawfulAsks effects before [] = Unit {0}
LawfulAsks effects before (a ∷ acts) = AskAfter effects before a × LawfulAsks effects (before ++ a ∷ []) acts

-- ---- where acts go

-- whether the act goes to another group of the layout, if it goes to a group at all
abbrev pub reaches_other : ℕ → List ℕ → Act → Bool
reaches_other me layout (act.Call called number low body timeout) = is_other me layout called
reaches_other me layout (act.Reply caller number body) = is_other me layout caller
reaches_other me layout (act.AskClock ask) = true
reaches_other me layout (act.AskRandom ask) = true
reaches_other me layout act.Halted = true
