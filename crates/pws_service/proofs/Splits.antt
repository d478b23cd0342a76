-- Laws of acts hold of their parts.
use Rattle.std.proofs.Common.{◌≡◌, ℕ, List, [], ◌∷◌, ◌++◌, refl, sym, append_assoc}
use Rattle.std.proofs.lemmas.List.{append-nil}
use Rattle.pws_event.specs.declared.events.Event.{Event}
use Rattle.pws_service.specs.declared.acts.Act.{Act}
use Rattle.pws_service.specs.Lawful.{LawfulCalls, LawfulReplies, LawfulAsks}

pub calls_split : (me : ℕ) (layout : List ℕ) (es : List Event) (before acts more : List Act) → LawfulCalls me layout es before (acts ++ more) → LawfulCalls me layout es before acts × LawfulCalls me layout es (before ++ acts) more
calls_split me layout es before [] more h = (tt, rw (append-nil before) h)
calls_split me layout es before (a ∷ acts) more h =
    let t = calls_split me layout es (before ++ a ∷ []) acts more h.1 in
    ((h.0, t.0), rw (← append_assoc before (a ∷ []) acts) t.1)

pub replies_split : (es : List Event) (before acts more : List Act) → LawfulReplies es before (acts ++ more) → LawfulReplies es before acts × LawfulReplies es (before ++ acts) more
replies_split es before [] more h = (tt, rw (append-nil before) h)
replies_split es before (a ∷ acts) more h =
    let t = replies_split es (before ++ a ∷ []) acts more h.1 in
    ((h.0, t.0), rw (← append_assoc before (a ∷ []) acts) t.1)

pub asks_split : (es : List Event) (before acts more : List Act) → LawfulAsks es before (acts ++ more) → LawfulAsks es before acts × LawfulAsks es (before ++ acts) more
asks_split es before [] more h = (tt, rw (append-nil before) h)
asks_split es before (a ∷ acts) more h =
    let t = asks_split es (before ++ a ∷ []) acts more h.1 in
    ((h.0, t.0), rw (← append_assoc before (a ∷ []) acts) t.1)
