-- What a tick does before the actions: the voter's own readings are heard, its patience is counted, and what it said that
-- may not have arrived is said again; this project's own.
-- Its patience is `waited_on`, which counts while `is_waiting_for` says that something waits.
use Rattle.std.specs.Prelude.{ℕ, ◌+◌, ◌==◌, ◌&&◌, ◌||◌, ◌++◌, min, Bool, nat_lt, if◌then◌else◌, List, [], ◌∷◌, length, not, Option, Some, None}
use Rattle.std.specs.List.{fold, flat_map, list_any}
use Rattle.std.specs.FinMap.{get, contains_key, entries}
use Rattle.std.specs.FinSet as set
use Rattle.pws_base.specs.Limits.{max_number}
use Rattle.pws_event.specs.Counters.{Counters}
use Rattle.pws_msg.specs.declared.contents.Content.{Content}
use Rattle.pws_msg.specs.declared.contents.Content.TheVariants as content
use Rattle.pws_votes.specs.declared.kinds.VoteKind.TheVariants as kind
use Rattle.pws_votes.specs.Votes.{key}
use Rattle.pws_protocol.specs.Evidence.{note}
use Rattle.pws_protocol.specs.Candidates.{candidates}
use Rattle.pws_protocol.specs.States.{State, Slot, own_id, is_primary, is_alone, window, text_of}
use Rattle.pws_protocol.specs.Gathered.{acks_of}
use Rattle.pws_protocol.specs.Hearing.{Out}
use Rattle.pws_protocol.specs.Hearing as out
use Rattle.pws_protocol.specs.Doing.{Reaction, said_all, prepare_out, start_outs}

-- the voter's own EXPIRED and READING are heard
abbrev pub with_own : Counters → State → Content → State
with_own asked s c = record s { evidence = (note s.evidence asked (own_id s) c []).evidence }

-- whether a place above the last one executed is pending or accepted
abbrev pub is_open : State → ℕ → Bool
is_open s p = nat_lt s.done p && (contains_key s.pending p || contains_key s.slots p)

-- whether something waits: the view to be entered, such a place to be executed, a candidate to be proposed
unfoldable pub is_waiting_for : State → Counters → Bool
is_waiting_for s asked =
    not s.active || (list_any (is_open s) (window s.low) || nat_lt 0 (length (candidates s.evidence asked)))

-- its patience, up to 512; a group of one waits for nobody
unfoldable pub waited_on : State → Counters → ℕ
waited_on s asked = if not (is_alone s) && is_waiting_for s asked then min (s.waited + 1) 512 else 0

-- a new tick: texts may be asked for again
unfoldable pub ticked : State → Counters → State
ticked s asked = record s { waited = waited_on s asked; needed = set.empty }

-- what is said for a value, where it is there
abbrev pub if_there : {A : Type 0} → Option A → (A → List Out) → List Out
if_there None f = []
if_there (Some x) f = f x

-- one statement
abbrev pub again : Content → List Out
again c = out.Send c [] ∷ []

-- the own VIEW_CHANGE, above view 0
abbrev pub change_again : State → List Out
change_again s = if s.view == 0 then [] else if_there (get s.heard s.me.index) (λ c. again (content.ViewChange c.change))

-- the own ACKs, by whose change they are of
abbrev pub acks_again : State → List Out
acks_again s = flat_map (λ x. again (content.Ack (record { view = s.view; index = x.0; digest = x.1 }))) (entries (acks_of s s.me.index))

-- what is said for each slot, by rising place
abbrev pub each_slot : State → (ℕ → Slot → List Out) → List Out
each_slot s f = flat_map (λ p. if_there (get s.slots p) (f p)) (window s.low)

-- the PRE_PREPARE of a slot above the floor
abbrev pub proposal_again : State → ℕ → Slot → List Out
proposal_again s p t =
    if nat_lt s.floor p
    then if_there (text_of s t.digest) (λ e. again (content.PrePrepare (record { view = s.view; place = p; event = e })))
    else []

-- of an active primary the NEW_VIEW and the relays, above view 0, and its PRE_PREPAREs
abbrev pub as_primary : State → List Out
as_primary s = (if s.view == 0 then [] else start_outs s) ++ each_slot s (proposal_again s)

-- of an active backup its PREPAREs
abbrev pub as_backup : State → List Out
as_backup s = each_slot s (λ p t. prepare_out s.view (p, t.digest) ∷ [])

-- what is said again of the view, while active
abbrev pub in_view_again : State → List Out
in_view_again s = if s.active then (if is_primary s then as_primary s else as_backup s) else []

-- the COMMIT of a prepared slot
abbrev pub commit_again : State → ℕ → Slot → List Out
commit_again s p t = if t.is_prepared then again (content.Commit (record { view = s.view; place = p; digest = t.digest })) else []

-- the CHECKPOINT of a place
abbrev pub checkpoint_again : ℕ → List ℕ → List Out
checkpoint_again p digest = again (content.Checkpoint (record { place = p; digest = digest }))

-- that of the low mark, and the own ones above it, rising
abbrev pub checkpoints_again : State → List Out
checkpoints_again s =
    (if s.low == 0 then [] else if_there (get s.chains s.low) (checkpoint_again s.low))
    ++ flat_map (λ p. if_there (get s.book.votes (key kind.Checkpoint p s.me.index)) (checkpoint_again p)) (window s.low)

-- FETCH of the next place, if there is one
abbrev pub fetch_again : State → List Out
fetch_again s = if nat_lt s.done max_number then again (content.Fetch (record { place = s.done + 1 })) else []

-- all that is said again, in order
unfoldable pub repeats : State → List Out
repeats s = change_again s ++ (acks_again s ++ (in_view_again s ++ (each_slot s (commit_again s) ++ (checkpoints_again s ++ fetch_again s))))

-- the state and what is said again
abbrev with_repeats : State → Reaction
with_repeats s = said_all s (repeats s)

-- a tick before the actions: the own contents are heard, patience is counted, and all is said again
unfoldable pub tick : State → Counters → List Content → Reaction
tick s asked own = with_repeats (ticked (fold (with_own asked) s own) asked)
