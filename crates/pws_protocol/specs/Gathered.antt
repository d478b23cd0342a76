-- What a voter on the way into a view has gathered: the changes that a primary may start by, the choice of these, and the
-- changes that a new view names; after Castro and Liskov (2002).
-- `had_of` finds a change that a new view names, as it was heard or passed on.
use Rattle.std.specs.Prelude.{ℕ, ◌*◌, ◌-◌, ◌==◌, ◌&&◌, ◌||◌, not, Bool, false, nat_le, if◌then◌else◌, List, [], ◌∷◌, length, Option, Some, None}
use Rattle.std.specs.List.{list_any, filter_map}
use Rattle.std.specs.Option.{option_map_or, option_or, option_and_then}
use Rattle.std.specs.Ordering.{nat_cmp}
use Rattle.std.specs.Str.{bytes_eq}
use Rattle.std.specs.FinMap.{FinMap, empty, get, contains_key}
use Rattle.pws_base.specs.Counts.{count_below}
use Rattle.pws_base.specs.Shapes.{size_of_group, quorum_of}
use Rattle.pws_msg.specs.declared.changes.Choice.{Choice}
use Rattle.pws_msg.specs.declared.changes.Named.{Named}
use Rattle.pws_change.specs.declared.heard.Heard.{Heard}
use Rattle.pws_change.specs.Sets.{row_at}
use Rattle.pws_change.specs.Decisions.{decision_of, choice_in}
use Rattle.pws_protocol.specs.States.{State, HeldChange, Relayed, members, primary, is_primary, window}

-- what a replica acknowledged, by whose change it is
abbrev pub acks_of : State → ℕ → FinMap nat_cmp (List ℕ)
acks_of s from = option_map_or (λ row. row) (get s.acks from) empty

-- the digest that it acknowledged of another replica's change
unfoldable pub ack_at : State → ℕ → ℕ → Option (List ℕ)
ack_at s from about = get (acks_of s from) about

-- whether a replica that passes a test acknowledged this change of replica j
abbrev is_ack_for : State → (ℕ → Bool) → ℕ → List ℕ → ℕ → Bool
is_ack_for s test j digest i = test i && option_map_or (λ d. bytes_eq d digest) (ack_at s i j) false

-- how many replicas that pass the test did
unfoldable pub acks_for : State → (ℕ → Bool) → ℕ → List ℕ → ℕ
acks_for s test j digest = count_below (size_of_group s.me.f) (is_ack_for s test j digest)

-- whether a heard change counts: it is for the view, and the voter's own or acknowledged by 2f - 1 others (none where f is 0)
abbrev is_counted : State → ℕ → HeldChange → Bool
is_counted s j c =
    c.change.view == s.view
    && (j == s.me.index || nat_le (2 * s.me.f - 1) (acks_for s (λ i. not (i == s.me.index) && not (i == j)) j c.digest))

-- a change as pws_change has it
abbrev heard_of : ℕ → HeldChange → Heard
heard_of j c = record { index = j; digest = c.digest; change = c.change }

-- a change that counts
abbrev pub counted_at : State → ℕ → HeldChange → Option Heard
counted_at s j c = if is_counted s j c then Some (heard_of j c) else None

-- S: all that count, by rising index
unfoldable pub counted : State → List Heard
counted s = filter_map (λ j. option_and_then (counted_at s j) (get s.heard j)) (members s)

-- the possible choice: that of S, while the voter is the inactive primary and S has 2f + 1 changes
unfoldable pub possible_choice : State → Option Choice
possible_choice s =
    if not s.active && (is_primary s && nat_le (quorum_of s.me.f) (length (counted s)))
    then choice_in (decision_of s.me.f (counted s))
    else None

-- a named change as it was heard, where it is this one
abbrev as_heard : State → Named → HeldChange → Option Heard
as_heard s n c =
    if c.change.view == s.view && bytes_eq c.digest n.digest
    then Some (record { index = n.index; digest = n.digest; change = c.change })
    else None

-- whether a change that was passed on may be believed: its voucher verified, or f others acknowledged it
abbrev is_relay_had : State → Named → Relayed → Bool
is_relay_had s n r = r.is_verified || nat_le s.me.f (acks_for s (λ i. not (i == n.index) && not (i == primary s)) n.index n.digest)

-- a named change as it was passed on, where it is this one and may be believed
abbrev as_relayed : State → Named → Relayed → Option Heard
as_relayed s n r =
    if bytes_eq r.digest n.digest && is_relay_had s n r
    then Some (record { index = n.index; digest = n.digest; change = r.change })
    else None

-- a named change, where it is had: as it was heard, or as it was passed on
unfoldable pub had_of : State → Named → Option Heard
had_of s n = option_or (option_and_then (as_heard s n) (get s.heard n.index)) (option_and_then (as_relayed s n) (get s.relayed n.index))

-- one change more, where it and all later ones are had
abbrev pub with_had : Option Heard → Option (List Heard) → Option (List Heard)
with_had None hs = None
with_had (Some h) None = None
with_had (Some h) (Some hs) = Some (h ∷ hs)

-- the changes of all these names, where each is had
unfoldable pub all_had : State → List Named → Option (List Heard)
all_had s [] = Some []
all_had s (n ∷ ns) = with_had (had_of s n) (all_had s ns)

-- whether the slot at a place has this digest
abbrev is_slot_for : State → List ℕ → ℕ → Bool
is_slot_for s digest p = option_map_or (λ t. bytes_eq t.digest digest) (get s.slots p) false

-- whether some slot has this digest
unfoldable pub slots_name : State → List ℕ → Bool
slots_name s digest = list_any (is_slot_for s digest) (window s.low)

-- whether some row of Q has this digest
unfoldable pub rows_name : State → List ℕ → Bool
rows_name s digest = list_any (λ p. contains_key (row_at s.pre_prepared p) digest) (window s.low)

-- whether a choice, if there is one, has this digest
unfoldable pub choice_names : Option Choice → List ℕ → Bool
choice_names choice digest = option_map_or (λ c. list_any (bytes_eq digest) c.chosen) choice false
