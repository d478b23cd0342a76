-- How many bytes a voter holds at most, but for its evidence; this project's own.
-- `HoldsLittle` has the bound of each part, and `VotersHoldLittle` that of all of them.
use Rattle.std.specs.Prelude.{ℕ, ◌+◌, ◌*◌, ◌≤◌}
use Rattle.std.specs.FinSet as set
use Rattle.pws_protocol.specs.States.{State}
use Rattle.pws_protocol.specs.Fits.{Fits}
use Rattle.pws_protocol.specs.Held.{changes_held, events_held, digests_held}
use Rattle.pws_holding.specs.Asked.{AsksForFew}
use Rattle.pws_holding.specs.Tidy.{IsTidy}

-- the most that view changes take: twenty of 19,992 bytes with ten tags each, a new view of 1,401, a hundred acknowledgments
abbrev pub most_changes : ℕ
most_changes = 410841

-- the most that events take, each of at most 32,782 bytes: 32 pending, ten that others executed, and with their digests
-- those that 32 slots, 32 rows of 16 and a choice of 32 name
abbrev pub most_events : ℕ
most_events = 20277708

-- the most that digests take but those that were asked for: the chain, three chains, 32 slots, 960 votes, 32 rows of P,
-- 512 of Q
abbrev pub most_digests : ℕ
most_digests = 49280

-- the bound of each part
pub record HoldsLittle (s : State) : Type 0 where
  pub changes : changes_held s ≤ most_changes
  pub events : events_held s ≤ most_events
  pub digests : digests_held s ≤ most_digests + 32 * set.len s.needed

-- each part stays within its bound
abbrev pub PartsAreSmall : Type 0
PartsAreSmall = (s : State) → Fits s → IsTidy s → HoldsLittle s

-- where few are asked for too, all that a voter holds beside its evidence stays within 32 MiB
abbrev pub VotersHoldLittle : Type 0
VotersHoldLittle = (s : State) → Fits s → IsTidy s → AsksForFew s → changes_held s + events_held s + digests_held s ≤ 33554432
