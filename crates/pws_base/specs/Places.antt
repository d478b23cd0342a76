-- Places of a group's list of events that are open at once; this project's own rule.
use Rattle.std.specs.Prelude.{ℕ, ◌+◌, ◌&&◌, Bool, nat_lt, nat_le}
use Rattle.pws_base.specs.Limits.{place_window}

-- whether a place is one of the 32 above the low mark
abbrev pub is_in_window : ℕ → ℕ → Bool
is_in_window low place = nat_lt low place && nat_le place (low + place_window)
