-- The ranges of the numbers of a state, as its code keeps them.
use Rattle.std.specs.Prelude.{◌≡◌, ℕ, ◌≤◌, ◌+◌}
use Rattle.pws_base.specs.Limits.{max_number, place_window}

-- the view, the marks and the last place executed are numbers, and the maps by place have the window of the low mark
pub record IsState (view low done floor last waited moves pending slots : ℕ) : Type 0 where
  pub view_is_small : view ≤ max_number
  pub low_is_small : low ≤ max_number
  pub done_is_small : done ≤ max_number
  pub floor_is_small : floor ≤ max_number + place_window
  pub last_is_small : last ≤ max_number + place_window
  pub waited_is_small : waited ≤ 512
  pub moves_are_few : moves ≤ max_number
  pub pending_is_above : pending ≡ low
  pub slots_are_above : slots ≡ low
