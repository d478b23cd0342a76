-- A request as plain data; its ranges are this project's own.
use Rattle.std.specs.Prelude.{ℕ, ◌<◌, ◌≤◌, List, length}

pub record RequestFields : Type 0 where
  pub caller : ℕ
  pub number : ℕ
  pub low : ℕ
  pub body : List ℕ

-- the fields are in range
pub record IsRequest (r : RequestFields) : Type 0 where
  pub caller : r.caller < 16
  pub number_from : 1 ≤ r.number
  pub number_to : r.number ≤ 1000000
  pub low_from : 1 ≤ r.low
  pub low_to : r.low ≤ 1000000
  pub body : length r.body ≤ 32768
