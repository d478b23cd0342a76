-- The answers to a call as plain data: a reply, or an abort; their ranges are this project's own.
use Rattle.std.specs.Prelude.{ℕ, ◌<◌, ◌≤◌, List, length}

-- the group that was called, the number of the call, and the body of its reply
pub record ReplyFields : Type 0 where
  pub called : ℕ
  pub number : ℕ
  pub body : List ℕ

-- the fields are in range
pub record IsReply (r : ReplyFields) : Type 0 where
  pub called : r.called < 16
  pub number_from : 1 ≤ r.number
  pub number_to : r.number ≤ 1000000
  pub body : length r.body ≤ 32768

-- the group that was called, and the number of the call
pub record AbortFields : Type 0 where
  pub called : ℕ
  pub number : ℕ

-- the fields are in range
pub record IsAbort (a : AbortFields) : Type 0 where
  pub called : a.called < 16
  pub number_from : 1 ≤ a.number
  pub number_to : a.number ≤ 1000000
