-- What is valid and agreed on may be sent: its lists are as short as a packet asks; this project's own.
use Rattle.std.specs.Prelude.{ℕ, ◌≤◌, List, All}
use Rattle.pws_base.specs.Limits.{max_number}
use Rattle.pws_msg.specs.declared.changes.NewView.{NewView}
use Rattle.pws_msg.specs.declared.changes.ViewChange.{ViewChange}
use Rattle.pws_msg.specs.Reported.{IsViewChange, IsNewView}
use Rattle.pws_msg.specs.Rows.{IsCheckpoint, IsDigest}
use Rattle.pws_change.specs.declared.heard.Heard.{Heard}
use Rattle.pws_change.specs.Agreements.{Agrees}
use Rattle.pws_change.specs.Valid.{IsValid}

-- what its validity leaves open of the ranges of a view change: its numbers are at most 1,000,000, and each digest has
-- 32 bytes
pub record IsBounded (c : ViewChange) : Type 0 where
  pub view : c.view ≤ max_number
  pub low : c.low ≤ max_number
  pub checkpoints : All IsCheckpoint c.checkpoints
  pub prepared : All (λ r. (r.place ≤ max_number) × IsDigest r.digest) c.prepared
  pub pre_prepared : All (λ r. (r.place ≤ max_number) × All (λ s. IsDigest s.digest) r.digests) c.pre_prepared

-- a valid view change has 1 to 3 checkpoints, and at most 32 rows of each set: it may be sent
abbrev pub ValidMayBeSent : Type 0
ValidMayBeSent = (c : ViewChange) → IsValid c → IsBounded c → IsViewChange c

-- a view change that was heard could be sent, by a replica of some group
abbrev pub WasSent : Heard → Type 0
WasSent h = (h.index ≤ 9) × IsDigest h.digest × IsViewChange h.change

-- a new view that agrees with view changes names at most 10, starts from a checkpoint of one of them, and chooses at most
-- 32 digests, each of one of their rows or that of Null: it may be sent
abbrev pub AgreedMayBeSent : Type 0
AgreedMayBeSent = (f : ℕ) (new : NewView) (changes : List Heard) → All WasSent changes → Agrees f new changes → IsNewView new
