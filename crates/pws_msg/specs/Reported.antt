-- The ranges of view changes and new views that can be spelled; this project's own.
use Rattle.std.specs.Prelude.{ℕ, ◌≤◌, length, All}
use Rattle.pws_msg.specs.declared.changes.ViewChange.{ViewChange}
use Rattle.pws_msg.specs.declared.changes.NewView.{NewView}
use Rattle.pws_msg.specs.Rows.{IsDigest, IsCheckpoint, IsPRow, IsQRow, IsNamed}
use Rattle.pws_msg.specs.Wire.{most_checkpoints, most_rows, most_named, most_chosen}

-- a view, a low mark from 0, 1 to 3 checkpoints, and at most 32 rows of each set
pub record IsViewChange (c : ViewChange) : Type 0 where
  pub view : c.view ≤ 1000000
  pub low : c.low ≤ 1000000
  pub some_checkpoints : 1 ≤ length c.checkpoints
  pub few_checkpoints : length c.checkpoints ≤ most_checkpoints
  pub checkpoints : All IsCheckpoint c.checkpoints
  pub few_prepared : length c.prepared ≤ most_rows
  pub prepared : All IsPRow c.prepared
  pub few_pre_prepared : length c.pre_prepared ≤ most_rows
  pub pre_prepared : All IsQRow c.pre_prepared

-- a view, 1 to 10 view changes, a place from 0 with its digest, and at most 32 digests
pub record IsNewView (v : NewView) : Type 0 where
  pub view : v.view ≤ 1000000
  pub some_named : 1 ≤ length v.named
  pub few_named : length v.named ≤ most_named
  pub named : All IsNamed v.named
  pub place : v.choice.place ≤ 1000000
  pub digest : IsDigest v.choice.digest
  pub few_chosen : length v.choice.chosen ≤ most_chosen
  pub chosen : All IsDigest v.choice.chosen
