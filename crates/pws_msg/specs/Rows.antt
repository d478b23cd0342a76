-- The rows of a view change and of a new view: their ranges and their texts; this project's own.
use Rattle.std.specs.Prelude.{◌≡◌, ℕ, ◌≤◌, List, [], ◌∷◌, ◌++◌, length, All}
use Rattle.std.specs.List.{flat_map}
use Rattle.pws_base.specs.Texts.{u32_text}
use Rattle.pws_msg.specs.declared.changes.Checkpoint.{Checkpoint}
use Rattle.pws_msg.specs.declared.changes.PRow.{PRow}
use Rattle.pws_msg.specs.declared.changes.Seen.{Seen}
use Rattle.pws_msg.specs.declared.changes.QRow.{QRow}
use Rattle.pws_msg.specs.declared.changes.Named.{Named}
use Rattle.pws_msg.specs.Wire.{most_digests}

-- a digest, or a tag, has 32 bytes
abbrev pub IsDigest : List ℕ → Type 0
IsDigest digest = length digest ≡ 32

-- a digest is spelled by its bytes
abbrev pub digest_text : List ℕ → List ℕ
digest_text digest = digest

-- a checkpoint: its place, from 0, and its digest
pub record IsCheckpoint (c : Checkpoint) : Type 0 where
  pub place : c.place ≤ 1000000
  pub digest : IsDigest c.digest

abbrev pub checkpoint_text : Checkpoint → List ℕ
checkpoint_text c = u32_text c.place ++ c.digest

-- a row of the prepared set: place, digest, view
pub record IsPRow (r : PRow) : Type 0 where
  pub place_from : 1 ≤ r.place
  pub place_to : r.place ≤ 1000000
  pub digest : IsDigest r.digest
  pub view : r.view ≤ 1000000

abbrev pub p_row_text : PRow → List ℕ
p_row_text r = u32_text r.place ++ r.digest ++ u32_text r.view

-- a digest that was seen, and its view
pub record IsSeen (s : Seen) : Type 0 where
  pub digest : IsDigest s.digest
  pub view : s.view ≤ 1000000

abbrev pub seen_text : Seen → List ℕ
seen_text s = s.digest ++ u32_text s.view

-- a row of the pre-prepared set: place, how many digests, and these
pub record IsQRow (r : QRow) : Type 0 where
  pub place_from : 1 ≤ r.place
  pub place_to : r.place ≤ 1000000
  pub some : 1 ≤ length r.digests
  pub few : length r.digests ≤ most_digests
  pub digests : All IsSeen r.digests

abbrev pub q_row_text : QRow → List ℕ
q_row_text r = u32_text r.place ++ (length r.digests ∷ []) ++ flat_map seen_text r.digests

-- a view change that a new view names: its sender's index, and its digest
pub record IsNamed (n : Named) : Type 0 where
  pub index : n.index ≤ 9
  pub digest : IsDigest n.digest

abbrev pub named_text : Named → List ℕ
named_text n = (n.index ∷ []) ++ n.digest
