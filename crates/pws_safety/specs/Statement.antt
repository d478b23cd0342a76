-- What replicas say in a group, as far as agreement goes: the messages of Castro and Liskov's protocol, with views,
-- places and digests alone.
use Rattle.std.specs.Prelude.{ℕ, List}
use Rattle.pws_msg.specs.declared.changes.ViewChange.{ViewChange as Report}
use Rattle.pws_msg.specs.declared.changes.NewView.{NewView as Start}

pub data Statement : Type 0 where
  -- the primary of the view proposes an event of this digest for the place
  PrePrepare : (view place : ℕ) → (digest : List ℕ) → Statement
  -- a replica accepted this digest at the place
  Prepare : (view place : ℕ) → (digest : List ℕ) → Statement
  -- a replica knows that a quorum accepted this digest at the place
  Commit : (view place : ℕ) → (digest : List ℕ) → Statement
  -- a replica moves to a view, and reports what it did in the views before
  ViewChange : Report → Statement
  -- the primary of a view starts it
  NewView : Start → Statement
  -- a replica heard a view change for the view, of this digest, from the replica of this index
  Ack : (view index : ℕ) → (digest : List ℕ) → Statement

-- the view that a statement is of
abbrev pub view_of : Statement → ℕ
view_of (PrePrepare view place digest) = view
view_of (Prepare view place digest) = view
view_of (Commit view place digest) = view
view_of (ViewChange change) = change.view
view_of (NewView new) = new.view
view_of (Ack view index digest) = view
