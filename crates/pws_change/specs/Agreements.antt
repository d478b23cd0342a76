-- When a new view agrees with the view changes that it names; this project's own.
use Rattle.std.specs.Prelude.{◌≡◌, ℕ, ◌≤◌, ◌&&◌, Bool, false, List, length, map, nat_lt, nat_le, IsTrue, ◌==◌}
use Rattle.std.specs.Cmp.Lexicographic.{pointwise}
use Rattle.std.specs.Str.{bytes_eq}
use Rattle.std.specs.List.{list_all}
use Rattle.pws_base.specs.Shapes.{quorum_of}
use Rattle.pws_msg.specs.declared.changes.Choice.{Choice}
use Rattle.pws_msg.specs.declared.changes.Named.{Named}
use Rattle.pws_msg.specs.declared.changes.NewView.{NewView}
use Rattle.pws_change.specs.declared.heard.Heard.{Heard}
use Rattle.pws_change.specs.declared.decisions.Decision.{Decision}
use Rattle.pws_change.specs.declared.decisions.Decision.TheVariants.{Chosen, Undecided}
use Rattle.pws_change.specs.Choices.{IsChoice}
use Rattle.pws_change.specs.Decisions.{decision_of}
use Rattle.pws_change.specs.Rising.{rises}

-- the index and the digest of a change
abbrev pub name_of : Heard → Named
name_of h = record { index = h.index; digest = h.digest }

-- the named pairs rise by index, are a quorum or more, and are those of the changes in order; each change is for the
-- view, and the choice is theirs
pub record Agrees (f : ℕ) (new : NewView) (changes : List Heard) : Type 0 where
  pub rises : IsTrue (rises (λ a b. nat_lt a.index b.index) new.named)
  pub many : quorum_of f ≤ length new.named
  pub named : new.named ≡ map name_of changes
  pub views : IsTrue (list_all (λ h. h.change.view == new.view) changes)
  pub choice : IsChoice f changes (Chosen new.choice)

-- whether this very choice was decided
abbrev pub is_decided_as : Choice → Decision → Bool
is_decided_as c (Chosen d) = c.place == d.place && (bytes_eq c.digest d.digest && pointwise bytes_eq c.chosen d.chosen)
is_decided_as c (Undecided place) = false

-- whether a name is that of a change
abbrev pub is_name_of : Named → Heard → Bool
is_name_of n h = n.index == h.index && bytes_eq n.digest h.digest

-- the same as a test
unfoldable pub agrees_by : ℕ → NewView → List Heard → Bool
agrees_by f new changes =
    rises (λ a b. nat_lt a.index b.index) new.named
    && (nat_le (quorum_of f) (length new.named)
    && (pointwise is_name_of new.named changes
    && (list_all (λ h. h.change.view == new.view) changes
    && is_decided_as new.choice (decision_of f changes))))
