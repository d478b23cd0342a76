-- When two view changes, and two new views, are compared as equal: all their fields are. This is here for the proofs
-- alone: that the comparison is equality stands in its contract.
use Rattle.std.specs.Prelude.{Bool, nat_eq}
use Rattle.std.specs.Ordering.{on, eq_of_both}
use Rattle.std.specs.Cmp.{IsEquivalence, and_equiv, on_equiv, nat_eq_equiv}
use Rattle.std.specs.Cmp.Lexicographic.{pointwise, lists_equiv, on_texts_equal, nat_list_eq_equiv}
use Rattle.pws_msg.specs.declared.changes.Checkpoint.{Checkpoint}
use Rattle.pws_msg.specs.declared.changes.PRow.{PRow}
use Rattle.pws_msg.specs.declared.changes.Seen.{Seen}
use Rattle.pws_msg.specs.declared.changes.QRow.{QRow}
use Rattle.pws_msg.specs.declared.changes.Named.{Named}
use Rattle.pws_msg.specs.declared.changes.Choice.{Choice}
use Rattle.pws_msg.specs.declared.changes.ViewChange.{ViewChange}
use Rattle.pws_msg.specs.declared.changes.NewView.{NewView}

abbrev pub same_checkpoint : Checkpoint → Checkpoint → Bool
same_checkpoint = eq_of_both (on (λ c. c.place) nat_eq) (on (λ c. c.digest) (pointwise nat_eq))

abbrev pub same_p_row : PRow → PRow → Bool
same_p_row = eq_of_both (on (λ r. r.place) nat_eq) (eq_of_both (on (λ r. r.digest) (pointwise nat_eq)) (on (λ r. r.view) nat_eq))

abbrev pub same_seen : Seen → Seen → Bool
same_seen = eq_of_both (on (λ s. s.digest) (pointwise nat_eq)) (on (λ s. s.view) nat_eq)

abbrev pub same_q_row : QRow → QRow → Bool
same_q_row = eq_of_both (on (λ r. r.place) nat_eq) (on (λ r. r.digests) (pointwise same_seen))

abbrev pub same_view_change : ViewChange → ViewChange → Bool
same_view_change =
    eq_of_both (on (λ c. c.view) nat_eq)
    (eq_of_both (on (λ c. c.low) nat_eq)
    (eq_of_both (on (λ c. c.checkpoints) (pointwise same_checkpoint))
    (eq_of_both (on (λ c. c.prepared) (pointwise same_p_row)) (on (λ c. c.pre_prepared) (pointwise same_q_row)))))

abbrev pub same_named : Named → Named → Bool
same_named = eq_of_both (on (λ n. n.index) nat_eq) (on (λ n. n.digest) (pointwise nat_eq))

abbrev pub same_choice : Choice → Choice → Bool
same_choice = eq_of_both (on (λ c. c.place) nat_eq) (eq_of_both (on (λ c. c.digest) (pointwise nat_eq)) (on (λ c. c.chosen) (pointwise (pointwise nat_eq))))

abbrev pub same_new_view : NewView → NewView → Bool
same_new_view = eq_of_both (on (λ v. v.view) nat_eq) (eq_of_both (on (λ v. v.named) (pointwise same_named)) (on (λ v. v.choice) same_choice))

checkpoint_equiv : IsEquivalence same_checkpoint
checkpoint_equiv = and_equiv (on_equiv (λ (c : Checkpoint). c.place) nat_eq_equiv) (on_texts_equal (λ (c : Checkpoint). c.digest))

p_row_equiv : IsEquivalence same_p_row
p_row_equiv = and_equiv (on_equiv (λ (r : PRow). r.place) nat_eq_equiv) (and_equiv (on_texts_equal (λ (r : PRow). r.digest)) (on_equiv (λ (r : PRow). r.view) nat_eq_equiv))

seen_equiv : IsEquivalence same_seen
seen_equiv = and_equiv (on_texts_equal (λ (s : Seen). s.digest)) (on_equiv (λ (s : Seen). s.view) nat_eq_equiv)

pub q_row_equiv : IsEquivalence same_q_row
q_row_equiv = and_equiv (on_equiv (λ (r : QRow). r.place) nat_eq_equiv) (on_equiv (λ (r : QRow). r.digests) (lists_equiv seen_equiv))

pub view_change_equiv : IsEquivalence same_view_change
view_change_equiv =
    and_equiv (on_equiv (λ (c : ViewChange). c.view) nat_eq_equiv)
    (and_equiv (on_equiv (λ (c : ViewChange). c.low) nat_eq_equiv)
    (and_equiv (on_equiv (λ (c : ViewChange). c.checkpoints) (lists_equiv checkpoint_equiv))
    (and_equiv (on_equiv (λ (c : ViewChange). c.prepared) (lists_equiv p_row_equiv)) (on_equiv (λ (c : ViewChange). c.pre_prepared) (lists_equiv q_row_equiv)))))

named_equiv : IsEquivalence same_named
named_equiv = and_equiv (on_equiv (λ (n : Named). n.index) nat_eq_equiv) (on_texts_equal (λ (n : Named). n.digest))

pub choice_equiv : IsEquivalence same_choice
choice_equiv = and_equiv (on_equiv (λ (c : Choice). c.place) nat_eq_equiv) (and_equiv (on_texts_equal (λ (c : Choice). c.digest)) (on_equiv (λ (c : Choice). c.chosen) (lists_equiv nat_list_eq_equiv)))

pub new_view_equiv : IsEquivalence same_new_view
new_view_equiv = and_equiv (on_equiv (λ (v : NewView). v.view) nat_eq_equiv) (and_equiv (on_equiv (λ (v : NewView). v.named) (lists_equiv named_equiv)) (on_equiv (λ (v : NewView). v.choice) choice_equiv))
