-- How the code's inputs, actions and outputs are those of the rules.
use Rattle.std.specs.Prelude.{Bool, true, false, List, [], ◌∷◌}
use Rattle.pws_votes.specs.declared.kinds.Vote.{Vote}
use Rattle.pws_votes.specs.declared.kinds.Vote.TheVariants as vote
use Rattle.pws_protocol.specs.States.{State}
use Rattle.pws_protocol.specs.Hearing.{Answered}
use Rattle.pws_protocol.specs.Hearing as rule
use Rattle.pws_voter.specs.declared.outs.Out.{Out}
use Rattle.pws_voter.specs.declared.outs.Out.TheVariants as out

-- what is put out
abbrev pub out_of : Out → rule.Out
out_of (out.Send content vouchers) = rule.Send content vouchers
out_of (out.Execute place event) = rule.Execute place event
out_of (out.Unkept why) = rule.Unkept why

-- whether an answer says that something is kept
abbrev pub is_kept_by : Vote → Bool
is_kept_by vote.Kept = true
is_kept_by vote.Outside = false
is_kept_by vote.Already = false

-- what is put out for an answer
abbrev pub outs_by : Vote → List rule.Out
outs_by vote.Kept = []
outs_by vote.Outside = rule.Unkept vote.Outside ∷ []
outs_by vote.Already = rule.Unkept vote.Already ∷ []

-- the state after an input that was answered so
abbrev pub answered_as : Vote → State → Answered
answered_as v s = record { state = s; is_kept = is_kept_by v; outs = outs_by v }
