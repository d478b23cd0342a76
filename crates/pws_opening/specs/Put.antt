-- How the code's outputs are those of the rules.
use Rattle.pws_runs.specs.ReplicaStates as rule
use Rattle.pws_opening.specs.declared.outputs.Output.{Output}
use Rattle.pws_opening.specs.declared.outputs.Output.TheVariants as output

-- what is put out
abbrev pub output_of : Output → rule.Output
output_of (output.Send group to packet) = rule.Send group to packet
output_of (output.Executed place event taken) = rule.Executed place event taken
output_of (output.Acted act) = rule.Acted act
output_of (output.PassedOver why) = rule.PassedOver why
