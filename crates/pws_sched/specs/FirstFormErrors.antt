-- Which answer of a reader of schedules stands for an error of a text in hexadecimal; this project's own rule.
use Rattle.pws_sched.specs.declared.hexadecimal.HexError.{HexError}
use Rattle.pws_sched.specs.declared.hexadecimal.HexError.TheVariants as hex_error
use Rattle.pws_sched.specs.declared.first_form.FirstFormError.{FirstFormError}
use Rattle.pws_sched.specs.declared.first_form.FirstFormError.TheVariants as form_error

-- a text that isn't in hexadecimal isn't in the first form, and want of memory stays what it is
abbrev pub form_error_of : HexError → FirstFormError
form_error_of hex_error.NotHexadecimal = form_error.NotFirstForm
form_error_of hex_error.Memory = form_error.Memory
