use Rattle.std.proofs.Common.{sym, subst}
use Rattle.pws_script.specs.Spelling.{IsScript}
use Rattle.pws_script.specs.Scripts.{IsScriptOf}
use Rattle.pws_script.proofs.ScriptRead.{script_is}
use Rattle.pws_script.proofs.ScriptLaws.{reads_given}
use Rattle.std.proofs.lemmas.Result.{err_from_is_err_and}
use Rattle.pws_script.proofs.scripts.Script.read.Goals as goal

pub invariant_of-result : goal.invariant_of-result
invariant_of-result c =
    let read = script_is c.args.text.now c.in_ok-instructions.instructions.items c.in_ok-instructions.ensures in
    subst IsScript (sym c.from_vec.ensures) read.lawful

pub returns : goal.returns
returns c =
    let read = script_is c.args.text.now c.in_ok-instructions.instructions.items c.in_ok-instructions.ensures in
    subst (IsScriptOf c.args.text.now) (sym c.from_vec.ensures) (record { lawful = read.lawful; spelled = read.spelled })

pub returns-in_err-instructions : goal.returns-in_err-instructions
returns-in_err-instructions c =
    let p = err_from_is_err_and c.from_residual.result c.from_residual.ensures.1 in
    rw (p.1, p.2) (reads_given c.in_err-instructions.field-0.0 c.args.text.now c.in_err-instructions.ensures)
