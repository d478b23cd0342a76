use Rattle.std.proofs.Common.{◌≡◌, rules}
use Rattle.pws_addr.specs.Causes.{fault_of}
use Rattle.pws_addr.proofs.Faults.{fault_lawful, parts_lawful}
use Rattle.pws_addr.proofs.causes.fault_of.Goals as goal

pub unreachable-requires : goal.unreachable-requires
unreachable-requires c =
    let e1 : c.in_ok-subcode.subcode ≡ (fault_of c.args.cause).subcode = search rules in
    let e2 : c.in_ok-reason.reason ≡ (fault_of c.args.cause).reason = search rules in
    c.in-Err.ensures (parts_lawful (fault_of c.args.cause) c.code_of.result c.in_ok-subcode.subcode c.in_ok-reason.reason e1 e2 (fault_lawful c.args.cause))
