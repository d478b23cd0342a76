use Rattle.std.proofs.Common.{◌≡◌, take}
use Rattle.pws_change.proofs.heard.lend_all.Given as goal

abbrev pub invariant-loop-h : goal.invariant-loop-h
invariant-loop-h l = l.lent.items ≡ take l.h-index l.changes
