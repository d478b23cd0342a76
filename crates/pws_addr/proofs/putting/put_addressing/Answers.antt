use Rattle.std.proofs.Common.{subst, sym, List, IsTrue}
use Rattle.std.specs.List.{list_all}
use Rattle.pws_tree.specs.Trees.{Tree}
use Rattle.pws_soap.specs.Made.{has_few_levels}
use Rattle.pws_addr.proofs.Lawful.{blocks_low}
use Rattle.pws_addr.proofs.putting.put_addressing.Goals as goal

pub append_headers-requires : goal.append_headers-requires
append_headers-requires c = subst (λ (xs : List Tree). IsTrue (list_all has_few_levels xs)) (sym c.in_ok-blocks.ensures) (blocks_low c.args.addressing.now)
