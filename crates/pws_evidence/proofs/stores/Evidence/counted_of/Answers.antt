use Rattle.std.proofs.Common.{◌∙◌, ap, ℕ, [], ◌∷◌, ◌++◌, Bool, if◌then◌else◌}
use Rattle.pws_protocol.specs.Keys.{replica}
use Rattle.pws_protocol.specs.Support.{support_of}
use Rattle.pws_evidence.specs.Counted.{sayer_of, is_counted}
use Rattle.pws_evidence.proofs.Ranged.{made_more}
use Rattle.pws_evidence.proofs.stores.Evidence.counted_of.Goals as goal

pub loop-index-preserved : goal.loop-index-preserved
loop-index-preserved c =
    let e = c.args.self.now in
    let s = support_of e.group c.args.event.now in
    let xs = c.loop-index.counted.items in
    let n = c.loop-index.index in
    c.in_ok-push_if.ensures
    ∙ (ap (λ (b : Bool). if b then xs ++ replica c.sayer_of.result n ∷ [] else xs) c.is_counted.ensures
    ∙ (ap (λ (g : ℕ). if is_counted e s n then xs ++ replica g n ∷ [] else xs) c.sayer_of.ensures
    ∙ made_more (replica (sayer_of e s)) (is_counted e s) n xs c.loop-index.invariant))
