use Rattle.std.proofs.Common.{◌≡◌, ◌∙◌, ◌+◌, ap, subst, arith}
use Rattle.std.specs.Bool.{IsTrue}
use Rattle.std.specs.FinMap.{get, entries}
use Rattle.pws_base.specs.Places.{is_in_window}
use Rattle.pws_places.specs.PlaceMaps.{PlaceMap}
use Rattle.pws_places.specs.Rings.{entries_by}
use Rattle.pws_places.proofs.Listed.{all_listed, few_listed}
use Rattle.pws_places.proofs.RingLemmas.{entries_are, open_test}
use Rattle.pws_places.proofs.places.Places.iter.Goals as goal

pub returns-clause-rest : goal.returns-clause-rest
returns-clause-rest g c =
    let m = c.args.self.now in
    ap (λ a. entries_by (get m.rows) a 32) (let z : m.low + 1 + 0 ≡ m.low + 1 = omega arith in z)
    ∙ subst (λ (m : PlaceMap _). entries_by (get m.rows) (m.low + 1) 32 ≡ entries m.rows) c.self.view_is (entries_are c.self.inside.low c.self.inside.ring.items)

pub returns-clause-inside : goal.returns-clause-inside
returns-clause-inside g c =
    let m = c.args.self.now in
    all_listed (λ e. IsTrue (is_in_window m.low e.0)) (get m.rows) (m.low + 1 + 0) 32 (λ q v l n. open_test m.low q (omega arith) (omega arith))

pub returns-clause-few : goal.returns-clause-few
returns-clause-few g c =
    let m = c.args.self.now in
    few_listed (get m.rows) (m.low + 1 + 0) 32
