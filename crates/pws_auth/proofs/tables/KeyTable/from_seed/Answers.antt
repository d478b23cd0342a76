use Rattle.std.proofs.Common.{◌≡◌, ◌∙◌, sym, ap, take, get_or}
use Rattle.pws_auth.specs.Keys.{key_for}
use Rattle.pws_auth.specs.Steps.{added_by_seed}
use Rattle.pws_auth.proofs.Seeds.{key_among, key_of_empty, among_none, among_more, among_layout, all_taken, seeds_share}
use Rattle.pws_auth.proofs.tables.KeyTable.from_seed.Goals as goal

pub loop-i-init : goal.loop-i-init
loop-i-init c =
    record {
      layout = c.empty-table.ensures.layout;
      keys = λ a b. key_of_empty c.empty-table.result c.empty-table.ensures.keys a b ∙ sym (among_none c.args.seed.now a b);
    }

pub loop-i-preserved : goal.loop-i-preserved
loop-i-preserved c =
    let seed = c.args.seed.now in
    let members = c.deref-member-items.result.now in
    let x = get_or members c.loop-i.i (record { group = 0; index = 0 }) in
    let same : c.deref.result.now ≡ members = c.deref.ensures.value ∙ sym c.deref-member-items.ensures.value in
    record {
      layout = c.in_ok-add_keys.ensures.layout ∙ c.loop-i.invariant.layout;
      keys = λ a b.
          c.in_ok-add_keys.ensures.keys a b
          ∙ (ap (λ xs. added_by_seed seed x (take c.loop-i.i xs) a b (key_for c.loop-i.table a b)) same
          ∙ (ap (added_by_seed seed x (take c.loop-i.i members) a b) (c.loop-i.invariant.keys a b)
          ∙ among_more seed members c.loop-i.i _ a b c.loop-i-test.true));
    }

pub returns-clause-seals : goal.returns-clause-seals
returns-clause-seals c =
    let members = c.deref-member-items.result.now in
    let all : take c.loop-i.i members ≡ c.in_ok-members.members.items = all_taken c.loop-i.i members c.loop-i.auto.i-end c.loop-i-test.false ∙ c.deref-member-items.ensures.value in
    seeds_share c.loop-i.table c.args.layout.now c.args.seed.now c.loop-i.invariant.layout
    (λ a b. c.loop-i.invariant.keys a b ∙ (ap (λ xs. key_among xs c.args.seed.now a b) all ∙ among_layout c.args.seed.now c.in_ok-members.members.items c.args.layout.now c.in_ok-members.ensures a b))
