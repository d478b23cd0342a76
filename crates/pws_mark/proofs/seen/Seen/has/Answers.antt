use Rattle.std.proofs.Common.{◌∙◌, ap, sym, map}
use Rattle.std.specs.List.{list_any}
use Rattle.pws_mark.specs.Seen.{seen_of, now_of, are_one}
use Rattle.pws_mark.proofs.SeenSets.{bound_found, has_as_written, has_as_bound, has_no_bound}
use Rattle.pws_mark.proofs.seen.Seen.has.Goals as goal

pub returns-then-contains : goal.returns-then-contains
returns-then-contains c =
    has_as_written c.self.inside.written c.self.inside.bound (seen_of (map now_of c.self.inside.items.items)) c.self.invariant c.args.written.now c.args.bound.now (sym c.if-contains.ensures)
    ∙ ap (list_any (are_one (c.args.written.now, c.args.bound.now))) c.self.view_is

pub returns-in-Some : goal.returns-in-Some
returns-in-Some c =
    c.contains-in-Some.ensures
    ∙ (bound_found c.self.inside.bound c.as_str.result.now c.as_str-in-Some.result.now c.in-Some.name c.as_str.ensures c.as_str-in-Some.ensures
    ∙ (has_as_bound c.self.inside.written c.self.inside.bound (seen_of (map now_of c.self.inside.items.items)) c.self.invariant c.args.written.now c.args.bound.now c.in-Some.name (sym c.if-contains.ensures) c.in-Some.is
    ∙ ap (list_any (are_one (c.args.written.now, c.args.bound.now))) c.self.view_is))

pub returns-in-None : goal.returns-in-None
returns-in-None c =
    has_no_bound c.self.inside.written c.self.inside.bound (seen_of (map now_of c.self.inside.items.items)) c.self.invariant c.args.written.now c.args.bound.now (sym c.if-contains.ensures) c.in-None.is
    ∙ ap (list_any (are_one (c.args.written.now, c.args.bound.now))) c.self.view_is
