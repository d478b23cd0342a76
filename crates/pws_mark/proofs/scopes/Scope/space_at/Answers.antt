use Rattle.std.proofs.Common.{◌∙◌, ap, sym}
use Rattle.std.specs.Prelude.{option_map, slice_get}
use Rattle.pws_mark.specs.Bindings.{space_at}
use Rattle.pws_mark.proofs.Prefixes.{found_at, no_place}
use Rattle.pws_mark.proofs.scopes.Scope.space_at.Goals as goal

pub returns-in-Some : goal.returns-in-Some
returns-in-Some c =
    c.space_of.ensures
    ∙ (ap (λ m. option_map (λ b. b.1) (slice_get m c.in-Some.place.now)) c.as_slice.ensures
    ∙ (found_at c.self.inside.items c.in-Some.place.now c.args.prefix.now (sym (c.in-Some.ensures.value ∙ c.self.invariant.first c.args.prefix.now))
    ∙ ap (λ m. space_at m c.args.prefix.now) c.self.view_is))

pub returns-in-None : goal.returns-in-None
returns-in-None c =
    no_place c.self.inside.items 0 c.args.prefix.now (sym (c.in-None.ensures.value ∙ c.self.invariant.first c.args.prefix.now))
    ∙ ap (λ m. space_at m c.args.prefix.now) c.self.view_is
