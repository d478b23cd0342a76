use Rattle.std.proofs.Common.{sym, ◌∙◌, [], subst}
use Rattle.pws_service.specs.Noting.{led}
use Rattle.pws_event.specs.Counters.{HasTaken}
use Rattle.pws_service.proofs.Led.{can_note_by}
use Rattle.pws_service.proofs.leading.start.Goals as goal

pub note_acts-requires : goal.note_acts-requires
note_acts-requires g c =
    let p = g.D.Driver.program c.args.driver.now in
    let n = c.args.effect.now in
    can_note_by n (g.D.Driver.acts p) [] [] c.as_slice.result.now (g.D.Driver.acts p []) c.requires.counters tt (sym (c.as_slice.ensures.value ∙ c.in_ok-acts.ensures.acts))
    (g.met.D.Driver.lawful_calls p n.me n.layout [] c.requires.fits tt)
    (g.met.D.Driver.lawful_asks p n.me n.layout [] c.requires.fits tt)
