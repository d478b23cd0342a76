use Rattle.std.proofs.Common.{◌≡◌, refl, sym, ◌∙◌}
use Rattle.std.proofs.lemmas.Bool.{false≢true}
use Rattle.pws_change.specs.declared.pre_prepared.NoteError.{NoteError}
use Rattle.pws_change.specs.declared.pre_prepared.NoteError.TheVariants as note
use Rattle.pws_change.proofs.Witnessed.{full_in}
use Rattle.pws_change.proofs.pre_prepared.QSet.note.Goals as goal

pub returns-then-is_full_in-clause-full : goal.returns-then-is_full_in-clause-full
returns-then-is_full_in-clause-full c =
    let full = full_in c.self.inside.rows.items c.deref.result.now c.args.self.now c.args.place c.args.digest.now c.self.invariant c.deref.ensures.value c.self.view_is in
    (λ e. sym (c.is_full_in.ensures ∙ full) ∙ c.if-is_full_in.true, λ t. refl)

pub returns-in_err-put_row-clause-full : goal.returns-in_err-put_row-clause-full
returns-in_err-put_row-clause-full c =
    let full = full_in c.self.inside.rows.items c.deref.result.now c.args.self.now c.args.place c.args.digest.now c.self.invariant c.deref.ensures.value c.self.view_is in (
      λ e. (let k : ◌≡◌ {A = NoteError} note.RowFull note.Memory = rw e at c.from_residual.ensures.1 in absurd (cc)),
      λ t. absurd (false≢true (sym c.if-is_full_in.false ∙ (c.is_full_in.ensures ∙ (full ∙ t)))),
    )

pub returns-clause-full : goal.returns-clause-full
returns-clause-full c =
    let full = full_in c.self.inside.rows.items c.deref.result.now c.args.self.now c.args.place c.args.digest.now c.self.invariant c.deref.ensures.value c.self.view_is in
    (λ e. absurd (cc), λ t. absurd (false≢true (sym c.if-is_full_in.false ∙ (c.is_full_in.ensures ∙ (full ∙ t)))))
