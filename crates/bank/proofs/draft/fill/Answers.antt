use Rattle.std.proofs.Common.{sym, ◌∙◌, ap, replicate}
use Rattle.spreading.specs.Shapes.{blank as blank_shape}
use Rattle.thermographs.specs.Figures.{blank}
use Rattle.bank.proofs.Drafting.{refused_fill, kept_fill}
use Rattle.bank.proofs.draft.fill.Goals as goal

pub returns-then-is_err : goal.returns-then-is_err
returns-then-is_err g c t e =
    let d = c.draft-drafted in
    refused_fill t d.result _ _ _ _ _ _ _ _ _ (sym c.is_err.ensures.value ∙ c.if-is_err.true) (d.ensures t e)
    (c.erase.ensures.shapes ∙ ap (λ n. replicate n blank_shape) d.auto.shapes) (c.erase.ensures.figures ∙ ap (λ n. replicate n blank) d.auto.figures)
    (c.erase.ensures.corners ∙ ap (λ n. replicate n 0) d.auto.corners)

pub returns-else-is_err : goal.returns-else-is_err
returns-else-is_err g c t e = kept_fill t c.draft-drafted.result _ _ _ _ _ _ (sym c.is_err.ensures.value ∙ c.if-is_err.false) (c.draft-drafted.ensures t e)
