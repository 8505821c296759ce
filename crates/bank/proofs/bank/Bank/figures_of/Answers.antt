use Rattle.std.proofs.Common.{◌+◌, refl, ap, ◌∙◌, arith}
use mathlib.Core.Logic.{∥∥₁_elim}
use mathlib.Core.List.{is_set}
use Rattle.thermographs.specs.Figures.{blank}
use Rattle.bank.specs.Contents.{trees}
use Rattle.bank.specs.Held.{part_figures, row_starts}
use Rattle.bank.specs.declared.columns.Extent.{Extent}
use Rattle.bank.proofs.Parting.{before_is, part_at}
use Rattle.bank.proofs.Sets.{figures_set}
use Rattle.bank.proofs.Trees.{trees_held}
use Rattle.bank.proofs.bank.Bank.figures_of.Goals as goal

pub returns : goal.returns
returns c =
    let b = c.args.self.now in
    let s = b.columns in
    let p = c.args.part in
    let q = c.span-span in
    ∥∥₁_elim (trees_held b) (is_set figures_set _ _) (λ h.
    part_at part_figures blank s.figures (row_starts s) s.parts s.used.rows (trees b) h.rows.many h.figures (omega (arith, b.within.1)) p q.result.from.rows q.result.to.rows
    (ap (λ (e : Extent). e.rows) q.ensures.from ∙ before_is (λ e. e.rows) refl s p) (ap (λ (e : Extent). e.rows) q.ensures.to ∙ before_is (λ e. e.rows) refl s (p + 1)))
