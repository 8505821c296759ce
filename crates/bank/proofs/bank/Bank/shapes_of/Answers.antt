use Rattle.std.proofs.Common.{◌+◌, refl, ap, ◌∙◌, arith}
use mathlib.Core.Logic.{∥∥₁_elim}
use Rattle.spreading.specs.Shapes.{blank as blank_shape, shapes_of}
use Rattle.encoding.proofs.Contents.{shapes_set}
use Rattle.bank.specs.Contents.{trees}
use Rattle.bank.specs.Held.{row_starts}
use Rattle.bank.specs.declared.columns.Extent.{Extent}
use Rattle.bank.proofs.Parting.{before_is, part_at}
use Rattle.bank.proofs.Trees.{trees_held}
use Rattle.bank.proofs.bank.Bank.shapes_of.Goals as goal

pub returns : goal.returns
returns c =
    let b = c.args.self.now in
    let s = b.columns in
    let p = c.args.part in
    let q = c.span-span in
    ∥∥₁_elim (trees_held b) (shapes_set _ _) (λ h.
    part_at shapes_of blank_shape s.shapes (row_starts s) s.parts s.used.rows (trees b) h.rows.many h.rows.rows (omega (arith, b.within.1)) p q.result.from.rows q.result.to.rows
    (ap (λ (e : Extent). e.rows) q.ensures.from ∙ before_is (λ e. e.rows) refl s p) (ap (λ (e : Extent). e.rows) q.ensures.to ∙ before_is (λ e. e.rows) refl s (p + 1)))
