use Rattle.std.proofs.Common.{◌+◌, refl, ap, ◌∙◌, arith}
use mathlib.Core.Logic.{∥∥₁_elim}
use mathlib.Core.List.{is_set}
use native.Mathlib.Nat.{ℕ_set}
use Rattle.thermographs.specs.Figures.{strip_of}
use Rattle.bank.specs.Contents.{trees}
use Rattle.bank.specs.Held.{corner_starts}
use Rattle.bank.specs.declared.columns.Extent.{Extent}
use Rattle.bank.proofs.Parting.{before_is, part_at}
use Rattle.bank.proofs.Trees.{trees_held}
use Rattle.bank.proofs.bank.Bank.corners_of.Goals as goal

pub returns : goal.returns
returns c =
    let b = c.args.self.now in
    let s = b.columns in
    let p = c.args.part in
    let q = c.span-span in
    ∥∥₁_elim (trees_held b) (is_set ℕ_set _ _) (λ h.
    part_at strip_of 0 s.corners (corner_starts s) s.parts s.used.turns (trees b) h.rows.many h.corners (omega (arith, b.within.2)) p q.result.from.turns q.result.to.turns
    (ap (λ (e : Extent). e.turns) q.ensures.from ∙ before_is (λ e. e.turns) refl s p) (ap (λ (e : Extent). e.turns) q.ensures.to ∙ before_is (λ e. e.turns) refl s (p + 1)))
