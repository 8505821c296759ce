use Rattle.std.proofs.Common.{◌+◌, refl, ap, arith}
use mathlib.Core.Logic.{∥∥₁_elim}
use native.Mathlib.Bridge.{le_prop}
use Rattle.spreading.specs.Shapes.{blank as blank_shape, shapes_of}
use Rattle.thermographs.specs.Figures.{strip_of}
use Rattle.bank.specs.Held.{row_starts, corner_starts}
use Rattle.bank.specs.declared.columns.Extent.{Extent}
use Rattle.bank.proofs.Parting.{before_is, inside}
use Rattle.bank.proofs.bank.Bank.span.Goals as goal

pub returns-clause-rows : goal.returns-clause-rows
returns-clause-rows c =
    let b = c.args.self.now in
    let s = b.columns in
    let p = c.args.part in
    let from = ap (λ (e : Extent). e.rows) c.start.ensures in
    let to = ap (λ (e : Extent). e.rows) c.start-2.ensures in (
      ∥∥₁_elim b.filled le_prop (λ q. omega (arith, from, to, before_is (λ e. e.rows) refl s p, before_is (λ e. e.rows) refl s (p + 1), (inside shapes_of blank_shape s.shapes (row_starts s) s.parts s.used.rows q.0 q.1.rows.many q.1.rows.rows p).0)),
      ∥∥₁_elim b.filled le_prop (λ q. omega (arith, to, before_is (λ e. e.rows) refl s (p + 1), (inside shapes_of blank_shape s.shapes (row_starts s) s.parts s.used.rows q.0 q.1.rows.many q.1.rows.rows p).1, b.within.1)),
    )

pub returns-clause-turns : goal.returns-clause-turns
returns-clause-turns c =
    let b = c.args.self.now in
    let s = b.columns in
    let p = c.args.part in
    let from = ap (λ (e : Extent). e.turns) c.start.ensures in
    let to = ap (λ (e : Extent). e.turns) c.start-2.ensures in (
      ∥∥₁_elim b.filled le_prop (λ q. omega (arith, from, to, before_is (λ e. e.turns) refl s p, before_is (λ e. e.turns) refl s (p + 1), (inside strip_of 0 s.corners (corner_starts s) s.parts s.used.turns q.0 q.1.rows.many q.1.corners p).0)),
      ∥∥₁_elim b.filled le_prop (λ q. omega (arith, to, before_is (λ e. e.turns) refl s (p + 1), (inside strip_of 0 s.corners (corner_starts s) s.parts s.used.turns q.0 q.1.rows.many q.1.corners p).1, b.within.2)),
    )
