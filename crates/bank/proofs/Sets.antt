-- Columns are a set, so that an equation between them follows though a bank keeps only that some trees are held; and two banks with the same columns are one.
use Rattle.std.proofs.Common.{◌≡◌}
use mathlib.Core.List.{is_set}
use mathlib.Core.Logic.{∥∥₁_prop}
use mathlib.Core.HLevel.{is_prop→PathP, ×₃_prop}
use native.Mathlib.Nat.{ℕ_set}
use native.Mathlib.Bridge.{le_prop}
use lib.IntN.{ℤ_set}
use Rattle.thermographs.specs.declared.figures.Wall.{Wall}
use Rattle.thermographs.specs.declared.figures.Figures.{Figures}
use Rattle.encoding.proofs.Contents.{shapes_set}
use Rattle.bank.specs.Held.{Filled, Within}
use Rattle.bank.specs.declared.bank.Bank.{Bank}
use Rattle.bank.specs.declared.columns.Columns.{Columns}
use Rattle.bank.specs.declared.columns.Extent.{Extent}

wall_set : IsSet Wall
wall_set x y p q = λ i j. record {
  start = ℤ_set x.start y.start (λ k. (p k).start) (λ k. (q k).start) i j;
  begin = ℕ_set x.begin y.begin (λ k. (p k).begin) (λ k. (q k).begin) i j;
  count = ℕ_set x.count y.count (λ k. (p k).count) (λ k. (q k).count) i j;
}

pub figures_set : IsSet Figures
figures_set x y p q = λ i j. record {
  mean = ℤ_set x.mean y.mean (λ k. (p k).mean) (λ k. (q k).mean) i j;
  temperature = ℕ_set x.temperature y.temperature (λ k. (p k).temperature) (λ k. (q k).temperature) i j;
  left = wall_set x.left y.left (λ k. (p k).left) (λ k. (q k).left) i j;
  right = wall_set x.right y.right (λ k. (p k).right) (λ k. (q k).right) i j;
}

extent_set : IsSet Extent
extent_set x y p q = λ i j. record {
  rows = ℕ_set x.rows y.rows (λ k. (p k).rows) (λ k. (q k).rows) i j;
  turns = ℕ_set x.turns y.turns (λ k. (p k).turns) (λ k. (q k).turns) i j;
}

pub columns_set : IsSet Columns
columns_set x y p q = λ i j. record {
  shapes = shapes_set x.shapes y.shapes (λ k. (p k).shapes) (λ k. (q k).shapes) i j;
  figures = is_set figures_set x.figures y.figures (λ k. (p k).figures) (λ k. (q k).figures) i j;
  corners = is_set ℕ_set x.corners y.corners (λ k. (p k).corners) (λ k. (q k).corners) i j;
  starts = is_set extent_set x.starts y.starts (λ k. (p k).starts) (λ k. (q k).starts) i j;
  parts = ℕ_set x.parts y.parts (λ k. (p k).parts) (λ k. (q k).parts) i j;
  used = extent_set x.used y.used (λ k. (p k).used) (λ k. (q k).used) i j;
}

pub one_bank : (b b' : Bank) → b.columns ≡ b'.columns → b ≡ b'
one_bank b b' e = λ i. record {
  columns = e i;
  within = is_prop→PathP (λ j. Within (e j)) (λ j. ×₃_prop le_prop le_prop le_prop) b.within b'.within i;
  filled = is_prop→PathP (λ j. Filled (e j)) (λ j. ∥∥₁_prop) b.filled b'.filled i;
}
