-- What a bank's columns are for the trees that it holds.
use Rattle.std.specs.Prelude.{ℕ, ◌≤◌, List, map}
use Rattle.theory.specs.Trees.{Tree}
use Rattle.spreading.specs.Shapes.{row_limit}
use Rattle.thermographs.specs.Figures.{corner_limit, blank, figures_rows, strip_of}
use Rattle.thermographs.specs.declared.figures.Figures.{Figures}
use Rattle.encoding.specs.Columns.{part_limit, Column, Holds}
use Rattle.bank.specs.declared.columns.Columns.{Columns}
use Rattle.bank.specs.declared.columns.Extent.{Extent}

-- the figures of a part count corners from where its own begin
abbrev pub part_figures : Tree → List Figures
part_figures t = figures_rows t 0

-- how many rows stand before each part, and how many corners
abbrev pub row_starts : Columns → List ℕ
row_starts c = map (λ (e : Extent). e.rows) c.starts

abbrev pub corner_starts : Columns → List ℕ
corner_starts c = map (λ (e : Extent). e.turns) c.starts

-- the columns are those of the trees: rows, their figures beside them, and the corners
pub record Held (c : Columns) (ts : List Tree) : Type 0 where
  pub rows : Holds c.shapes (row_starts c) c.parts c.used.rows ts
  pub figures : Column part_figures blank c.figures (row_starts c) c.used.rows ts
  pub corners : Column strip_of 0 c.corners (corner_starts c) c.used.turns ts

-- the columns are those of some trees
abbrev pub Filled : Columns → Type 0
Filled c = ∥ ((ts : List Tree) × Held c ts) ∥₁

-- and no more is used than there is
abbrev pub Within : Columns → Type 0
Within c = (c.parts ≤ part_limit) × (c.used.rows ≤ row_limit) × (c.used.turns ≤ corner_limit)
