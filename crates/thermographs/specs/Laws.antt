-- A row's figures and the strip tell its walls.
use Rattle.std.specs.Prelude.{◌≡◌, ℕ, ◌<◌, List, ◌++◌, length}
use Rattle.terms.specs.declared.side.Side.{Side}
use Rattle.terms.specs.Sides.{own}
use Rattle.theory.specs.Trees.{Tree, size}
use Rattle.theory.specs.Fair.{Fair}
use Rattle.theory.specs.Walls.{wall}
use Rattle.theory.specs.Corners.{Ordered}
use Rattle.spreading.specs.Order.{row}
use Rattle.walls.specs.Ranges.{Tame}
use Rattle.walls.specs.Readings.{drawn}
use Rattle.thermographs.specs.declared.figures.Figures.{Figures}
use Rattle.thermographs.specs.Figures.{strip_of, figures_at, wall_of, run, Tells}

-- wherever the strip of t stands among other corners, the figures of its rows tell their walls by it
abbrev pub FiguresTell : Type 0
FiguresTell = (t : Tree) (i : ℕ) → i < size t → (front back : List ℕ) → Tells (front ++ (strip_of t ++ back)) (figures_at t (length front) i) (row t i)

-- what is told can be read at any tax: Left's wall falls and Right's wall rises, each from its start by its corners
pub record Read (corners : List ℕ) (f : Figures) (x : Tree) : Type 0 where
  pub ordered : (s : Side) → Ordered (run (wall_of f s) corners)
  pub tame : (s : Side) → Tame (drawn s (wall_of f s).start (run (wall_of f s) corners))
  pub reads : (s : Side) (u : ℕ) → drawn s (wall_of f s).start (run (wall_of f s) corners) u ≡ own s (wall x s u)

abbrev pub ToldIsRead : Type 0
ToldIsRead = (corners : List ℕ) (f : Figures) (x : Tree) → Fair x → Tells corners f x → Read corners f x
