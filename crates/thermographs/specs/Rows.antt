-- One row's figures from those of its options.
use Rattle.std.specs.Prelude.{◌≡◌, ℕ, ◌+◌, ◌<◌, List, length, Some, None, Option, slice_index_or}
use Rattle.terms.specs.declared.side.Side.{Side}
use Rattle.theory.specs.Trees.{Tree, Forest, branch, trees, options}
use Rattle.theory.specs.Fair.{Fair}
use Rattle.spreading.specs.Order.{none}
use Rattle.spreading.specs.Shapes.{shape_of, start_of}
use Rattle.spreading.specs.declared.shape.Shape.{Shape}
use Rattle.thermographs.specs.declared.figures.Figures.{Figures}
use Rattle.thermographs.specs.declared.strip.Strip.{Strip}
use Rattle.thermographs.specs.Strips.{Grown, Full}
use Rattle.thermographs.specs.Figures.{blank, both_corners, figures_of, Tells}

-- the figures tell the walls of the trees, in their order
pub record Tell (corners : List ℕ) (fs : List Figures) (xs : List Tree) : Type 0 where
  pub many : length fs ≡ length xs
  pub each : (k : ℕ) → k < length xs → Tells corners (slice_index_or fs k blank) (slice_index_or xs k none)

-- an open position, with the figures of its options
pub record OpenReady (corners : List ℕ) (lefts rights : List Figures) (L R : Forest) : Type 0 where
  pub fair : Fair (branch L R)
  pub left : Tell corners lefts (trees L)
  pub right : Tell corners rights (trees R)

-- a row's position, with the figures of its options at their rows
pub record Ready (corners : List ℕ) (figures : List Figures) (shape : Shape) (f : ℕ) (x : Tree) : Type 0 where
  pub fair : Fair x
  pub shaped : shape ≡ shape_of f x
  pub told : (s : Side) (k : ℕ) → k < length (options x s) → Tells corners (slice_index_or figures (start_of shape s + k) blank) (slice_index_or (options x s) k none)

-- the figures of x are found and its corners are written behind the others, or there is no room for them
abbrev pub RowInto : Tree → Strip → Option Figures → Strip → Type 0
RowInto x old None new = Full (both_corners x) old new
RowInto x old (Some f) new = (f ≡ figures_of old.used x) × Grown (both_corners x) old new
