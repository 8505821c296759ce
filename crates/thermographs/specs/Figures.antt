-- What the rows of a tree keep of their thermographs, and the strip of their corners.
use Rattle.std.specs.Prelude.{◌≡◌, ℕ, suc, ◌+◌, ◌<◌, ◌≤◌, List, [], ◌∷◌, ◌++◌, map, length, take, drop, pos, Some, None, Option}
use Rattle.std.specs.List.{range_with_len, between}
use Rattle.terms.specs.declared.side.Side.{Side}
use Rattle.terms.specs.declared.side.Side.TheVariants.{Left, Right}
use Rattle.terms.specs.Sides.{own, pick}
use Rattle.theory.specs.Trees.{Tree, size}
use Rattle.theory.specs.Walls.{wall, left_wall, right_wall, temperature, mean}
use Rattle.theory.specs.Corners.{corners_of}
use Rattle.spreading.specs.Order.{positions, row}
use Rattle.thermographs.specs.declared.figures.Wall.{Wall}
use Rattle.thermographs.specs.declared.figures.Figures.{Figures}

-- the most corners that a bank has
abbrev pub corner_limit : ℕ
corner_limit = 1024

abbrev pub blank_wall : Wall
blank_wall = record { start = pos 0; begin = 0; count = 0 }

-- the figures of a row that is not used
abbrev pub blank : Figures
blank = record { mean = pos 0; temperature = 0; left = blank_wall; right = blank_wall }

-- the corners of a position: its left wall's, then its right wall's
unfoldable pub both_corners : Tree → List ℕ
both_corners x = corners_of x Left ++ corners_of x Right

-- the corners of some rows, from the last row to the first
unfoldable pub strip : List Tree → List ℕ
strip [] = []
strip (x ∷ xs) = strip xs ++ both_corners x

-- the corners of all rows of t
abbrev pub strip_of : Tree → List ℕ
strip_of t = strip (positions t)

-- how many of them stand before those of row i
abbrev pub before : Tree → ℕ → ℕ
before t i = length (strip (drop (suc i) (positions t)))

-- the figures of a position whose corners begin at this place of a bank's strip
abbrev pub figures_of : ℕ → Tree → Figures
figures_of place x = record {
  mean = mean x;
  temperature = temperature x;
  left = record { start = left_wall x 0; begin = place; count = length (corners_of x Left) };
  right = record { start = right_wall x 0; begin = place + length (corners_of x Left); count = length (corners_of x Right) };
}

-- row i of t, in a bank that had so many corners before t
abbrev pub figures_at : Tree → ℕ → ℕ → Figures
figures_at t used i = figures_of (used + before t i) (row t i)

-- all rows of t
unfoldable pub figures_rows : Tree → ℕ → List Figures
figures_rows t used = map (figures_at t used) (range_with_len 0 (size t))

-- a side's wall
abbrev pub wall_of : Figures → Side → Wall
wall_of f s = pick s f.left f.right

-- the part of the strip where its corners stand
abbrev pub run : Wall → List ℕ → List ℕ
run w corners = between w.begin (w.begin + w.count) corners

-- the figures tell the walls of x, by corners that stand in the strip
pub record Tells (corners : List ℕ) (f : Figures) (x : Tree) : Type 0 where
  pub start : (s : Side) → (wall_of f s).start ≡ own s (wall x s 0)
  pub inside : (s : Side) → (wall_of f s).begin + (wall_of f s).count ≤ length corners
  pub turns : (s : Side) → run (wall_of f s) corners ≡ corners_of x s

-- the figures of all rows of t have been written, its corners behind the used ones, and nothing else has changed
pub record Figured (t : Tree) (used n : ℕ) (figures figures' : List Figures) (corners corners' : List ℕ) : Type 0 where
  pub ends : n ≡ used + length (strip_of t)
  pub room : n ≤ length corners
  pub rows : figures' ≡ figures_rows t used ++ drop (size t) figures
  pub written : corners' ≡ take used corners ++ (strip_of t ++ drop n corners)

-- or t has more corners than are free, and what has been written stands in its rows and behind the used corners
pub record Crowded (t : Tree) (used : ℕ) (figures figures' : List Figures) (corners corners' : List ℕ) : Type 0 where
  pub many : length corners < used + length (strip_of t)
  pub others : drop (size t) figures' ≡ drop (size t) figures
  pub kept : take used corners' ≡ take used corners

abbrev pub FigureInto : Tree → ℕ → List Figures → List ℕ → Option ℕ → List Figures → List ℕ → Type 0
FigureInto t used figures corners None figures' corners' = Crowded t used figures figures' corners corners'
FigureInto t used figures corners (Some n) figures' corners' = Figured t used n figures figures' corners corners'
