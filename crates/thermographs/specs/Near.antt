-- Near walls: what an option leaves to the side that moves to it.
use Rattle.std.specs.Prelude.{ℕ, ◌+◌, ◌<◌, ◌≤◌, List, [], ◌∷◌, length, ℤ, pos, slice_index_or}
use Rattle.terms.specs.declared.side.Side.{Side}
use Rattle.terms.specs.Sides.{other, own}
use Rattle.theory.specs.Corners.{Ordered, rising}
use Rattle.walls.specs.Pieces.{greater_of}
use Rattle.walls.specs.Ranges.{Tame}
use Rattle.thermographs.specs.declared.figures.Figures.{Figures}
use Rattle.thermographs.specs.Figures.{blank, wall_of, run}

-- the other side's wall, in the terms of the side, in which it rises
abbrev pub near : Side → List ℕ → Figures → ℕ → ℤ
near s corners f = rising (own s (wall_of f (other s)).start) (run (wall_of f (other s)) corners)

-- the best of the near walls, of which there is one at least
unfoldable pub best : Side → List ℕ → List Figures → ℕ → ℤ
best s corners [] = λ u. pos 0
best s corners (f ∷ []) = near s corners f
best s corners (f ∷ g ∷ fs) = greater_of (near s corners f) (best s corners (g ∷ fs))

-- what is asked of an option's figures
pub record SoundNear (s : Side) (corners : List ℕ) (f : Figures) : Type 0 where
  pub inside : (wall_of f (other s)).begin + (wall_of f (other s)).count ≤ length corners
  pub ordered : Ordered (run (wall_of f (other s)) corners)
  pub tame : Tame (near s corners f)

-- and of a side's options, of which there is one at least
pub record Sound (s : Side) (corners : List ℕ) (fs : List Figures) : Type 0 where
  pub some : 0 < length fs
  pub each : (k : ℕ) → k < length fs → SoundNear s corners (slice_index_or fs k blank)
