-- Corners: where a wall turns. A wall is its value at 0 and the list of its corners.
use Rattle.std.specs.Prelude.{◌≡◌, ℕ, zero, suc, ◌+◌, ◌%◌, ◌<◌, Bool, true, false, cond, ◌||◌, ◌⊎◌, List, [], ◌∷◌, length, ℤ, pos, ◌+ℤ◌, ◌-ℤ◌, nat_lt, slice_index}
use Rattle.std.specs.Int.Signed.{lt_z}
use Rattle.terms.specs.declared.side.Side.{Side}
use Rattle.theory.specs.Trees.{Tree}
use Rattle.theory.specs.Walls.{wall, temperature}

-- x stands in the list
abbrev pub In : ℕ → List ℕ → Type 0
In x [] = ⊥
In x (c ∷ cs) = (c ≡ x) ⊎ In x cs

-- each number lies above the one before, and the first above 0
abbrev pub Ordered : List ℕ → Type 0
Ordered cs = (i : ℕ) → i < length cs → slice_index (0 ∷ cs) i < slice_index cs i

-- t is at least 1, and the step from it differs from the step to it
abbrev pub Corner : (ℕ → ℤ) → ℕ → Type 0
Corner f zero = ⊥
Corner f (suc t) = (f (suc (suc t)) -ℤ f (suc t)) ≡ (f (suc t) -ℤ f t) → ⊥

-- the list is that of all corners of f, in rising order
pub record Corners (f : ℕ → ℤ) (cs : List ℕ) : Type 0 where
  pub ordered : Ordered cs
  pub each : (t : ℕ) → Corner f t → In t cs
  pub only : (t : ℕ) → In t cs → Corner f t

-- ---- the wall that a list of corners draws: it ends straight, and each corner turns it
-- how many corners lie above t
abbrev pub above : List ℕ → ℕ → ℕ
above [] t = 0
above (c ∷ cs) t = cond (nat_lt t c) (suc (above cs t)) (above cs t)

-- the step from t to t + 1 is sloped where the number of corners above t is odd
abbrev pub step : List ℕ → ℕ → ℕ
step cs t = above cs t % 2

-- how far the wall has moved at t
abbrev pub rise : List ℕ → ℕ → ℕ
rise cs zero = 0
rise cs (suc t) = rise cs t + step cs t

-- a right wall, which rises, and a left wall, which falls
abbrev pub rising : ℤ → List ℕ → ℕ → ℤ
rising start cs t = start +ℤ pos (rise cs t)

abbrev pub falling : ℤ → List ℕ → ℕ → ℤ
falling start cs t = start -ℤ pos (rise cs t)

-- ---- the corners of a tree's wall
abbrev pub differ : ℤ → ℤ → Bool
differ a b = lt_z a b || lt_z b a

-- whether f turns at t + 1
abbrev pub turns_after : (ℕ → ℤ) → ℕ → Bool
turns_after f t = differ (f (suc (suc t)) -ℤ f (suc t)) (f (suc t) -ℤ f t)

-- the corners of f among t + 1, .., t + n
unfoldable pub scan : (ℕ → ℤ) → ℕ → ℕ → List ℕ
scan f zero t = []
scan f (suc n) t = elim (turns_after f t) [ true ↦ suc t ∷ scan f n (suc t) | false ↦ scan f n (suc t) ]

-- a wall turns nowhere above the temperature
unfoldable pub corners_of : Tree → Side → List ℕ
corners_of x s = scan (wall x s) (temperature x) 0
