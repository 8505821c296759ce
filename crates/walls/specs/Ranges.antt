-- The range of figures.
use Rattle.std.specs.Prelude.{ℕ, ℤ, pos, neg_ℤ, ◌≤ℤ◌}
use Rattle.theory.specs.Limits.{wall_limit}

-- a figure that lies in it
abbrev pub Ranged : ℤ → Type 0
Ranged z = (neg_ℤ (pos wall_limit) ≤ℤ z) × (z ≤ℤ pos wall_limit)

-- a function that stays in it
abbrev pub Tame : (ℕ → ℤ) → Type 0
Tame f = (t : ℕ) → Ranged (f t)
