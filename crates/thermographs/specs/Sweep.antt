-- The sweep over a position's options: where its scaffolds meet, and its walls up to there.
use Rattle.std.specs.Prelude.{◌≡◌, ℕ, ◌*◌, ◌<◌, ◌≤◌, min, List, ℤ, pos, ◌+ℤ◌, ◌-ℤ◌, neg_ℤ, ◌≤ℤ◌, ◌<ℤ◌}
use Rattle.theory.specs.Limits.{wall_limit}
use Rattle.theory.specs.Corners.{falling}
use Rattle.thermographs.specs.declared.sweep.Meeting.{Meeting}

-- a and b are the best near walls of the two sides: less the tax they are the scaffolds, each in its side's own terms
pub record Meets (a b : ℕ → ℤ) (r : Meeting) : Type 0 where
  pub left : r.left ≡ a 0
  pub right : r.right ≡ neg_ℤ (b 0)
  pub mean : r.mean ≡ (a r.temperature -ℤ pos r.temperature)
  pub low : r.temperature ≤ wall_limit
  pub met : (a r.temperature +ℤ b r.temperature) ≤ℤ pos (2 * r.temperature)
  pub apart : (u : ℕ) → u < r.temperature → pos (2 * u) <ℤ (a u +ℤ b u)

-- the wall with the best near wall f: the scaffold up to the temperature m, and a mast from there on
abbrev pub cut : (ℕ → ℤ) → ℕ → ℕ → ℤ
cut f m t = f (min t m) -ℤ pos (min t m)

-- the corners draw the wall, in its side's own terms
abbrev pub Draws : (ℕ → ℤ) → List ℕ → Type 0
Draws f ds = (u : ℕ) → f u ≡ falling (f 0) ds u
