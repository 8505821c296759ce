-- Scaffolds, walls, temperature and mean, in units. Each figure is kept in its side's own terms, so that one definition serves both sides.
use Rattle.std.specs.Prelude.{ℕ, zero, suc, min, Bool, true, false, ℤ, pos, ◌+ℤ◌, ◌-ℤ◌, ◌*ℤ◌, neg_ℤ, int_le}
use Rattle.std.specs.Int.{int_max}
use Rattle.terms.specs.declared.side.Side.{Side}
use Rattle.terms.specs.declared.side.Side.TheVariants.{Left, Right}
use Rattle.terms.specs.Sides.{other, own, pick}
use Rattle.theory.specs.Limits.{unit, wall_limit}
use Rattle.theory.specs.Trees.{Tree, Forest, ended, branch, one, more}

-- the least number from k on that passes the test, or k + n
unfoldable pub least : (ℕ → Bool) → ℕ → ℕ → ℕ
least p zero k = k
least p (suc n) k = elim (p k) [ true ↦ k | false ↦ least p n (suc k) ]

-- two scaffolds, each in the terms of its own side, have met where their sum is no more than 0
unfoldable pub meeting : (ℕ → ℤ) → (ℕ → ℤ) → ℕ
meeting f g = least (λ t. int_le (f t +ℤ g t) (pos 0)) wall_limit 0

-- the wall of an open tree is its scaffold up to the temperature, and a straight mast from there on
unfoldable mutual
  pub wall : Tree → Side → ℕ → ℤ
  wall (ended v) s t = pos unit *ℤ own s v
  wall (branch L R) s t = pick s (scaffold L Left) (scaffold R Right) (min t (meeting (scaffold L Left) (scaffold R Right)))

  -- the best that the side can move to, less the tax t
  pub scaffold : Forest → Side → ℕ → ℤ
  scaffold (one x) s t = neg_ℤ (wall x (other s) t) -ℤ pos t
  scaffold (more x F) s t = int_max (neg_ℤ (wall x (other s) t) -ℤ pos t) (scaffold F s t)

-- where the scaffolds meet; an ended tree has no temperature, and 0 stands for it
unfoldable pub temperature : Tree → ℕ
temperature (ended v) = 0
temperature (branch L R) = meeting (scaffold L Left) (scaffold R Right)

-- their value there
unfoldable pub mean : Tree → ℤ
mean (ended v) = pos unit *ℤ v
mean (branch L R) = scaffold L Left (meeting (scaffold L Left) (scaffold R Right))

-- the same for Left, as the figures are printed
abbrev pub left_wall : Tree → ℕ → ℤ
left_wall x t = wall x Left t

abbrev pub right_wall : Tree → ℕ → ℤ
right_wall x t = neg_ℤ (wall x Right t)

abbrev pub left_scaffold : Forest → ℕ → ℤ
left_scaffold L t = scaffold L Left t

abbrev pub right_scaffold : Forest → ℕ → ℤ
right_scaffold R t = neg_ℤ (scaffold R Right t)
