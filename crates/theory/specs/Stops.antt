-- Stops: what a side gets, in its own terms, if it moves first and both play in this tree only.
use Rattle.std.specs.Prelude.{Bool, false, ◌||◌, ℤ, pos, ◌+ℤ◌, neg_ℤ, ◌≤ℤ◌, int_lt}
use Rattle.std.specs.Int.{int_max}
use Rattle.terms.specs.declared.side.Side.{Side}
use Rattle.terms.specs.declared.side.Side.TheVariants.{Left, Right}
use Rattle.terms.specs.Sides.{other, own, pick}
use Rattle.theory.specs.Trees.{Tree, Forest, ended, branch, one, more}

-- the Left stop of x is stop x Left, and its Right stop is the negated stop x Right
unfoldable mutual
  pub stop : Tree → Side → ℤ
  stop (ended v) s = own s v
  stop (branch L R) s = pick s (stop_f L Left) (stop_f R Right)

  pub stop_f : Forest → Side → ℤ
  stop_f (one x) s = neg_ℤ (stop x (other s))
  stop_f (more x F) s = int_max (neg_ℤ (stop x (other s))) (stop_f F s)

-- no position in it is cold: where both have moves, the Left stop is not below the Right stop
abbrev mutual
  pub Warm : Tree → Type 0
  Warm (ended v) = Unit {0}
  Warm (branch L R) = (pos 0 ≤ℤ (stop_f L Left +ℤ stop_f R Right)) × WarmF L × WarmF R

  pub WarmF : Forest → Type 0
  WarmF (one x) = Warm x
  WarmF (more x F) = Warm x × WarmF F

-- the same as a test: some position in it is cold
unfoldable mutual
  pub cold : Tree → Bool
  cold (ended v) = false
  cold (branch L R) = int_lt (stop_f L Left +ℤ stop_f R Right) (pos 0) || (cold_f L || cold_f R)

  pub cold_f : Forest → Bool
  cold_f (one x) = cold x
  cold_f (more x F) = cold x || cold_f F
