-- The definitions as the books have them, in the words of Left and Right, with no side turned round.
use Rattle.std.specs.Prelude.{ℕ, zero, suc, cond, List, [], ◌∷◌, ℤ, pos, ◌+ℤ◌, ◌-ℤ◌, ◌*ℤ◌, int_le, nat_lt}
use Rattle.std.specs.Int.{int_max, int_min}
use Rattle.terms.specs.declared.side.Side.TheVariants.{Left, Right}
use Rattle.theory.specs.Limits.{unit, wall_limit}
use Rattle.theory.specs.Trees.{Tree, Forest, ended, branch, one, more}
use Rattle.theory.specs.Walls.{least}
use Rattle.theory.specs.Sums.{moves, best_by, total}

-- the Left stop is the greatest Right stop among Left's options, the Right stop the least Left stop among Right's
unfoldable mutual
  pub left_stop : Tree → ℤ
  left_stop (ended v) = v
  left_stop (branch L R) = greatest_right L

  pub right_stop : Tree → ℤ
  right_stop (ended v) = v
  right_stop (branch L R) = least_left R

  pub greatest_right : Forest → ℤ
  greatest_right (one x) = right_stop x
  greatest_right (more x F) = int_max (right_stop x) (greatest_right F)

  pub least_left : Forest → ℤ
  least_left (one x) = left_stop x
  least_left (more x F) = int_min (left_stop x) (least_left F)

-- for r, the greatest right wall among Left's options, and l, the least left wall among Right's: the scaffolds
abbrev pub less_tax : (ℕ → ℤ) → ℕ → ℤ
less_tax r t = r t -ℤ pos t

abbrev pub plus_tax : (ℕ → ℤ) → ℕ → ℤ
plus_tax l t = l t +ℤ pos t

-- the least t at which the left scaffold is not above the right
unfoldable pub heat : (ℕ → ℤ) → (ℕ → ℤ) → ℕ
heat r l = least (λ t. int_le (less_tax r t) (plus_tax l t)) wall_limit 0

-- below the temperature the walls are the scaffolds, and from it on both are the mean
unfoldable pub cut_left : (ℕ → ℤ) → (ℕ → ℤ) → ℕ → ℤ
cut_left r l t = cond (nat_lt t (heat r l)) (less_tax r t) (less_tax r (heat r l))

unfoldable pub cut_right : (ℕ → ℤ) → (ℕ → ℤ) → ℕ → ℤ
cut_right r l t = cond (nat_lt t (heat r l)) (plus_tax l t) (less_tax r (heat r l))

unfoldable mutual
  pub book_left : Tree → ℕ → ℤ
  book_left (ended v) t = pos unit *ℤ v
  book_left (branch L R) t = cut_left (highest L) (lowest R) t

  pub book_right : Tree → ℕ → ℤ
  book_right (ended v) t = pos unit *ℤ v
  book_right (branch L R) t = cut_right (highest L) (lowest R) t

  pub highest : Forest → ℕ → ℤ
  highest (one x) t = book_right x t
  highest (more x F) t = int_max (book_right x t) (highest F t)

  pub lowest : Forest → ℕ → ℤ
  lowest (one x) t = book_left x t
  lowest (more x F) t = int_min (book_left x t) (lowest F t)

unfoldable pub book_temperature : Tree → ℕ
book_temperature (ended v) = 0
book_temperature (branch L R) = heat (highest L) (lowest R)

unfoldable pub book_mean : Tree → ℤ
book_mean (ended v) = pos unit *ℤ v
book_mean (branch L R) = less_tax (highest L) (heat (highest L) (lowest R))

-- the least value over the list, or z where it is empty
abbrev pub fewest : {A : Type 0} → (A → ℤ) → A → List A → ℤ
fewest f x [] = f x
fewest f x (y ∷ ys) = int_min (f x) (fewest f y ys)

abbrev pub worst_of : {A : Type 0} → (A → ℤ) → ℤ → List A → ℤ
worst_of f z [] = z
worst_of f z (x ∷ xs) = fewest f x xs

-- the stops of a sum within n moves, for Left
unfoldable mutual
  pub left_sum_stop : ℕ → List Tree → ℤ
  left_sum_stop zero xs = total Left xs
  left_sum_stop (suc n) xs = best_by (right_sum_stop n) (total Left xs) (moves Left xs)

  pub right_sum_stop : ℕ → List Tree → ℤ
  right_sum_stop zero xs = total Left xs
  right_sum_stop (suc n) xs = worst_of (left_sum_stop n) (total Left xs) (moves Right xs)
