-- The books' stops of a sum are the stops of the mover.
use Rattle.std.proofs.Common.{◌≡◌, ℕ, zero, suc, List, [], ◌∷◌, ℤ, neg_ℤ, refl, ap, arith}
use mathlib.Core.Path.{fun_ext}
use borrow.Author.Differences.{ints}
use Rattle.std.proofs.lemmas.Int.{clamps}
use Rattle.terms.specs.declared.side.Side.TheVariants.{Left, Right}
use Rattle.theory.specs.Trees.{Tree, ended, branch}
use Rattle.theory.specs.Sums.{moves, sum_of, score, greatest, best_by, sum_stop, span, best_score}
use Rattle.theory.specs.Textbook.{fewest, worst_of, left_sum_stop, right_sum_stop}
use Rattle.theory.specs.Laws.{TextbookSumsAgree}

score_turned : (xs : List Tree) → sum_of (score Left) xs ≡ neg_ℤ (sum_of (score Right) xs)
score_turned [] = refl
score_turned (ended v ∷ xs) = omega (arith, ints, score_turned xs)
score_turned (branch L R ∷ xs) = omega (arith, ints, score_turned xs)

fewest_turned : (f g : List Tree → ℤ) → ((ys : List Tree) → f ys ≡ neg_ℤ (g ys)) → (y : List Tree) (ys : List (List Tree)) → fewest f y ys ≡ neg_ℤ (greatest g y ys)
fewest_turned f g h y [] = h y
fewest_turned f g h y (z ∷ zs) = omega (arith, ints, clamps, h y, fewest_turned f g h z zs)

worst_turned : (f g : List Tree → ℤ) (z w : ℤ) → ((ys : List Tree) → f ys ≡ neg_ℤ (g ys)) → z ≡ neg_ℤ w → (ys : List (List Tree)) → worst_of f z ys ≡ neg_ℤ (best_by g w ys)
worst_turned f g z w h e [] = e
worst_turned f g z w h e (y ∷ ys) = fewest_turned f g h y ys

mutual
  unfolding left_sum_stop sum_stop

  left_sums : (n : ℕ) (xs : List Tree) → left_sum_stop n xs ≡ sum_stop n Left xs
  left_sums zero xs = refl
  left_sums (suc n) xs = ap (λ (f : List Tree → ℤ). best_by f (sum_of (score Left) xs) (moves Left xs)) (fun_ext (right_sums n))

  right_sums : (n : ℕ) (xs : List Tree) → right_sum_stop n xs ≡ neg_ℤ (sum_stop n Right xs)
  right_sums zero xs = score_turned xs
  right_sums (suc n) xs =
      worst_turned (left_sum_stop n) (λ ys. neg_ℤ (sum_stop n Left ys)) (sum_of (score Left) xs) (sum_of (score Right) xs)
      (λ ys. omega (arith, ints, left_sums n ys)) (score_turned xs) (moves Right xs)

pub textbook_sums_agree_lem : TextbookSumsAgree
unfolding best_score
textbook_sums_agree_lem xs = record { left = left_sums (span xs) xs; right = right_sums (span xs) xs }
