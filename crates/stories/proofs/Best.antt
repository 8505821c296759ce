-- The floor and the bracket against best play.
use Rattle.std.proofs.Common.{◌≡◌, ℕ, List, pos, ◌+ℤ◌, ◌*ℤ◌, neg_ℤ, ◌≤ℤ◌, Some, None, Option, refl, ap, ◌∙◌, arith}
use borrow.Author.Differences.{ints}
use Rattle.terms.specs.declared.side.Side.{Side}
use Rattle.terms.specs.declared.side.Side.TheVariants.{Left, Right}
use Rattle.terms.specs.declared.side.Mover.{Mover}
use Rattle.terms.specs.declared.side.Mover.TheVariants as mover
use Rattle.terms.specs.Sides.{other, own}
use Rattle.theory.specs.Limits.{unit}
use Rattle.theory.specs.Trees.{Tree, Ended}
use Rattle.theory.specs.Fair.{Fair}
use Rattle.theory.specs.Sums.{total, span, sum_stop, best_score, hottest, All}
use Rattle.theory.proofs.Sente as sente
use Rattle.theory.proofs.Floors.{opening_loss_lem}
use Rattle.stories.specs.declared.turn.Turn.TheVariants.{Ours, Theirs}
use Rattle.stories.specs.Game.{Game, opening, floor_at, floor_of, bracket_of}
use Rattle.stories.specs.Stories.{Sum, side_of, best_play}
use Rattle.stories.proofs.Places.{place}
use Rattle.stories.proofs.Floors.{near_sum, but_sum, settle, Ready}
use Rattle.stories.proofs.Fits.{sum, Fit, fit_over, fit_ours, fit_theirs}

-- ---- best play in the side's own terms
we_first : (s : Side) (xs : List Tree) → own s (best_score s xs) ≡ sum_stop (span xs) s xs
unfolding best_score
we_first Left xs = refl
we_first Right xs = omega (arith, ints)

they_first : (s : Side) (xs : List Tree) → own s (best_score (other s) xs) ≡ neg_ℤ (sum_stop (span xs) (other s) xs)
unfolding best_score
they_first Left xs = refl
they_first Right xs = refl

ended_best : (r : Side) (xs : List Tree) → All Ended xs → best_score r xs ≡ total Left xs
unfolding best_score
ended_best Left xs e = sente.ended_stop (span xs) Left xs e
ended_best Right xs e = omega (arith, ints, sente.ended_stop (span xs) Right xs e, sente.ended_turn Left xs e)

own_score : (s : Side) (xs : List Tree) → All Ended xs → own s (total Left xs) ≡ total s xs
own_score Left xs e = refl
own_score Right xs e = omega (arith, ints, sente.ended_turn Left xs e)

over_best : (s : Side) (xs : List Tree) (w : Mover) → All Ended xs → own s (best_play s (sum xs w)) ≡ total s xs
over_best s xs w e = ap (own s) (ended_best (side_of s w) xs e) ∙ own_score s xs e

-- ---- the floor is no more than best play gives
here : (s : Side) (xs : List Tree) (a : ℕ) (d : Option ℕ) → All Fair xs → Ready xs a d → floor_at s xs Ours a d ≤ℤ (pos unit *ℤ sum_stop (span xs) s xs)
here s xs a None f r = omega (arith, ints, near_sum s a xs, (sente.claims (span xs)).idle s xs a (omega arith) f)
here s xs a (Some p) f (x, e, l) =
    omega (arith, ints, but_sum s a xs p x e, (sente.claims (span xs)).pending s (place xs p x e).part a (omega arith) f)

pub floor_sound : (s : Side) (g : Game) (z : Sum) → Fit s g z → floor_of g ≤ℤ (pos unit *ℤ own s (best_play s z))
floor_sound s g z (fit_over xs w a d f e) = omega (arith, ints, over_best s xs w e)
floor_sound s g z (fit_ours xs a d f h r) = omega (arith, ints, we_first s xs, here s xs a d f r)
floor_sound s g z (fit_theirs xs a f h) =
    omega (arith, ints, they_first s xs, near_sum s a xs, (sente.claims (span xs)).upper (other s) xs a (omega arith) f)

-- ---- at the opening it is near
pub opening_close : (s : Side) (w : Mover) (xs : List Tree) → All Fair xs
    → (pos unit *ℤ own s (best_play s (sum xs w))) ≤ℤ (floor_of (opening xs s w) +ℤ pos (hottest xs))
opening_close s mover.Ours xs f =
    settle (λ t. (pos unit *ℤ own s (best_play s (sum xs mover.Ours))) ≤ℤ (floor_at s xs t (hottest xs) None +ℤ pos (hottest xs))) Ours xs
    (λ e. omega (arith, ints, over_best s xs mover.Ours e))
    (λ i h. omega (arith, ints, near_sum s (hottest xs) xs, (opening_loss_lem s xs f).moving_loss))
opening_close s mover.Theirs xs f =
    settle (λ t. (pos unit *ℤ own s (best_play s (sum xs mover.Theirs))) ≤ℤ (floor_at s xs t (hottest xs) None +ℤ pos (hottest xs))) Theirs xs
    (λ e. omega (arith, ints, over_best s xs mover.Theirs e))
    (λ i h. omega (arith, ints, near_sum s (hottest xs) xs, (opening_loss_lem s xs f).waiting_loss))

-- ---- the bracket
pub bracket_holds : (s : Side) (g : Game) (z : Sum) → Fit s g z
    → ((bracket_of g).0 ≤ℤ (pos unit *ℤ best_play s z)) × ((pos unit *ℤ best_play s z) ≤ℤ (bracket_of g).1)
bracket_holds s g z (fit_over xs w a d f e) = omega (arith, ints, ended_best (side_of s w) xs e)
bracket_holds s g z (fit_ours xs a d f h r) = sente.sum_bounds_lem s xs f
bracket_holds s g z (fit_theirs xs a f h) = sente.sum_bounds_lem (other s) xs f
