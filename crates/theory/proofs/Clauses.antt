-- The clauses of the definitions, as equations for other crates: what an ended and an open tree have, and the best of a list of options.
use Rattle.std.proofs.Common.{◌≡◌, ℕ, min, [], ◌∷◌, ℤ, pos, ◌*ℤ◌, neg_ℤ, refl, ap}
use Rattle.std.specs.Int.{int_max}
use Rattle.terms.specs.declared.side.Side.{Side}
use Rattle.terms.specs.declared.side.Side.TheVariants.{Left, Right}
use Rattle.terms.specs.Sides.{other, own, pick}
use Rattle.theory.specs.Limits.{unit}
use Rattle.theory.specs.Trees.{Tree, Forest, ended, branch, one, more, trees}
use Rattle.theory.specs.Stops.{stop, stop_f}
use Rattle.theory.specs.Walls.{wall, scaffold, temperature, mean}
use Rattle.theory.specs.Corners.{scan, corners_of}
use Rattle.theory.specs.Sums.{best_by}
use Rattle.theory.specs.Sente.{taxed}
use Rattle.theory.proofs.Meet.{wall_left_lem, wall_right_lem}

-- ---- ended trees
pub ended_wall : (v : ℤ) (s : Side) (t : ℕ) → wall (ended v) s t ≡ (pos unit *ℤ own s v)
unfolding wall
ended_wall v s t = refl

pub ended_temperature : (v : ℤ) → temperature (ended v) ≡ 0
unfolding temperature
ended_temperature v = refl

pub ended_mean : (v : ℤ) → mean (ended v) ≡ (pos unit *ℤ v)
unfolding mean
ended_mean v = refl

pub ended_corners : (v : ℤ) (s : Side) → corners_of (ended v) s ≡ []
unfolding corners_of scan temperature
ended_corners v s = refl

pub ended_stops : (v : ℤ) (s : Side) → stop (ended v) s ≡ own s v
unfolding stop
ended_stops v s = refl

-- ---- open trees
pub open_wall : (L R : Forest) (s : Side) (t : ℕ) → wall (branch L R) s t ≡ scaffold (pick s L R) s (min t (temperature (branch L R)))
open_wall L R Left t = wall_left_lem L R t
open_wall L R Right t = wall_right_lem L R t

pub open_stops : (L R : Forest) (s : Side) → stop (branch L R) s ≡ stop_f (pick s L R) s
unfolding stop
open_stops L R Left = refl
open_stops L R Right = refl

-- ---- the best of a list of options; z is never read
best_more : (f : Tree → ℤ) (z : ℤ) (x : Tree) (F : Forest) → best_by f z (x ∷ trees F) ≡ int_max (f x) (best_by f z (trees F))
best_more f z x (one y) = refl
best_more f z x (more y F) = refl

best_more_same : (f : Tree → ℤ) (z w : ℤ) (x : Tree) (F : Forest) → w ≡ best_by f z (trees F) → int_max (f x) w ≡ best_by f z (x ∷ trees F)
best_more_same f z w x F e = rw (best_more f z x F) (ap (int_max (f x)) e)

pub scaffold_best : (F : Forest) (s : Side) (t : ℕ) (z : ℤ) → scaffold F s t ≡ best_by (λ o. taxed s o t) z (trees F)
unfolding wall
scaffold_best (one x) s t z = refl
scaffold_best (more x F) s t z = best_more_same (λ o. taxed s o t) z (scaffold F s t) x F (scaffold_best F s t z)

pub stop_best : (F : Forest) (s : Side) (z : ℤ) → stop_f F s ≡ best_by (λ o. neg_ℤ (stop o (other s))) z (trees F)
unfolding stop
stop_best (one x) s z = refl
stop_best (more x F) s z = best_more_same (λ o. neg_ℤ (stop o (other s))) z (stop_f F s) x F (stop_best F s z)
