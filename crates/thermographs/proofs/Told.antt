-- What figures tell can be read at any tax.
use Rattle.std.proofs.Common.{◌≡◌, ℕ, List, ℤ, sym, ap, ◌∙◌, subst, arith}
use Rattle.std.proofs.lemmas.Int.{ints}
use Rattle.terms.specs.declared.side.Side.{Side}
use Rattle.terms.specs.declared.side.Side.TheVariants.{Left, Right}
use Rattle.terms.specs.Sides.{own}
use Rattle.theory.specs.Walls.{wall}
use Rattle.theory.specs.Corners.{Ordered, falling, corners_of}
use Rattle.theory.proofs.Corners.{steps_draw, wall_steps, wall_corners}
use Rattle.theory.proofs.Range.{wall_bound}
use Rattle.walls.specs.Ranges.{Ranged}
use Rattle.walls.specs.Readings.{drawn}
use Rattle.thermographs.specs.Figures.{wall_of, run}
use Rattle.thermographs.specs.Laws.{ToldIsRead}
use Rattle.thermographs.proofs.Best.{own_ranged}

turned : (s : Side) (v w : ℤ) (cs : List ℕ) (u : ℕ) → w ≡ falling v cs u → drawn s (own s v) cs u ≡ own s w
turned Left v w cs u h = sym h
turned Right v w cs u h = omega (arith, ints)

pub told_is_read : ToldIsRead
told_is_read corners f x fair h = record {
  ordered = λ s. subst Ordered (sym (h.turns s)) (wall_corners x s).ordered;
  tame = λ s u. subst Ranged (sym (reads s u)) (own_ranged s (wall x s u) (wall_bound x fair s u));
  reads = reads;
}
  where
    reads : (s : Side) (u : ℕ) → drawn s (wall_of f s).start (run (wall_of f s) corners) u ≡ own s (wall x s u)
    reads s u =
        ap (λ (v : ℤ). drawn s v (run (wall_of f s) corners) u) (h.start s) ∙ ap (λ (cs : List ℕ). drawn s (own s (wall x s 0)) cs u) (h.turns s)
        ∙ turned s (wall x s 0) (wall x s u) (corners_of x s) u (steps_draw (wall x s) (corners_of x s) (wall_steps x s fair) u)
