use Rattle.std.proofs.Common.{ℕ, ◌≤◌, ℤ, sym, ap, ◌∙◌, subst, arith}
use Rattle.std.proofs.lemmas.Int.{ints}
use Rattle.theory.specs.Limits.{wall_limit}
use Rattle.walls.proofs.Straight.{linear_at}
use Rattle.terms.specs.declared.side.Side.TheVariants.{Left, Right}
use Rattle.thermographs.specs.Near.{best}
use Rattle.thermographs.proofs.Meet.{Apart, best_tame, swept_next, met_here}
use Rattle.thermographs.proofs.sweep.meet.Goals as goal
use Rattle.thermographs.proofs.sweep.meet.Goals.{After-reach}

next : (c : After-reach) → Apart (best Left c.args.corners.now c.args.lefts.now) (best Right c.args.corners.now c.args.rights.now) c.reach.result × (c.reach.result ≤ wall_limit)
next c =
    let lefts = c.requires.lefts in
    let rights = c.requires.rights in
    swept_next (best Left c.args.corners.now c.args.lefts.now) (best Right c.args.corners.now c.args.rights.now) c.loop-at.at c.reach.result (best_tame _ _ _ lefts.each lefts.some) (best_tame _ _ _ rights.each rights.some)
    c.loop-at.invariant c.reach.ensures.within.0 c.reach.ensures.within.1 c.reach.ensures.hot

pub scaffolds-at-requires-in-loop-at-clause-below : goal.scaffolds-at-requires-in-loop-at-clause-below
scaffolds-at-requires-in-loop-at-clause-below c = (next c).1

pub loop-at-preserved : goal.loop-at-preserved
loop-at-preserved c =
    let (apart, _) = next (goal.at.loop-at-preserved c).After-reach in
    let found = c.scaffolds-at-in-loop-at.ensures in
    record {
      ahead = found.ahead;
      left = found.left;
      right = found.right;
      apart = subst (Apart (best Left c.args.corners.now c.args.lefts.now) (best Right c.args.corners.now c.args.rights.now)) (sym found.at) apart;
    }

pub returns : goal.returns
returns c =
    let a : ℕ → ℤ = best Left c.args.corners.now c.args.lefts.now in
    let b : ℕ → ℤ = best Right c.args.corners.now c.args.rights.now in
    let first = c.scaffolds-at.ensures in
    let p = sym (ap a first.at) ∙ linear_at a c.scaffolds-at.result.t c.scaffolds-at.result.left (omega (arith, first.ahead.0)) first.left in
    let q = sym (ap b first.at) ∙ linear_at b c.scaffolds-at.result.t c.scaffolds-at.result.right (omega (arith, first.ahead.1)) first.right in
    let k = met_here a b c.loop-at.at c.loop-at.invariant c.loop-at-test.ensures in
    let r = c.loop-at.at.left.ranged in
    let rm = c.scaffolds-at.result.left.ranged in
    let rn = c.scaffolds-at.result.right.ranged in
    record {
      left = omega (arith, ints);
      right = omega (arith, ints);
      mean = omega (arith, ints);
      low = c.loop-at.at.low;
      met = k.0;
      apart = c.loop-at.invariant.apart;
    }
