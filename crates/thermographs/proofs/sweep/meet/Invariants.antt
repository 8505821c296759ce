use Rattle.std.proofs.Common.{◌-◌}
use Rattle.theory.specs.Limits.{wall_limit}
use Rattle.terms.specs.declared.side.Side.TheVariants.{Left, Right}
use Rattle.thermographs.specs.Near.{best}
use Rattle.thermographs.proofs.Meet.{Swept}
use Rattle.thermographs.proofs.sweep.meet.Given as goal

abbrev pub invariant-loop-at : goal.invariant-loop-at
invariant-loop-at l = Swept (best Left l.corners l.lefts) (best Right l.corners l.rights) l.at

abbrev pub decreases-loop-at : goal.decreases-loop-at
decreases-loop-at l = wall_limit - l.at.t
