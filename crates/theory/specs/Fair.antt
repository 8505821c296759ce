-- The trees that have a thermograph on whole units.
use Rattle.std.specs.Prelude.{◌≤◌}
use Rattle.theory.specs.Limits.{greatest_height}
use Rattle.theory.specs.Trees.{Tree, height, Within}
use Rattle.theory.specs.Stops.{Warm}

-- no more moves than the units can halve, no cold position, and every score within its limit
pub record Fair (x : Tree) : Type 0 where
  pub shallow : height x ≤ greatest_height
  pub warm : Warm x
  pub scores : Within x
