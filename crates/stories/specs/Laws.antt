-- At an opening the game's floor and bracket are those of the theory of sums.
use Rattle.std.specs.Prelude.{◌≡◌, List}
use Rattle.terms.specs.declared.side.Side.{Side}
use Rattle.terms.specs.declared.side.Mover.TheVariants.{Ours, Theirs}
use Rattle.terms.specs.Sides.{other}
use Rattle.theory.specs.Trees.{Tree}
use Rattle.theory.specs.Sums.{hottest, low, high}
use Rattle.theory.specs.Sente.{idle, theirs, floor}
use Rattle.stories.specs.Game.{opening, floor_of, bracket_of}

pub record Opening (s : Side) (xs : List Tree) : Type 0 where
  pub our_floor : floor_of (opening xs s Ours) ≡ floor s (hottest xs) xs idle
  pub their_floor : floor_of (opening xs s Theirs) ≡ floor s (hottest xs) xs theirs
  pub our_bracket : bracket_of (opening xs s Ours) ≡ (low s xs, high s xs)
  pub their_bracket : bracket_of (opening xs s Theirs) ≡ (low (other s) xs, high (other s) xs)

abbrev pub OpeningsAgree : Type 0
OpeningsAgree = (s : Side) (xs : List Tree) → Opening s xs
