-- A side's wall rises as the other side counts.
use Rattle.std.proofs.Common.{◌≡◌, ℕ, List, ℤ, refl, arith}
use Rattle.std.proofs.lemmas.Int.{ints}
use Rattle.terms.specs.declared.side.Side.{Side}
use Rattle.terms.specs.declared.side.Side.TheVariants.{Left, Right}
use Rattle.terms.specs.Sides.{other, own}
use Rattle.theory.specs.Corners.{rising}
use Rattle.walls.specs.Ranges.{Ranged, Tame}
use Rattle.walls.specs.Readings.{drawn}

pub drawn_turned : (s : Side) (v : ℤ) (cs : List ℕ) (t : ℕ) → own (other s) (rising (own (other s) v) cs t) ≡ drawn s v cs t
drawn_turned Left v cs t = omega (arith, ints)
drawn_turned Right v cs t = refl

pub tame_turned : (s : Side) (v : ℤ) (cs : List ℕ) → Tame (drawn s v cs) → Tame (rising (own (other s) v) cs)
tame_turned Left v cs h = λ t. let z = h t in (omega (arith, ints), omega (arith, ints))
tame_turned Right v cs h = h

-- a wall that stays in range starts there
pub start_ranged : (s : Side) (v : ℤ) (cs : List ℕ) → Ranged (drawn s v cs 0) → Ranged v
start_ranged Left v cs h = (omega (arith, ints), omega (arith, ints))
start_ranged Right v cs h = (omega (arith, ints), omega (arith, ints))
