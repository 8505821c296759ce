-- A wall of either side, as its corners draw it.
use Rattle.std.specs.Prelude.{ℕ, List, ℤ}
use Rattle.terms.specs.declared.side.Side.{Side}
use Rattle.terms.specs.declared.side.Side.TheVariants.{Left, Right}
use Rattle.theory.specs.Corners.{rising, falling}

-- from its value at 0 Left's wall falls and Right's wall rises
abbrev pub drawn : Side → ℤ → List ℕ → ℕ → ℤ
drawn Left v cs = falling v cs
drawn Right v cs = rising v cs
