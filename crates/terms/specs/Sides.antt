-- The two sides, and what a figure is in a side's own terms.
use Rattle.std.specs.Prelude.{ℤ, neg_ℤ}
use Rattle.terms.specs.declared.side.Side.{Side}
use Rattle.terms.specs.declared.side.Side.TheVariants.{Left, Right}

abbrev pub other : Side → Side
other Left = Right
other Right = Left

-- a figure as the side counts it: what Left gains Right loses
abbrev pub own : Side → ℤ → ℤ
own Left v = v
own Right v = neg_ℤ v

-- of two things, the one that belongs to the side
abbrev pub pick : {A : Type 0} → Side → A → A → A
pick Left a b = a
pick Right a b = b
