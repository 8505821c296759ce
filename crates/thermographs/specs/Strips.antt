-- The strip of corners, as rows are done.
use Rattle.std.specs.Prelude.{◌≡◌, ℕ, ◌+◌, ◌<◌, ◌≤◌, List, length, take, ℤ, Some, None, Option}
use Rattle.std.proofs.Math.Seq.{paste}
use Rattle.thermographs.specs.declared.figures.Wall.{Wall}
use Rattle.thermographs.specs.declared.strip.Strip.{Strip}

-- the corners that stand in it
abbrev pub told : Strip → List ℕ
told s = take s.used s.places.now

-- the corners ds have been written behind them, and nothing else has changed
pub record Grown (ds : List ℕ) (old new : Strip) : Type 0 where
  pub ends : new.used ≡ old.used + length ds
  pub fits : new.used ≤ length old.places.now
  pub out : new.places.now ≡ paste old.places.now old.used ds (length ds)

-- or there is no room for ds, and the others stay
pub record Full (ds : List ℕ) (old new : Strip) : Type 0 where
  pub many : length old.places.now < old.used + length ds
  pub kept : take old.used new.places.now ≡ told old

-- the wall with these corners
abbrev pub Wrote : ℤ → List ℕ → Strip → Option Wall → Strip → Type 0
Wrote start ds old None new = Full ds old new
Wrote start ds old (Some w) new = (w ≡ record { start = start; begin = old.used; count = length ds }) × Grown ds old new
