-- Figures that a page has room for: those of any bank and game.
use Rattle.std.specs.Prelude.{ℕ, ◌+◌, ◌*◌, ◌<◌, ◌≤◌, ℤ, pos, neg_ℤ, ◌≤ℤ◌, Some, None, Option, slice_index_or}
use Rattle.theory.specs.Limits.{option_limit, wall_limit}
use Rattle.encoding.specs.Columns.{part_limit}
use Rattle.sheet.specs.declared.values.PartLines.{PartLines}
use Rattle.sheet.specs.declared.values.Sheet.{Sheet}

-- from -n to n
abbrev pub Within : ℕ → ℤ → Type 0
Within n v = (neg_ℤ (pos n) ≤ℤ v) × (v ≤ℤ pos n)

abbrev pub SmallHeat : Option ℕ → Type 0
SmallHeat None = Unit {0}
SmallHeat (Some t) = t ≤ wall_limit

-- a part's mean and temperature lie within the walls
pub record SmallPart (p : PartLines) : Type 0 where
  pub mean : Within wall_limit p.mean
  pub heat : SmallHeat p.heat

abbrev pub SmallAdvice : Option (ℕ × ℕ) → Type 0
SmallAdvice None = Unit {0}
SmallAdvice (Some (part, option)) = (part < part_limit) × (option < option_limit)

-- no sum leaves this range: a wall of each part, and the ambient
abbrev pub sum_limit : ℕ
sum_limit = (part_limit + 1) * wall_limit

pub record Fitting (s : Sheet) : Type 0 where
  pub count : s.count ≤ part_limit
  pub parts : (k : ℕ) (d : PartLines) → k < s.count → SmallPart (slice_index_or s.parts k d)
  pub ambient : s.ambient ≤ wall_limit
  pub floor : Within sum_limit s.floor
  pub low : Within sum_limit s.low
  pub high : Within sum_limit s.high
  pub advice : SmallAdvice s.advice
