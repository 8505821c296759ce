-- The limits of the subject, each in one place. The laws are stated over these names.
use Rattle.std.specs.Prelude.{ℕ, ◌*◌}

-- units in a point: all figures but scores are whole units
abbrev pub unit : ℕ
unit = 4096

-- the greatest height of a tree: each move halves the grid on which walls turn, and unit = 2 ^ greatest_height
abbrev pub greatest_height : ℕ
greatest_height = 12

-- scores lie from -score_limit to score_limit
abbrev pub score_limit : ℕ
score_limit = 1000

-- a side has at most so many options
abbrev pub option_limit : ℕ
option_limit = 16

-- the greatest score in units: no wall of a tree within the limits leaves -wall_limit to wall_limit
abbrev pub wall_limit : ℕ
wall_limit = unit * score_limit
