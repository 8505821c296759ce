-- Seating: why a bank that holds some trees refuses a code, by what the code means, and which trees it holds after it.
use Rattle.std.specs.Prelude.{ℕ, ◌+◌, Bool, cond, List, [], ◌∷◌, ◌++◌, length, Some, None, Option, nat_le, nat_lt}
use Rattle.terms.specs.declared.side.Side.TheVariants.{Left, Right}
use Rattle.terms.specs.declared.fault.Refusal.{Refusal}
use Rattle.terms.specs.declared.fault.Refusal.TheVariants.{PartsFull, UnknownCode, RowsFull, TooHigh, ColdPosition, CornersFull}
use Rattle.theory.specs.Limits.{greatest_height}
use Rattle.theory.specs.Trees.{Tree, Forest, ended, branch, one, more, height, size}
use Rattle.theory.specs.Stops.{cold}
use Rattle.theory.specs.Corners.{corners_of}
use Rattle.spreading.specs.Order.{sizes}
use Rattle.spreading.specs.Shapes.{row_limit}
use Rattle.encoding.specs.Columns.{part_limit}

-- the most corners that a bank has
abbrev pub corner_limit : ℕ
corner_limit = 1024

-- the corners of both walls of a position
abbrev pub turns : Tree → ℕ
turns x = length (corners_of x Left) + length (corners_of x Right)

-- the corners of all positions of a tree
unfoldable mutual
  pub corner_count : Tree → ℕ
  corner_count (ended v) = turns (ended v)
  corner_count (branch L R) = turns (branch L R) + (corner_count_f L + corner_count_f R)

  pub corner_count_f : Forest → ℕ
  corner_count_f (one x) = corner_count x
  corner_count_f (more x F) = corner_count x + corner_count_f F

abbrev pub corner_counts : List Tree → ℕ
corner_counts [] = 0
corner_counts (x ∷ xs) = corner_count x + corner_counts xs

-- the first cause of a table that holds
abbrev pub first_cause : List (Bool × Refusal) → Option Refusal
first_cause [] = None
first_cause (c ∷ cs) = cond c.0 (Some c.1) (first_cause cs)

-- why the tree x gets no place beside the trees held
abbrev pub misfit : List Tree → Tree → Option Refusal
misfit held x =
    first_cause (
    (nat_lt row_limit (sizes held + size x), RowsFull) ∷
    (nat_lt greatest_height (height x), TooHigh) ∷
    (cold x, ColdPosition) ∷
    (nat_lt corner_limit (corner_counts held + corner_count x), CornersFull) ∷ []
    )

-- why a code with this meaning is refused, if it is
abbrev pub cause : List Tree → Option Tree → Option Refusal
cause held meaning =
    cond (nat_le part_limit (length held)) (Some PartsFull) (elim meaning [ None ↦ Some UnknownCode | Some x ↦ misfit held x ])

-- the trees held after a seating: a code for which there is no cause appends its tree
abbrev pub seat : List Tree → Option Tree → List Tree
seat held None = held
seat held (Some x) = elim (cause held (Some x)) [ None ↦ held ++ (x ∷ []) | Some r ↦ held ]

-- and after one seating after another
abbrev pub seated : List Tree → List (Option Tree) → List Tree
seated held [] = held
seated held (m ∷ ms) = seated (seat held m) ms
