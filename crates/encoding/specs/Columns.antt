-- The columns of a bank, for the trees that it holds. A column has entries for each tree: its rows' shapes, their figures, their corners.
use Rattle.std.specs.Prelude.{◌≡◌, ℕ, ◌<◌, ◌≤◌, cond, List, length, take, nat_lt, slice_index, slice_index_or}
use Rattle.std.specs.List.{flat_map}
use Rattle.theory.specs.Limits.{greatest_height}
use Rattle.theory.specs.Trees.{Tree, Lawful, height}
use Rattle.theory.specs.Stops.{Warm}
use Rattle.spreading.specs.Order.{none}
use Rattle.spreading.specs.Shapes.{blank, shapes_of}
use Rattle.spreading.specs.declared.shape.Shape.{Shape}

-- the most parts that a bank has
abbrev pub part_limit : ℕ
part_limit = 8

-- where part p begins, behind the entries of the parts before it; 0 where there is no such part
abbrev pub start : {A : Type 0} → (Tree → List A) → List Tree → ℕ → ℕ
start entries ts p = cond (nat_lt p (length ts)) (length (flat_map entries (take p ts))) 0

-- the entries of the trees, part after part, and d behind them; where each part begins, and how many entries are used
pub record Column {A : Type 0} (entries : Tree → List A) (d : A) (column : List A) (starts : List ℕ) (used : ℕ) (ts : List Tree) : Type 0 where
  pub filled : used ≡ length (flat_map entries ts)
  pub written : (k : ℕ) → slice_index_or column k d ≡ slice_index_or (flat_map entries ts) k d
  pub begun : (p : ℕ) → slice_index starts p ≡ start entries ts p

-- what is asked of a tree in a bank
pub record Seatable (t : Tree) : Type 0 where
  pub lawful : Lawful t
  pub low : height t ≤ greatest_height
  pub warm : Warm t

-- the rows of a bank that holds the trees
pub record Holds (shapes : List Shape) (starts : List ℕ) (count used : ℕ) (ts : List Tree) : Type 0 where
  pub many : count ≡ length ts
  pub rows : Column shapes_of blank shapes starts used ts
  pub seatable : (p : ℕ) → p < length ts → Seatable (slice_index_or ts p none)
