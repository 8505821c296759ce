-- One part's entries in a column.
use Rattle.std.specs.Prelude.{ℕ, ◌<◌, cond, List, [], length, nat_lt, slice_index_or}
use Rattle.theory.specs.Trees.{Tree, size}
use Rattle.spreading.specs.Order.{none}
use Rattle.bank.specs.declared.columns.Columns.{Columns}
use Rattle.bank.specs.declared.columns.Extent.{Extent}

abbrev pub nothing : Extent
nothing = record { rows = 0; turns = 0 }

-- what stands before part k; all that is used where there is no such part
abbrev pub before_part : Columns → ℕ → Extent
before_part c k = cond (nat_lt k c.parts) (slice_index_or c.starts k nothing) c.used

-- the entries of the tree p, or none where there is no such tree
abbrev pub part_of : {A : Type 0} → (Tree → List A) → List Tree → ℕ → List A
part_of entries ts p = cond (nat_lt p (length ts)) (entries (slice_index_or ts p none)) []

-- there is a part p, and it has a row i
pub record There (ts : List Tree) (p i : ℕ) : Type 0 where
  pub part : p < length ts
  pub line : i < size (slice_index_or ts p none)
