-- The position at a row of a part of a bank.
use Rattle.std.specs.Prelude.{◌≡◌, ℕ, Some, None, Option, slice_index_or}
use Rattle.theory.specs.Trees.{Tree}
use Rattle.spreading.specs.Order.{none, row}
use Rattle.bank.specs.Contents.{trees}
use Rattle.bank.specs.Parts.{There}
use Rattle.bank.specs.declared.bank.Bank.{Bank}
use Rattle.bank.specs.declared.position.Position.{Position}

-- the tree of its part
abbrev pub tree_of : Position → Tree
tree_of p = slice_index_or (trees p.bank.now) p.part none

-- what stands there
abbrev pub position_of : Position → Tree
position_of p = row (tree_of p) p.row

-- p is row i of the part k of b
pub record IsAt (b : Bank) (k i : ℕ) (p : Position) : Type 0 where
  pub bank : p.bank.now ≡ b
  pub part : p.part ≡ k
  pub row : p.row ≡ i

-- or nothing, exactly where there is no such part or row
abbrev pub Found : Bank → ℕ → ℕ → Option Position → Type 0
Found b k i (Some p) = IsAt b k i p
Found b k i None = There (trees b) k i → ⊥
