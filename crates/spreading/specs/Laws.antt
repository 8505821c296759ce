-- What breadth-first order is, apart from how it is found.
use Rattle.std.specs.Prelude.{◌≡◌, ℕ, zero, suc, ◌+◌, ◌<◌, List, [], ◌∷◌, length, get_or, slice_index_or}
use Rattle.theory.specs.Trees.{Tree, size}
use Rattle.spreading.specs.Order.{children, none, positions, served}

-- how many options the rows before i have
unfoldable pub counted : List Tree → ℕ → ℕ
counted xs zero = 0
counted xs (suc i) = counted xs i + length (children (slice_index_or xs i none))

-- row 0 is the tree, and each row in turn has its options behind those of the rows before it
pub record BreadthFirst (t : Tree) (xs : List Tree) : Type 0 where
  pub many : length xs ≡ size t
  pub root : get_or xs 0 none ≡ t
  pub next : (i k : ℕ) → i < size t → k < length (children (slice_index_or xs i none)) → slice_index_or xs (suc (counted xs i) + k) none ≡ slice_index_or (children (slice_index_or xs i none)) k none

-- the positions are in this order, no other list is, and a queue serves them so
pub record Ordered (t : Tree) : Type 0 where
  pub is : BreadthFirst t (positions t)
  pub only : (xs : List Tree) → BreadthFirst t xs → xs ≡ positions t
  pub queue : served (size t) (t ∷ []) ≡ positions t

abbrev pub RowsInOrder : Type 0
RowsInOrder = (t : Tree) → Ordered t
