-- Rows tell trees: a bank's rows are those of one list of trees only.
use Rattle.std.specs.Prelude.{◌≡◌, ℕ, List}
use Rattle.theory.specs.Trees.{Tree}
use Rattle.spreading.specs.declared.shape.Shape.{Shape}
use Rattle.encoding.specs.Columns.{Holds}

abbrev pub RowsTellTrees : Type 0
RowsTellTrees = (shapes : List Shape) (starts : List ℕ) (count used : ℕ) (ts us : List Tree) → Holds shapes starts count used ts → Holds shapes starts count used us → ts ≡ us
