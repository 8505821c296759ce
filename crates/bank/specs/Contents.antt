-- The trees that a bank holds: its rows tell which.
use Rattle.std.specs.Prelude.{List}
use Rattle.theory.specs.Trees.{Tree}
use Rattle.encoding.proofs.Contents.{Only, content}
use Rattle.encoding.proofs.Decoding.{rows_tell_trees_lem}
use Rattle.bank.specs.Held.{row_starts, Held}
use Rattle.bank.specs.declared.bank.Bank.{Bank}
use Rattle.bank.specs.declared.columns.Columns.{Columns}

-- they are those of one list only
pub held_once : (c : Columns) → Only (Held c)
held_once c ts us h g = rows_tell_trees_lem c.shapes (row_starts c) c.parts c.used.rows ts us h.rows g.rows

unfoldable pub trees : Bank → List Tree
trees b = (content (Held b.columns) (held_once b.columns) b.filled).0
