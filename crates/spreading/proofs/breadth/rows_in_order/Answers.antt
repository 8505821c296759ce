use Rattle.spreading.proofs.BreadthFirst.{rows_in_order_lem}
use Rattle.spreading.proofs.breadth.rows_in_order.Goals as goal

pub returns : goal.returns
returns c = rows_in_order_lem
