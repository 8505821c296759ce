use Rattle.tree_text.proofs.Cells.{open_picks}
use Rattle.tree_text.proofs.row.Row.store.Goals as goal

pub returns-in-Open-clause-picks : goal.returns-in-Open-clause-picks
returns-in-Open-clause-picks c =
    rw c.in-Open.is
    (open_picks c.args.picks.now c.write.new.picks c.write-in-Open.new.picks c.in-Open.left.items c.in-Open.right.items c.args.used c.write.ensures.picks (rw c.len.ensures.value at c.write-in-Open.ensures.picks))
