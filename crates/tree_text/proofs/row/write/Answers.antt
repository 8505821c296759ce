use Rattle.std.proofs.Common.{◌+◌, ◌-◌, ◌∙◌, arith}
use Rattle.tree_text.proofs.Cells.{content_write}
use Rattle.tree_text.proofs.row.write.Goals as goal

pub returns-clause-picks : goal.returns-clause-picks
returns-clause-picks c ys n h =
    let cells = c.args.picks.now in
    let k = (c.args.at + c.len.result) - c.args.at in
    let e = c.copy_from_slice.ensures.after ∙ c.as_slice.ensures.value in
    rw e (content_write cells ys c.args.links.now.items c.args.at k n (omega arith) (omega arith) h)
