use Rattle.std.proofs.Common.{arith}
use Rattle.game.proofs.Landings.{few_rows, option_row, option_there, option_is}
use Rattle.game.proofs.reads.option.Goals as goal

pub overflow_cast-start : goal.overflow_cast-start
overflow_cast-start c =
    let p = c.args.at in
    let to = option_row p c.args.side c.args.option c.count.result c.start.result c.shape-shape.result c.shape-shape.ensures c.count.ensures c.if-option-count.false c.start.ensures in
    omega (arith, to.0, few_rows p.bank.now p.part p.there.part)

pub at-requires : goal.at-requires
at-requires c =
    option_there c.args.at c.args.side c.args.option c.count.result c.start.result c.shape-shape.result c.shape-shape.ensures c.count.ensures c.if-option-count.false c.start.ensures

pub returns : goal.returns
returns c =
    option_is c.args.at c.args.side c.args.option c.count.result c.start.result c.shape-shape.result c.shape-shape.ensures c.count.ensures c.at.result c.if-option-count.false c.start.ensures c.at.ensures
