use Rattle.std.proofs.Common.{arith}
use Rattle.snort.specs.Maps.{joined}
use Rattle.snort.specs.Codes.{option_point, growth_low, answer_option, answer_no_option}
use Rattle.snort.proofs.map.SnortRuleSet.option.Goals as goal

pub returns-in_err-point : goal.returns-in_err-point
returns-in_err-point c =
    let m = c.args.self.now in
    rw c.from_residual.ensures (answer_no_option m.points (joined m.near) m.size.1 m.symmetric c.args.side c.args.code c.moves.result c.args.k c.moves.ensures c.in_err-point.ensures)

pub coloured-requires : goal.coloured-requires
coloured-requires c =
    let m = c.args.self.now in
    let p = option_point m.points (joined m.near) m.size.1 m.symmetric c.args.side c.args.code c.moves.result c.args.k c.in_ok-point.point c.moves.ensures c.in_ok-point.ensures in
    omega arith

pub overflow_add-result : goal.overflow_add-result
overflow_add-result c =
    let m = c.args.self.now in
    let p = option_point m.points (joined m.near) m.size.1 m.symmetric c.args.side c.args.code c.moves.result c.args.k c.in_ok-point.point c.moves.ensures c.in_ok-point.ensures in
    let g = growth_low m.points (joined m.near) m.size.1 m.symmetric c.args.side c.in_ok-point.point p.0 in
    omega (arith, c.coloured.ensures)

pub returns : goal.returns
returns c =
    let m = c.args.self.now in
    rw c.coloured.ensures (answer_option m.points (joined m.near) m.size.1 m.symmetric c.args.side c.args.code c.moves.result c.args.k c.in_ok-point.point c.moves.ensures c.in_ok-point.ensures)
