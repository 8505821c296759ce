use Rattle.std.proofs.Common.{arith}
use Rattle.std.proofs.lemmas.Int.{ints}
use Rattle.game.proofs.Positions.{near_small, far_small}
use Rattle.game.proofs.view.View.gain.Goals as goal

pub overflow_sub-result : goal.overflow_sub-result
overflow_sub-result c =
    let p = c.args.at in
    let near = near_small p.bank.now p.part p.row p.there c.args.self.side c.args.self.t in
    let far = far_small p.bank.now p.part p.row p.there c.args.self.side c.args.self.t in
    omega (arith, ints, near.0, near.1, far.0, far.1, c.far.ensures, c.near.ensures)

pub returns : goal.returns
returns c =
    let p = c.args.at in
    let near = near_small p.bank.now p.part p.row p.there c.args.self.side c.args.self.t in
    let far = far_small p.bank.now p.part p.row p.there c.args.self.side c.args.self.t in
    omega (arith, ints, near.0, near.1, far.0, far.1, c.far.ensures, c.near.ensures)
