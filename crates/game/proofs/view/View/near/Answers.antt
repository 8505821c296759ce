use Rattle.std.proofs.Common.{arith}
use Rattle.std.proofs.lemmas.Int.{ints}
use Rattle.game.proofs.Positions.{wall_small}
use Rattle.game.proofs.view.View.near.Goals as goal

pub own-requires : goal.own-requires
own-requires c =
    let p = c.args.at in
    let small = wall_small p.bank.now p.part p.row p.there c.other.result c.args.self.t in
    omega (arith, ints, small.0, c.wall.ensures)
