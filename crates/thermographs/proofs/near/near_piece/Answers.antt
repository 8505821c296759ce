use Rattle.std.proofs.Common.{◌≡◌, ap, ◌∙◌, arith}
use Rattle.std.proofs.lemmas.Int.{ints}
use Rattle.terms.specs.Sides.{other}
use Rattle.thermographs.specs.declared.figures.Wall.{Wall}
use Rattle.thermographs.specs.Figures.{wall_of}
use Rattle.thermographs.proofs.Best.{start_ranged}
use Rattle.thermographs.proofs.near.near_piece.Goals as goal
use Rattle.thermographs.proofs.near.near_piece.Goals.{After-wall-wall, After-corners}

-- the wall that the code takes
taken : (c : After-wall-wall) → c.wall-wall.result ≡ wall_of c.args.option (other c.args.side)
taken c = c.wall-wall.ensures ∙ ap (wall_of c.args.option) c.other.ensures

pub own-requires : goal.own-requires
own-requires c =
    let k = ap (λ (z : Wall). z.start) (taken (goal.at.own-requires c).After-wall-wall) in
    let r = start_ranged c.args.side c.args.corners.now c.args.option c.requires.sound in
    omega (arith, ints)
