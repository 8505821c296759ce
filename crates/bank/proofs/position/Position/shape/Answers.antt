use Rattle.std.proofs.Common.{length, get_or, ap, ◌∙◌, arith}
use Rattle.spreading.specs.Shapes.{blank, shapes_of}
use Rattle.spreading.proofs.Shapes.{length_shapes, get_d_shapes}
use Rattle.bank.specs.Contents.{trees}
use Rattle.bank.specs.Positions.{tree_of}
use Rattle.bank.proofs.Showing.{part_there}
use Rattle.bank.proofs.position.Position.shape.Goals as goal

pub bounds-shapes_of-self : goal.bounds-shapes_of-self
bounds-shapes_of-self c =
    let p = c.args.self.now in
    omega (arith, ap length (c.shapes_of.ensures ∙ part_there shapes_of (trees p.bank.now) p.part p.there.part), length_shapes (tree_of p), p.there.line)

pub returns : goal.returns
returns c =
    let p = c.args.self.now in
    ap (λ l. get_or l p.row blank) (c.shapes_of.ensures ∙ part_there shapes_of (trees p.bank.now) p.part p.there.part) ∙ get_d_shapes (tree_of p) p.row blank p.there.line
