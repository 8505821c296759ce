use Rattle.std.proofs.Common.{◌<◌, length, Some, refl, arith}
use Rattle.bank.specs.Contents.{trees}
use Rattle.game.proofs.Presents.{present_past, found_here}
use Rattle.game.proofs.present.Present.here.Goals as goal

pub returns-then-part-parts : goal.returns-then-part-parts
returns-then-part-parts c =
    let w = c.args.self.now in
    present_past (trees w.bank.now) w.rows c.args.part (omega (arith, c.parts.ensures))

pub position-requires : goal.position-requires
position-requires c =
    let w = c.args.self.now in
    let l : c.args.part < length (trees w.bank.now) = omega (arith, c.parts.ensures) in
    record { part = l; line = w.on_rows c.args.part l }

pub returns : goal.returns
returns c =
    let w = c.args.self.now in
    found_here w c.args.part _ (Some c.position.result) (omega (arith, w.enough, c.parts.ensures)) refl c.position.ensures
