use Rattle.std.proofs.Common.{sym, ◌∙◌}
use Rattle.bank.specs.Contents.{trees}
use Rattle.game.proofs.Presents.{present_long}
use Rattle.game.proofs.game.Game.parts.Goals as goal

pub returns : goal.returns
returns c =
    let g = c.args.self.now in
    c.parts.ensures ∙ sym (present_long (trees g.bank.now) g.play.rows g.enough)
