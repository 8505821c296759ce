use Rattle.std.proofs.Common.{arith}
use Rattle.bank.specs.Contents.{trees}
use Rattle.bank.proofs.Showing.{is_there, has_figures}
use Rattle.bank.proofs.bank.Bank.find.Goals as goal

pub returns-then-row-figures_of : goal.returns-then-row-figures_of
returns-then-row-figures_of c h =
    omega (arith, has_figures (trees c.args.self.now) c.args.part c.args.row c.figures_of.result.now h c.figures_of.ensures, c.if-row-figures_of.true)

pub position-requires : goal.position-requires
position-requires c = is_there (trees c.args.self.now) c.args.part c.args.row c.figures_of.result.now c.figures_of.ensures c.if-row-figures_of.false
