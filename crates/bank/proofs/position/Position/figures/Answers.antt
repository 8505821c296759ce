use Rattle.bank.specs.Contents.{trees}
use Rattle.bank.proofs.Showing.{has_figures, figures_are}
use Rattle.bank.proofs.position.Position.figures.Goals as goal

pub bounds-figures_of-self : goal.bounds-figures_of-self
bounds-figures_of-self c = let p = c.args.self.now in has_figures (trees p.bank.now) p.part p.row c.figures_of.result.now p.there c.figures_of.ensures

pub returns : goal.returns
returns c = let p = c.args.self.now in figures_are (trees p.bank.now) p.part p.row c.figures_of.result.now p.there c.figures_of.ensures
