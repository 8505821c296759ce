use Rattle.theory.proofs.Figures as shown
use Rattle.theory.proofs.laws.worked_figures.Goals as goal

pub returns : goal.returns
returns c = shown.worked_figures_lem
