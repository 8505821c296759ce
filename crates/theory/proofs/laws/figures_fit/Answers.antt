use Rattle.theory.proofs.Range as shown
use Rattle.theory.proofs.laws.figures_fit.Goals as goal

pub returns : goal.returns
returns c = shown.figures_fit_lem
