use Rattle.theory.proofs.Sente as shown
use Rattle.theory.proofs.laws.sum_bounds.Goals as goal

pub returns : goal.returns
returns c = shown.sum_bounds_lem
