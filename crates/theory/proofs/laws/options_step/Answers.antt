use Rattle.theory.proofs.Sente as shown
use Rattle.theory.proofs.laws.options_step.Goals as goal

pub returns : goal.returns
returns c = shown.options_step_lem
