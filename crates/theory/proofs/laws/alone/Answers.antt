use Rattle.theory.proofs.Single as shown
use Rattle.theory.proofs.laws.alone.Goals as goal

pub returns : goal.returns
returns c = shown.alone
