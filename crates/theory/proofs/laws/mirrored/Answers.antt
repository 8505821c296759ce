use Rattle.theory.proofs.Mirror as shown
use Rattle.theory.proofs.laws.mirrored.Goals as goal

pub returns : goal.returns
returns c = shown.mirrored
