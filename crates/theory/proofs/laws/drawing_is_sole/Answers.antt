use Rattle.theory.proofs.Corners as shown
use Rattle.theory.proofs.laws.drawing_is_sole.Goals as goal

pub returns : goal.returns
returns c = shown.drawing_is_sole_lem
