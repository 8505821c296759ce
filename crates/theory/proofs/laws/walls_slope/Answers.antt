use Rattle.theory.proofs.Meet as shown
use Rattle.theory.proofs.laws.walls_slope.Goals as goal

pub returns : goal.returns
returns c = shown.walls_slope_lem
