use Rattle.theory.proofs.Corners as shown
use Rattle.theory.proofs.laws.walls_are_drawn.Goals as goal

pub returns : goal.returns
returns c = shown.walls_are_drawn_lem
