use Rattle.theory.proofs.Range as shown
use Rattle.theory.proofs.laws.walls_join.Goals as goal

pub returns : goal.returns
returns c = shown.walls_join_lem
