use Rattle.theory.proofs.Corners as shown
use Rattle.theory.proofs.laws.lists_turn.Goals as goal

pub returns : goal.returns
returns c = shown.lists_turn_lem
