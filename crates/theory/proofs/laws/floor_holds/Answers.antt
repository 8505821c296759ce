use Rattle.theory.proofs.Plays as shown
use Rattle.theory.proofs.laws.floor_holds.Goals as goal

pub returns : goal.returns
returns c = shown.floor_holds_lem
