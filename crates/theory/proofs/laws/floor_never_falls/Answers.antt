use Rattle.theory.proofs.Floors as shown
use Rattle.theory.proofs.laws.floor_never_falls.Goals as goal

pub returns : goal.returns
returns c = shown.floor_never_falls_lem
