use Rattle.theory.proofs.Floors as shown
use Rattle.theory.proofs.laws.floor_is_sure.Goals as goal

pub returns : goal.returns
returns c = shown.floor_is_sure_lem
