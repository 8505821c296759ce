use Rattle.theory.proofs.Plays as shown
use Rattle.theory.proofs.laws.stops_are_values.Goals as goal

pub returns : goal.returns
returns c = shown.stops_are_values_lem
