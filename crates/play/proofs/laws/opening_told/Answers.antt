use Rattle.play.proofs.Tales as shown
use Rattle.play.proofs.laws.opening_told.Goals as goal

pub returns : goal.returns
returns c = shown.opening_told_lem
