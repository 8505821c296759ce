use Rattle.play.proofs.Tales as shown
use Rattle.play.proofs.laws.play_told.Goals as goal

pub returns : goal.returns
returns c = shown.play_told_lem
