use Rattle.theory.proofs.Floors as shown
use Rattle.theory.proofs.laws.opening_loss.Goals as goal

pub returns : goal.returns
returns c = shown.opening_loss_lem
