use Rattle.theory.proofs.Meet as shown
use Rattle.theory.proofs.laws.scaffolds_meet.Goals as goal

pub returns : goal.returns
returns c = shown.scaffolds_meet_lem
