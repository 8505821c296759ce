use Rattle.theory.proofs.Fairness as shown
use Rattle.theory.proofs.laws.cold_is_judged.Goals as goal

pub returns : goal.returns
returns c = shown.cold_is_judged_lem
