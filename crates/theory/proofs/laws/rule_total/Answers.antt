use Rattle.theory.proofs.Plays as shown
use Rattle.theory.proofs.laws.rule_total.Goals as goal

pub returns : goal.returns
returns c = shown.rule_total_lem
