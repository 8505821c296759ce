use Rattle.theory.proofs.Rule as shown
use Rattle.theory.proofs.laws.rule_keeps.Goals as goal

pub returns : goal.returns
returns c = shown.rule_keeps_lem
