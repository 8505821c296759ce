use Rattle.std.proofs.Common.{◌≤◌}
use Rattle.play.proofs.Fronts.{Top}
use Rattle.play.proofs.answers.best_option.Given as goal

abbrev pub invariant-loop-k : goal.invariant-loop-k
invariant-loop-k l = Top l.nears l.k l.best × (l.best ≤ l.k)
