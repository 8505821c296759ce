use Rattle.std.proofs.Common.{arith}
use Rattle.play.proofs.Fronts.{top_so}
use Rattle.play.proofs.answers.best_option.Goals as goal

pub returns : goal.returns
returns c = top_so c.args.nears.now c.loop-k.k _ (omega arith) c.loop-k.invariant.0
