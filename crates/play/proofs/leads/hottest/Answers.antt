use Rattle.std.proofs.Common.{arith}
use Rattle.play.proofs.Fronts.{hottest_so}
use Rattle.play.proofs.leads.hottest.Goals as goal

pub returns : goal.returns
returns c = hottest_so c.args.heats.now c.loop-part.part _ (omega arith) c.loop-part.invariant
