use Rattle.play.specs.Leads.{Front}
use Rattle.play.proofs.leads.hottest.Given as goal

abbrev pub invariant-loop-part : goal.invariant-loop-part
invariant-loop-part l = Front l.heats l.part l.best
