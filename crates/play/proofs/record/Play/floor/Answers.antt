use Rattle.std.proofs.Common.{arith}
use Rattle.std.proofs.lemmas.Int.{ints}
use Rattle.play.proofs.Answering.{floor_so}
use Rattle.play.proofs.record.Play.floor.Goals as goal

pub returns-in-Ours-clause-floor : goal.returns-in-Ours-clause-floor
returns-in-Ours-clause-floor c = floor_so c.args.self.now c.args.nears.now c.args.gain _ _ c.in-Ours.is (omega (arith, ints, c.sum-walls.ensures.sum))

pub returns-in-Theirs-clause-floor : goal.returns-in-Theirs-clause-floor
returns-in-Theirs-clause-floor c = floor_so c.args.self.now c.args.nears.now c.args.gain _ _ c.in-Theirs.is (omega (arith, ints, c.sum-walls.ensures.sum))

pub returns-in-Over-clause-floor : goal.returns-in-Over-clause-floor
returns-in-Over-clause-floor c = floor_so c.args.self.now c.args.nears.now c.args.gain _ _ c.in-Over.is (omega (arith, ints, c.sum-walls.ensures.sum))
