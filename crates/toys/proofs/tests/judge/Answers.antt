use Rattle.std.proofs.Common.{sym}
use Rattle.spreading.proofs.Taken.{taken_sound}
use Rattle.toys.proofs.tests.judge.Goals as goal

pub too_high-high-requires-clause-sound : goal.too_high-high-requires-clause-sound
too_high-high-requires-clause-sound g c =
    taken_sound (g.R.RuleSet.tree c.args.rules.now c.args.code) (sym c.if-not-known.ensures) (g.met.R.RuleSet.lawful c.args.rules.now c.args.code) c.args.free.now c.spread.new.free c.in_ok-n.n c.in_ok-n.ensures.rows

pub any_cold-cold-requires-clause-sound : goal.any_cold-cold-requires-clause-sound
any_cold-cold-requires-clause-sound g c =
    taken_sound (g.R.RuleSet.tree c.args.rules.now c.args.code) (sym c.if-not-known.ensures) (g.met.R.RuleSet.lawful c.args.rules.now c.args.code) c.args.free.now c.spread.new.free c.in_ok-n.n c.in_ok-n.ensures.rows
