use Rattle.std.proofs.Common.{length, ap, ◌∙◌}
use Rattle.trees.specs.WrittenLemmas.{answer_count}
use Rattle.trees.proofs.lent.TreesRuleSet.count.Goals as goal

pub returns : goal.returns
returns c = ap length c.options.ensures ∙ answer_count c.args.self.now.rows.now c.args.self.now.picks.now c.args.code c.args.side
