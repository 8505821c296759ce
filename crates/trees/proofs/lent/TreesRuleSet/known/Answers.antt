use Rattle.std.proofs.Common.{length, ltb, ap, ◌∙◌}
use Rattle.trees.specs.WrittenLemmas.{answer_known}
use Rattle.trees.proofs.lent.TreesRuleSet.known.Goals as goal

pub returns : goal.returns
returns c = ap (λ l. ltb c.args.code (length l)) c.rows.ensures ∙ answer_known c.args.self.now.rows.now c.args.self.now.picks.now c.args.code
