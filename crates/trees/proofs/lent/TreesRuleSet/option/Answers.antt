use Rattle.std.proofs.Common.{◌∙◌}
use Rattle.trees.specs.WrittenLemmas.{answer_no_option, answer_option}
use Rattle.trees.proofs.lent.TreesRuleSet.option.Goals as goal

pub returns-in_err-row : goal.returns-in_err-row
returns-in_err-row c =
    rw c.from_residual.ensures (answer_no_option c.args.self.now.rows.now c.args.self.now.picks.now c.args.code c.args.side c.args.k (rw c.options.ensures at c.in_err-row.ensures.lookup.3))

pub returns : goal.returns
returns c =
    let h = rw c.options.ensures at c.in_ok-row.ensures.lookup.3 in
    answer_option c.args.self.now.rows.now c.args.self.now.picks.now c.args.code c.args.side c.args.k c.from.result h.0 (c.from.ensures ∙ h.1 0)
