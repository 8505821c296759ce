use Rattle.std.proofs.Common.{ap, ◌∙◌}
use Rattle.std.specs.Ordering.{is_lt}
use Rattle.numbers.proofs.Orders.{lower_is_before}
use Rattle.numbers.proofs.is_less.Goals as goal

pub returns : goal.returns
returns c = c.is_lt.ensures ∙ ap is_lt c.cmp.ensures ∙ lower_is_before c.args.a.now c.args.b.now
