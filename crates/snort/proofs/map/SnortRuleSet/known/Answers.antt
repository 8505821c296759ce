use Rattle.std.proofs.Common.{is_some, ap, ◌∙◌}
use Rattle.snort.specs.Maps.{joined}
use Rattle.snort.specs.Codes.{answer_known}
use Rattle.snort.proofs.map.SnortRuleSet.known.Goals as goal

pub returns : goal.returns
returns c = answer_known c.args.self.now.points (joined c.args.self.now.near) c.args.self.now.size.1 c.args.self.now.symmetric c.args.code c.is_some.result (c.is_some.ensures ∙ ap is_some c.colours.ensures)
