use Rattle.snort.specs.Maps.{joined}
use Rattle.snort.specs.Codes.{answer_count}
use Rattle.snort.proofs.map.SnortRuleSet.count.Goals as goal

pub returns : goal.returns
returns c = answer_count c.args.self.now.points (joined c.args.self.now.near) c.args.self.now.size.1 c.args.self.now.symmetric c.args.side c.args.code c.moves.result c.moves.type_inv c.moves.ensures
