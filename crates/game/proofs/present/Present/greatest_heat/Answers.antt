use Rattle.std.proofs.Common.{arith}
use Rattle.std.proofs.lemmas.Grind.{common_steps}
use Rattle.game.specs.Presents.{standing}
use Rattle.game.proofs.Presents.{greatest_so}
use Rattle.game.proofs.present.Present.greatest_heat.Goals as goal

pub returns : goal.returns
returns c = let h = c.map.ensures.cases in let v = c.map.ensures.variant in let s = greatest_so (standing c.args.self.now) c.hottest.result c.hottest.ensures in grind (arith, common_steps, s)
