use Rattle.std.proofs.Common.{pos, refl, arith, rules}
use Rattle.theory.specs.Trees.{at}
use Rattle.stories.specs.Game.{near}
use Rattle.encoding.specs.Columns.{part_limit}
use Rattle.game.specs.Presents.{standing, near_in}
use Rattle.game.proofs.Lists.{made_all}
use Rattle.game.proofs.Positions.{few_parts}
use Rattle.game.proofs.Presents.{tells_all}
use Rattle.game.proofs.present.Present.nears.Goals as goal

pub returns : goal.returns
returns c =
    let w = c.args.self.now in
    let made = made_all _ _ (λ k. near_in c.args.view.side c.args.view.t (at (standing w) k)) (λ k y q e. search rules) c.from_fn.result part_limit c.from_fn.ensures.items in
    tells_all (near c.args.view.side c.args.view.t) (near_in c.args.view.side c.args.view.t) (pos 0) (λ x. refl) w c.from_fn.result (omega (arith, few_parts w.bank.now, c.from_fn.ensures.items.long)) (λ k e l. made k e (omega (arith, few_parts w.bank.now)))
