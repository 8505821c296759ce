use Rattle.std.proofs.Common.{length, refl, pos, ap, ◌∙◌, arith, rules}
use Rattle.theory.specs.Limits.{option_limit}
use Rattle.theory.specs.Trees.{at, options}
use Rattle.spreading.specs.Order.{none}
use Rattle.stories.specs.Game.{near}
use Rattle.bank.specs.Positions.{position_of}
use Rattle.bank.proofs.Showing.{at_there}
use Rattle.game.specs.Presents.{near_in}
use Rattle.game.proofs.Landings.{few_options}
use Rattle.game.proofs.Lists.{made_all, filled_all}
use Rattle.game.proofs.view.View.option_nears.Goals as goal

pub returns : goal.returns
returns c =
    let p = c.args.at in
    let s = c.args.self.side in
    let xs = options (position_of p) s in
    let r = c.from_fn.result in
    let made = made_all _ _ (λ k. near_in s c.args.self.t (at xs k)) (λ k y q e. search rules) r option_limit c.from_fn.ensures.items in
    filled_all (near s c.args.self.t) xs r (length xs) none (pos 0) refl (omega (arith, few_options p.bank.now p.part p.row s p.there, c.from_fn.ensures.items.long))
    (λ k l. made k (pos 0) (omega (arith, few_options p.bank.now p.part p.row s p.there)) ∙ ap (near_in s c.args.self.t) (at_there xs k l))
