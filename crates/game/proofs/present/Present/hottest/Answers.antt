use Rattle.std.proofs.Common.{refl, None, take, ap, ◌∙◌, arith, rules}
use Rattle.theory.specs.Trees.{at}
use Rattle.encoding.specs.Columns.{part_limit}
use Rattle.play.specs.Standing.{heat_of}
use Rattle.game.specs.Presents.{standing}
use Rattle.game.specs.State.{tree_heat}
use Rattle.game.proofs.Lists.{made_all}
use Rattle.game.proofs.Positions.{few_parts}
use Rattle.game.proofs.Presents.{tells_all}
use Rattle.game.proofs.present.Present.hottest.Goals as goal

pub returns : goal.returns
returns c =
    let w = c.args.self.now in
    let r = c.from_fn-heats.result in
    let made = made_all _ _ (λ k. tree_heat (at (standing w) k)) (λ k y q e. search rules) r part_limit c.from_fn-heats.ensures.items in
    let tells = tells_all heat_of tree_heat None (λ x. refl) w r (omega (arith, few_parts w.bank.now, c.from_fn-heats.ensures.items.long)) (λ k e l. made k e (omega (arith, few_parts w.bank.now))) in
    c.hottest.ensures (standing w) (ap (λ n. take n r) c.parts.ensures ∙ tells)
