use Rattle.std.proofs.Common.{length, refl, arith, rules}
use Rattle.theory.specs.Trees.{at}
use Rattle.encoding.specs.Columns.{part_limit}
use Rattle.game.specs.State.{state}
use Rattle.game.proofs.Lists.{made_all}
use Rattle.runner.specs.Pages.{lines_in}
use Rattle.runner.proofs.Sheets.{few_played, no_lines, lines_all}
use Rattle.runner.proofs.figures.parts_of.Goals as goal

pub returns : goal.returns
returns c =
    let xs = (state c.args.game.now).parts in
    let few = few_played c.args.game.now in
    let made = made_all _ _ (λ k. lines_in (at xs k)) (λ k y q e. search rules) c.from_fn.result part_limit c.from_fn.ensures.items in
    lines_all xs c.from_fn.result (length xs) refl (omega (arith, c.from_fn.ensures.items.long)) (λ k l. made k no_lines (omega arith))
