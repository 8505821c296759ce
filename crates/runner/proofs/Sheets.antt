-- The figures of a game, part by part.
use Rattle.std.proofs.Common.{◌≡◌, ℕ, ◌<◌, ◌≤◌, List, map, length, get_or, take, None, ap, ◌∙◌, arith}
use Rattle.theory.specs.Trees.{Tree, at}
use Rattle.spreading.specs.Order.{none}
use Rattle.encoding.specs.Columns.{part_limit}
use Rattle.bank.specs.Contents.{trees}
use Rattle.bank.proofs.Showing.{at_there}
use Rattle.game.specs.declared.game.Game.{Game}
use Rattle.game.specs.State.{state}
use Rattle.game.proofs.Lists.{filled_all}
use Rattle.game.proofs.Positions.{few_parts}
use Rattle.game.proofs.Presents.{present_long}
use Rattle.sheet.specs.declared.values.PartLines.{PartLines}
use Rattle.sheet.specs.Sheets.{part_lines}
use Rattle.runner.specs.Pages.{lines_in}

-- a game has no more parts than a bank may have
pub few_played : (g : Game) → length (state g).parts ≤ part_limit
few_played g = omega (arith, present_long (trees g.bank.now) g.play.rows g.enough, few_parts g.bank.now)

abbrev pub no_lines : PartLines
no_lines = lines_in None

-- the lines of all parts
pub lines_all : (xs : List Tree) (r : List PartLines) (n : ℕ) → n ≡ length xs → length xs ≤ length r → ((k : ℕ) → k < n → get_or r k no_lines ≡ lines_in (at xs k)) → take (length xs) r ≡ map part_lines xs
lines_all xs r n whole room h = filled_all part_lines xs r n none no_lines whole room (λ k l. let here : k < length xs = omega arith in h k l ∙ ap lines_in (at_there xs k here))
