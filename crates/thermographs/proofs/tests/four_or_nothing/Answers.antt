use Rattle.std.proofs.Common.{pos, arith}
use Rattle.std.proofs.lemmas.Int.{ints}
use Rattle.theory.specs.Trees.{ended}
use Rattle.theory.specs.Figures.{switch}
use Rattle.thermographs.proofs.Worked.{score, switch_fair, switch_rows}
use Rattle.thermographs.proofs.tests.four_or_nothing.Goals as goal

pub figure_rows-requires-clause-seated : goal.figure_rows-requires-clause-seated
figure_rows-requires-clause-seated c c' = (
  switch (ended (pos 4)) (ended (pos 0)),
  switch_fair (pos 4) (pos 0) (score 4 (omega arith)) (score 0 (omega arith)) (omega (arith, ints)),
  switch_rows (pos 4) (pos 0),
)
