use Rattle.std.proofs.Common.{pos, arith}
use Rattle.std.proofs.lemmas.Int.{ints}
use Rattle.theory.specs.Trees.{ended}
use Rattle.theory.specs.Figures.{switch}
use Rattle.thermographs.proofs.Worked.{score, threat_fair, threat_rows}
use Rattle.thermographs.proofs.tests.nine_two.Goals as goal

pub figure_rows-requires-clause-seated : goal.figure_rows-requires-clause-seated
figure_rows-requires-clause-seated c c' = (
  switch (switch (ended (pos 9)) (ended (pos 2))) (ended (pos 0)),
  threat_fair (pos 9) (pos 2) (pos 0) (score 9 (omega arith)) (score 2 (omega arith)) (score 0 (omega arith)) (omega (arith, ints)) (omega (arith, ints)),
  threat_rows (pos 9) (pos 2) (pos 0),
)
