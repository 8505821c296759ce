use Rattle.std.proofs.Common.{◌≡◌, length, take, Some}
use Rattle.theory.specs.Trees.{Tree, options}
use Rattle.spreading.specs.Shapes.{Stand}
use Rattle.spreading.proofs.breadth.append.Given as goal

abbrev pub invariant-loop-k : goal.invariant-loop-k
invariant-loop-k g l =
    (t : Tree) → g.R.RuleSet.tree l.rules l.code ≡ Some t → length l.initial.places ≡ length (options t l.side)
    → Stand (g.R.RuleSet.tree l.rules) l.places (take l.k (options t l.side))
