use Rattle.std.proofs.Common.{◌≡◌, ◌≤◌, length, drop, Some}
use Rattle.theory.specs.Trees.{Tree}
use Rattle.spreading.specs.Shapes.{row_limit}
use Rattle.spreading.proofs.Spreads.{Growing}
use Rattle.spreading.proofs.breadth.spread.Given as goal

abbrev pub invariant-loop-i : goal.invariant-loop-i
invariant-loop-i g l =
    (l.n ≤ l.room) × (l.i ≤ l.n) × (length l.codes ≡ row_limit) × (drop l.i l.free ≡ drop l.i l.initial.free)
    × ((t : Tree) → g.R.RuleSet.tree l.rules l.code ≡ Some t → Growing (g.R.RuleSet.tree l.rules) t l.i l.n l.codes l.free)
