use Rattle.std.proofs.Common.{◌≡◌, ◌*◌, take, pos, neg_ℤ, ◌≤ℤ◌}
use Rattle.play.specs.Answers.{sum_z}
use Rattle.play.proofs.answers.sum.Given as goal

abbrev pub invariant-loop-figure : goal.invariant-loop-figure
invariant-loop-figure l =
    (l.total ≡ sum_z (take l.figure-index l.figures)) ×
    (l.total ≤ℤ pos (l.figure-index * 2147483648)) ×
    (neg_ℤ (pos (l.figure-index * 2147483648)) ≤ℤ l.total)
