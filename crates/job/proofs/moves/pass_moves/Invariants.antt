use Rattle.std.proofs.Common.{◌≡◌, ◌-◌}
use Rattle.lines.specs.Reading.{times}
use Rattle.lines.specs.Seen.{seen}
use Rattle.job.specs.Account.{passed}
use Rattle.job.specs.Reads.{move_line}
use Rattle.job.proofs.moves.pass_moves.Given as goal

abbrev pub invariant-loop : goal.invariant-loop
invariant-loop l = passed (times (l.n - l.counter) move_line) (seen l.reader) ≡ passed (times l.n move_line) (seen l.initial.reader)
