use Rattle.std.proofs.Common.{◌≡◌, ◌-◌}
use Rattle.lines.specs.Reading.{times}
use Rattle.lines.specs.Seen.{seen}
use Rattle.tree_text.specs.Seen.{Kept, lent_rows, lent_room}
use Rattle.job.specs.Account.{passed}
use Rattle.job.specs.Reads.{part_lines}
use Rattle.job.proofs.parts.pass_parts.Given as goal

abbrev pub invariant-loop : goal.invariant-loop
invariant-loop l = record {
  lines : passed (times (l.n - l.counter) (part_lines (lent_rows l.initial.lent) (lent_room l.initial.lent))) (seen l.reader)
      ≡ passed (times l.n (part_lines (lent_rows l.initial.lent) (lent_room l.initial.lent))) (seen l.initial.reader);
  kept : Kept l.initial.lent l.lent;
}
