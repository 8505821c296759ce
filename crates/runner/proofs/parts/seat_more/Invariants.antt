use Rattle.std.proofs.Common.{◌≡◌, ◌-◌}
use Rattle.bank.specs.Contents.{trees}
use Rattle.tree_text.specs.Seen.{Kept, lent_rows, lent_room}
use Rattle.lines.specs.Seen.{seen}
use Rattle.runner.specs.Runs.{chain, seat_part}
use Rattle.runner.proofs.parts.seat_more.Given as goal

abbrev pub invariant-loop : goal.invariant-loop
invariant-loop l = record {
  seated : chain (seat_part (lent_rows l.initial.lent) (lent_room l.initial.lent)) (l.n - l.counter) (trees l.bank) (seen l.reader)
      ≡ chain (seat_part (lent_rows l.initial.lent) (lent_room l.initial.lent)) l.n (trees l.initial.bank) (seen l.initial.reader);
  kept : Kept l.initial.lent l.lent;
}
