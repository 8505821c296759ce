use Rattle.std.proofs.Common.{◌≤◌, length}
use Rattle.adviser.proofs.read_input.Given as goal

abbrev pub invariant-loop : goal.invariant-loop
invariant-loop l = l.used ≤ length l.initial.buffer
