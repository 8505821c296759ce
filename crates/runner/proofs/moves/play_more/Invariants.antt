use Rattle.std.proofs.Common.{◌≡◌, ◌-◌}
use Rattle.game.specs.State.{state}
use Rattle.lines.specs.Seen.{seen}
use Rattle.runner.specs.Runs.{chain, play_move}
use Rattle.runner.proofs.moves.play_more.Given as goal

abbrev pub invariant-loop : goal.invariant-loop
invariant-loop l = chain play_move (l.n - l.counter) (state l.game) (seen l.reader) ≡ chain play_move l.n (state l.initial.game) (seen l.initial.reader)
