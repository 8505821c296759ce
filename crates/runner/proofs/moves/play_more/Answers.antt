use Rattle.std.proofs.Common.{arith}
use Rattle.game.specs.State.{state}
use Rattle.lines.specs.Seen.{seen}
use Rattle.runner.specs.Runs.{play_move}
use Rattle.runner.proofs.Turns.{chain_more}
use Rattle.runner.proofs.moves.play_more.Goals as goal

pub loop-preserved : goal.loop-preserved
loop-preserved c = chain_more play_move c.args.n c.loop.counter (state c.loop.game) (state c.play_move.new.game) (seen c.loop.reader) (seen c.play_move.new.reader) _ (omega arith) c.in_ok-play_move.ensures c.loop.invariant
