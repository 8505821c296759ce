use Rattle.std.proofs.Common.{arith}
use Rattle.lines.specs.Seen.{seen}
use Rattle.job.specs.Reads.{move_line}
use Rattle.job.proofs.Loops.{pass_more}
use Rattle.job.proofs.moves.pass_moves.Goals as goal

pub loop-preserved : goal.loop-preserved
loop-preserved c = pass_more move_line c.args.n (seen c.args.reader.now) c.loop.counter (seen c.loop.reader) _ _ (omega arith) c.in_ok-read_move.ensures c.loop.invariant
