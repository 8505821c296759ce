use Rattle.std.proofs.Common.{◌∙◌}
use Rattle.std.proofs.lemmas.Result.{err_from_is_err_and}
use Rattle.game.specs.State.{state}
use Rattle.lines.specs.Seen.{seen}
use Rattle.lines.proofs.Laws.{bind_run, bind_stops}
use Rattle.runner.specs.Runs.{chain, play_move, moves_line, play_moves}
use Rattle.runner.proofs.moves.play_moves.Goals as goal

pub returns-in_err-n : goal.returns-in_err-n
unfolding play_moves
returns-in_err-n c =
    let p = err_from_is_err_and c.from_residual.result c.from_residual.ensures.1 in
    rw (p.1, p.2) (bind_stops moves_line (λ n. chain play_move n (state c.args.game.now)) (seen c.args.reader.now) _ c.in_err-n.ensures)

pub returns : goal.returns
unfolding play_moves
returns c = c.play_more.ensures ∙ bind_run moves_line (λ n. chain play_move n (state c.args.game.now)) (seen c.args.reader.now) c.in_ok-n.n (seen c.read_count.new.reader) c.in_ok-n.ensures
