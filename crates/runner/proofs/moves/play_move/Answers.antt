use Rattle.std.proofs.Common.{◌-◌, ap, ◌∙◌}
use Rattle.std.proofs.lemmas.Result.{err_from_is_err_and}
use Rattle.game.specs.State.{state}
use Rattle.lines.specs.Reading.{on_line}
use Rattle.lines.specs.Seen.{seen}
use Rattle.lines.proofs.Laws.{bind_run, bind_stops}
use Rattle.job.specs.Reads.{move_line}
use Rattle.runner.specs.Runs.{there, leaving, making, play_move}
use Rattle.runner.proofs.Bodies.{gave_there}
use Rattle.runner.proofs.Makings.{leaving_line}
use Rattle.runner.proofs.moves.play_move.Goals as goal

pub returns-in_err-next : goal.returns-in_err-next
unfolding play_move
returns-in_err-next c =
    let p = err_from_is_err_and c.from_residual.result c.from_residual.ensures.1 in
    rw (p.1, p.2) (bind_stops move_line (λ m. there (making (state c.args.game.now) m)) (seen c.args.reader.now) _ c.in_err-next.ensures)

pub returns : goal.returns
unfolding play_move
returns c =
    let g = state c.args.game.now in
    let h = state c.make.new.game in
    let t = c.read_move.new.reader in
    let m = c.in_ok-next.next in
    gave_there (leaving c.at_line.result h) (making g m) t
    (ap (λ r. leaving r h) (c.at_line.ensures ∙ ap (on_line c.make.result) c.last.ensures)
    ∙ (leaving_line c.make.result (t.line - 1) h ∙ ap (λ r. on_line r (t.line - 1)) c.make.ensures))
    ∙ bind_run move_line (λ m. there (making g m)) (seen c.args.reader.now) m (seen t) c.in_ok-next.ensures
