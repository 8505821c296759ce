use Rattle.std.proofs.lemmas.Result.{err_from_is_err_and}
use Rattle.bank.specs.Contents.{trees}
use Rattle.tree_text.specs.Seen.{lent_rows, lent_room}
use Rattle.lines.specs.Seen.{seen}
use Rattle.runner.proofs.Ways.{side_stops, first_stops, parts_stop, lined}
use Rattle.runner.proofs.run.run_lines.Goals as goal

pub returns-in_err-side-clause-lines : goal.returns-in_err-side-clause-lines
returns-in_err-side-clause-lines c =
    let p = err_from_is_err_and c.from_residual.result c.from_residual.ensures.1 in
    rw (p.1, p.2) (side_stops (lent_rows c.args.lent.now) (lent_room c.args.lent.now) (seen c.args.reader.now) _ c.in_err-side.ensures)

pub returns-in_err-first-clause-lines : goal.returns-in_err-first-clause-lines
returns-in_err-first-clause-lines c =
    let p = err_from_is_err_and c.from_residual-in_err-first.result c.from_residual-in_err-first.ensures.1 in
    rw (p.1, p.2) (first_stops (lent_rows c.args.lent.now) (lent_room c.args.lent.now) (seen c.args.reader.now) _ _ c.in_ok-side.ensures _ c.in_err-first.ensures)

pub returns-in_err-seat_parts-clause-lines : goal.returns-in_err-seat_parts-clause-lines
returns-in_err-seat_parts-clause-lines c =
    let p = err_from_is_err_and c.from_residual-in_err-seat_parts.result c.from_residual-in_err-seat_parts.ensures.1 in
    rw (p.1, p.2) (parts_stop (lent_rows c.args.lent.now) (lent_room c.args.lent.now) (seen c.args.reader.now) _ _ c.in_ok-side.ensures _ _ c.in_ok-first.ensures _ c.in_err-seat_parts.ensures.seated)

pub returns-clause-lines : goal.returns-clause-lines
returns-clause-lines c =
    lined (lent_rows c.args.lent.now) (lent_room c.args.lent.now) (seen c.args.reader.now) _ _ c.in_ok-side.ensures _ _ c.in_ok-first.ensures
    (trees c.seat_parts.new.bank) (seen c.seat_parts.new.reader) c.in_ok-seat_parts.ensures.seated c.play_out.result c.play_out.new.reader c.play_out.ensures
