use Rattle.std.proofs.lemmas.Result.{err_from_is_err_and}
use Rattle.tree_text.specs.Seen.{lent_rows, lent_room}
use Rattle.lines.specs.Seen.{seen}
use Rattle.job.proofs.Tellings.{side_stops, first_stops, parts_stop, moves_stop, all_read}
use Rattle.job.proofs.check.read_lines.Goals as goal

pub returns-in_err-read_word-clause-counts : goal.returns-in_err-read_word-clause-counts
returns-in_err-read_word-clause-counts c =
    let p = err_from_is_err_and c.from_residual.result c.from_residual.ensures.1 in
    rw (p.1, p.2) (side_stops (lent_rows c.args.lent.now) (lent_room c.args.lent.now) (seen c.args.reader.now) _ c.in_err-read_word.ensures)

pub returns-in_err-read_word-2-clause-counts : goal.returns-in_err-read_word-2-clause-counts
returns-in_err-read_word-2-clause-counts c =
    let p = err_from_is_err_and c.from_residual-in_err-read_word-2.result c.from_residual-in_err-read_word-2.ensures.1 in
    rw (p.1, p.2) (first_stops (lent_rows c.args.lent.now) (lent_room c.args.lent.now) (seen c.args.reader.now) _ _ _ c.in_ok-read_word.ensures c.in_err-read_word-2.ensures)

pub returns-in_err-parts-clause-counts : goal.returns-in_err-parts-clause-counts
returns-in_err-parts-clause-counts c =
    let p = err_from_is_err_and c.from_residual-in_err-parts.result c.from_residual-in_err-parts.ensures.1 in
    rw (p.1, p.2) (parts_stop (lent_rows c.args.lent.now) (lent_room c.args.lent.now) (seen c.args.reader.now) _ _ _ _ _ c.in_ok-read_word.ensures c.in_ok-read_word-2.ensures c.in_err-parts.ensures.lines)

pub returns-in_err-moves-clause-counts : goal.returns-in_err-moves-clause-counts
returns-in_err-moves-clause-counts c =
    let p = err_from_is_err_and c.from_residual-in_err-moves.result c.from_residual-in_err-moves.ensures.1 in
    rw (p.1, p.2) (moves_stop (lent_rows c.args.lent.now) (lent_room c.args.lent.now) (seen c.args.reader.now) _ _ _ _ _ _ _ c.in_ok-read_word.ensures c.in_ok-read_word-2.ensures c.in_ok-parts.ensures.lines c.in_err-moves.ensures)

pub returns-clause-counts : goal.returns-clause-counts
returns-clause-counts c = all_read (lent_rows c.args.lent.now) (lent_room c.args.lent.now) (seen c.args.reader.now) _ _ _ _ _ _ _ _ c.in_ok-read_word.ensures c.in_ok-read_word-2.ensures c.in_ok-parts.ensures.lines c.in_ok-moves.ensures
