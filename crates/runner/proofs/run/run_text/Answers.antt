use Rattle.std.proofs.Common.{Err, sym, ap, ◌∙◌, arith}
use Rattle.std.proofs.lemmas.Bool.Decides.{nat_tests}
use Rattle.std.proofs.lemmas.Result.{err_from_is_err_and}
use Rattle.terms.specs.declared.fault.Refusal.TheVariants.{BytesAfterJob}
use Rattle.terms.specs.Refusals.{fault}
use Rattle.lines.specs.Seen.{seen}
use Rattle.lines.proofs.Laws.{opened_stops, opened_at}
use Rattle.tree_text.specs.Seen.{lent_rows, lent_room}
use Rattle.runner.specs.Runs.{run_lines}
use Rattle.runner.proofs.Ways.{length_stops, lines_stop, bytes_left, run_ends}
use Rattle.runner.proofs.run.run_text.Goals as goal

pub returns-in_err-reader-clause-text : goal.returns-in_err-reader-clause-text
returns-in_err-reader-clause-text c =
    let p = err_from_is_err_and c.from_residual.result c.from_residual.ensures.1 in
    rw (p.1, p.2) (length_stops (lent_rows c.args.lent.now) (lent_room c.args.lent.now) c.args.job.now _ (opened_stops c.args.job.now _ c.in_err-reader.ensures))

pub returns-in_err-sheet-clause-text : goal.returns-in_err-sheet-clause-text
returns-in_err-sheet-clause-text c =
    let p = err_from_is_err_and c.from_residual-in_err-sheet.result c.from_residual-in_err-sheet.ensures.1 in
    let lent = lent_rows c.args.lent.now in
    let room = lent_room c.args.lent.now in
    let o = opened_at c.args.job.now (seen c.in_ok-reader.reader) c.in_ok-reader.ensures in
    rw (p.1, p.2) (lines_stop lent room c.args.job.now o.0 _ (ap (run_lines lent room) (sym o.1) ∙ c.in_err-sheet.ensures.lines))

pub returns-then-not-is_empty-clause-text : goal.returns-then-not-is_empty-clause-text
returns-then-not-is_empty-clause-text c =
    let lent = lent_rows c.args.lent.now in
    let room = lent_room c.args.lent.now in
    let o = opened_at c.args.job.now (seen c.in_ok-reader.reader) c.in_ok-reader.ensures in
    let h = c.in_ok-sheet.ensures.lines in
    bytes_left lent room c.args.job.now o.0 h.0 (seen c.run_lines.new.reader) (ap (run_lines lent room) (sym o.1) ∙ h.1) (grind (arith, nat_tests))
    ∙ ap Err (ap (fault BytesAfterJob) (sym c.last.ensures) ∙ sym c.at.ensures)

pub returns-clause-text : goal.returns-clause-text
returns-clause-text c =
    let lent = lent_rows c.args.lent.now in
    let room = lent_room c.args.lent.now in
    let o = opened_at c.args.job.now (seen c.in_ok-reader.reader) c.in_ok-reader.ensures in
    let h = c.in_ok-sheet.ensures.lines in
    (h.0, run_ends lent room c.args.job.now o.0 h.0 (seen c.run_lines.new.reader) (ap (run_lines lent room) (sym o.1) ∙ h.1) (grind (arith, nat_tests)), h.2, h.3)
