use Rattle.std.proofs.Common.{Ok, Err, ap, ◌∙◌, arith}
use Rattle.std.proofs.lemmas.Bool.Decides.{nat_tests}
use Rattle.std.proofs.lemmas.Result.{err_from_is_err_and}
use Rattle.terms.specs.declared.fault.Refusal.TheVariants.{BytesAfterJob}
use Rattle.terms.specs.Refusals.{fault}
use Rattle.lines.specs.Seen.{seen}
use Rattle.lines.proofs.Laws.{opened_stops, opened_at}
use Rattle.tree_text.specs.Seen.{lent_rows, lent_room}
use Rattle.job.specs.Account.{counts_of}
use Rattle.job.specs.Reads.{job_lines}
use Rattle.job.proofs.Tellings.{length_stops, lines_stop, bytes_left, whole_told}
use Rattle.job.proofs.check.read_text.Goals as goal

pub returns-in_err-reader-clause-account : goal.returns-in_err-reader-clause-account
returns-in_err-reader-clause-account c =
    let p = err_from_is_err_and c.from_residual.result c.from_residual.ensures.1 in
    rw (p.1, p.2) (length_stops (lent_rows c.args.lent.now) (lent_room c.args.lent.now) c.args.job.now _ (opened_stops c.args.job.now _ c.in_err-reader.ensures))

pub returns-in_err-counts-clause-account : goal.returns-in_err-counts-clause-account
returns-in_err-counts-clause-account c =
    let p = err_from_is_err_and c.from_residual-in_err-counts.result c.from_residual-in_err-counts.ensures.1 in
    let lent = lent_rows c.args.lent.now in
    let room = lent_room c.args.lent.now in
    let o = opened_at c.args.job.now (seen c.in_ok-reader.reader) c.in_ok-reader.ensures in
    rw (p.1, p.2) (lines_stop lent room c.args.job.now _ o.0 (c.in_err-counts.ensures.counts ∙ ap (counts_of (job_lines lent room)) o.1))

pub returns-then-not-is_empty-clause-account : goal.returns-then-not-is_empty-clause-account
returns-then-not-is_empty-clause-account c =
    let lent = lent_rows c.args.lent.now in
    let room = lent_room c.args.lent.now in
    let o = opened_at c.args.job.now (seen c.in_ok-reader.reader) c.in_ok-reader.ensures in
    ap Err (c.at.ensures ∙ ap (fault BytesAfterJob) c.last-lines.ensures)
    ∙ bytes_left lent room c.args.job.now _ (seen c.read_lines.new.reader) o.0 (c.in_ok-counts.ensures.counts ∙ ap (counts_of (job_lines lent room)) o.1) (grind (arith, nat_tests))

pub returns-clause-account : goal.returns-clause-account
returns-clause-account c =
    let lent = lent_rows c.args.lent.now in
    let room = lent_room c.args.lent.now in
    let o = opened_at c.args.job.now (seen c.in_ok-reader.reader) c.in_ok-reader.ensures in
    ap (λ n. Ok (record { lines = n; parts = c.in_ok-counts.counts.parts; moves = c.in_ok-counts.counts.moves })) c.last-lines.ensures
    ∙ whole_told lent room c.args.job.now c.in_ok-counts.counts (seen c.read_lines.new.reader) o.0 (c.in_ok-counts.ensures.counts ∙ ap (counts_of (job_lines lent room)) o.1) (grind (arith, nat_tests))
