use Rattle.std.proofs.lemmas.Result.{err_from_is_err_and}
use Rattle.tree_text.specs.Seen.{lent_rows, lent_room}
use Rattle.numbers.specs.Numbers.{upto}
use Rattle.lines.specs.declared.key.Key.TheVariants as key
use Rattle.lines.specs.Lines.{entry, form}
use Rattle.lines.specs.Seen.{seen}
use Rattle.job.specs.Grammar.{part_limit}
use Rattle.job.specs.Reads.{part_lines, parts_lines}
use Rattle.job.proofs.Loops.{count_stops, count_breaks, count_all}
use Rattle.job.proofs.parts.count_parts.Goals as goal

pub returns-in_err-n-clause-lines : goal.returns-in_err-n-clause-lines
unfolding parts_lines
returns-in_err-n-clause-lines c =
    let p = err_from_is_err_and c.from_residual.result c.from_residual.ensures.1 in
    rw (p.1, p.2) (count_stops (entry key.Parts (form (upto part_limit))) (part_lines (lent_rows c.args.lent.now) (lent_room c.args.lent.now)) (seen c.args.reader.now) _ c.in_err-n.ensures)

pub returns-in_err-pass_parts-clause-lines : goal.returns-in_err-pass_parts-clause-lines
unfolding parts_lines
returns-in_err-pass_parts-clause-lines c =
    let p = err_from_is_err_and c.from_residual-in_err-pass_parts.result c.from_residual-in_err-pass_parts.ensures.1 in
    rw (p.1, p.2) (count_breaks (entry key.Parts (form (upto part_limit))) (part_lines (lent_rows c.args.lent.now) (lent_room c.args.lent.now)) (seen c.args.reader.now) c.in_ok-n.n (seen c.read_count.new.reader) _ c.in_ok-n.ensures c.in_err-pass_parts.ensures.lines)

pub returns-clause-lines : goal.returns-clause-lines
unfolding parts_lines
returns-clause-lines c = count_all (entry key.Parts (form (upto part_limit))) (part_lines (lent_rows c.args.lent.now) (lent_room c.args.lent.now)) (seen c.args.reader.now) c.in_ok-n.n (seen c.read_count.new.reader) _ c.in_ok-n.ensures c.in_ok-pass_parts.ensures.lines
