use Rattle.std.proofs.lemmas.Result.{err_from_is_err_and}
use Rattle.numbers.specs.Numbers.{upto}
use Rattle.lines.specs.declared.key.Key.TheVariants as key
use Rattle.lines.specs.Lines.{entry, form}
use Rattle.lines.specs.Seen.{seen}
use Rattle.job.specs.Grammar.{move_limit}
use Rattle.job.specs.Reads.{move_line, moves_lines}
use Rattle.job.proofs.Loops.{count_stops, count_breaks, count_all}
use Rattle.job.proofs.moves.count_moves.Goals as goal

pub returns-in_err-n : goal.returns-in_err-n
unfolding moves_lines
returns-in_err-n c =
    let p = err_from_is_err_and c.from_residual.result c.from_residual.ensures.1 in
    rw (p.1, p.2) (count_stops (entry key.Moves (form (upto move_limit))) move_line (seen c.args.reader.now) _ c.in_err-n.ensures)

pub returns-in_err-pass_moves : goal.returns-in_err-pass_moves
unfolding moves_lines
returns-in_err-pass_moves c =
    let p = err_from_is_err_and c.from_residual-in_err-pass_moves.result c.from_residual-in_err-pass_moves.ensures.1 in
    rw (p.1, p.2) (count_breaks (entry key.Moves (form (upto move_limit))) move_line (seen c.args.reader.now) c.in_ok-n.n (seen c.read_count.new.reader) _ c.in_ok-n.ensures c.in_err-pass_moves.ensures)

pub returns : goal.returns
unfolding moves_lines
returns c = count_all (entry key.Moves (form (upto move_limit))) move_line (seen c.args.reader.now) c.in_ok-n.n (seen c.read_count.new.reader) _ c.in_ok-n.ensures c.in_ok-pass_moves.ensures
