use Rattle.std.proofs.Common.{[], ap, ◌∙◌}
use Rattle.std.proofs.lemmas.Result.{err_from_is_err_and}
use Rattle.tree_text.specs.Seen.{lent_rows, lent_room}
use Rattle.lines.specs.Seen.{seen}
use Rattle.lines.proofs.Laws.{bind_run, bind_stops}
use Rattle.runner.specs.Runs.{chain, seat_part, part_count, seat_parts}
use Rattle.runner.proofs.parts.seat_parts.Goals as goal

pub returns-in_err-n-clause-seated : goal.returns-in_err-n-clause-seated
unfolding seat_parts
returns-in_err-n-clause-seated c =
    let p = err_from_is_err_and c.from_residual.result c.from_residual.ensures.1 in
    let step = seat_part (lent_rows c.args.lent.now) (lent_room c.args.lent.now) in
    rw (p.1, p.2) (bind_stops part_count (λ n. chain step n []) (seen c.args.reader.now) _ c.in_err-n.ensures)

pub returns-clause-seated : goal.returns-clause-seated
unfolding seat_parts
returns-clause-seated c =
    let step = seat_part (lent_rows c.args.lent.now) (lent_room c.args.lent.now) in
    let t = seen c.read_count.new.reader in
    let n = c.in_ok-n.n in
    c.seat_more.ensures.seated ∙ (ap (λ held. chain step n held t) c.clear.ensures ∙ bind_run part_count (λ n. chain step n []) (seen c.args.reader.now) n t c.in_ok-n.ensures)
