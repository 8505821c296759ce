use Rattle.std.proofs.Common.{◌≤◌, length, min, arith, length-take, length-take-le, rules}
use Rattle.std.proofs.lemmas.Result.{err_from_is_err_and}
use Rattle.lines.specs.Seen.{seen}
use Rattle.trees.specs.Written.{pick_limit}
use Rattle.tree_text.proofs.Cells.{part_stops, part_read}
use Rattle.tree_text.proofs.tree.read_part.Goals as goal

pub returns-in_err-n-clause-read : goal.returns-in_err-n-clause-read
returns-in_err-n-clause-read c =
    let p = err_from_is_err_and c.from_residual.result c.from_residual.ensures.1 in
    rw (p.1, p.2) (part_stops (length c.args.lent.now.rows.now) (min (length c.args.lent.now.picks.now) pick_limit) (seen c.args.reader.now) _ c.in_err-n.ensures)

pub returns-clause-read : goal.returns-clause-read
returns-clause-read c =
    let rows = c.args.lent.now.rows.now in
    let picks = c.args.lent.now.picks.now in
    let n = c.in_ok-n.n in
    let room = c.min-room.result in
    let some : n ≤ length rows = search rules in
    let few : room ≤ length picks = omega (arith, c.min-room.ensures) in
    part_read rows picks c.read_rows.new.rows c.read_rows.new.picks n room (omega (arith, length-take n rows)) some (omega (arith, length-take room picks)) c.min-room.ensures c.requires (seen c.args.reader.now) (seen c.count_rows.new.reader) (seen c.read_rows.new.reader) c.read_rows.result c.in_ok-n.ensures (rw (length-take-le n rows some, length-take-le room picks few) at c.read_rows.ensures)
