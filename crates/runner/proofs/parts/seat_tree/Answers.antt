use Rattle.std.proofs.Common.{◌≡◌, ◌-◌, ap, ◌∙◌, arith}
use Rattle.std.proofs.lemmas.Result.{err_from_is_err_and}
use Rattle.bank.specs.Contents.{trees}
use Rattle.trees.specs.Written.{tree_at}
use Rattle.lines.specs.Reading.{on_line}
use Rattle.lines.specs.Seen.{seen}
use Rattle.tree_text.specs.Rows.{tree_lines}
use Rattle.tree_text.specs.Seen.{lent_rows, lent_room}
use Rattle.job.specs.Grammar.{tree}
use Rattle.meanings.specs.Meaning.{meaning}
use Rattle.runner.specs.Runs.{leaving, seating}
use Rattle.runner.proofs.Bodies.{gave_there, tree_stops, tree_goes}
use Rattle.meanings.proofs.Read.{tree_read}
use Rattle.runner.proofs.parts.seat_tree.Goals as goal

pub returns-in_err-read_tree-clause-seated : goal.returns-in_err-read_tree-clause-seated
returns-in_err-read_tree-clause-seated c =
    let p = err_from_is_err_and c.from_residual.result c.from_residual.ensures.1 in
    let h = c.in_err-read_tree.ensures in
    let m : lent_rows c.args.lent.now ≡ lent_rows c.read_tree.new.lent = omega arith in
    let k : lent_room c.args.lent.now ≡ lent_room c.read_tree.new.lent = omega arith in
    let s = seen c.args.reader.now in
    rw (p.1, p.2)
    (tree_stops (lent_rows c.args.lent.now) (lent_room c.args.lent.now) (trees c.args.bank.now) s _
    ((λ i. tree_lines (m i) (k i) s) ∙ h.read.0))

pub returns-clause-seated : goal.returns-clause-seated
returns-clause-seated c =
    let rs = c.in_ok-read_tree.ensures.read in
    let m : lent_rows c.args.lent.now ≡ lent_rows c.read_tree.new.lent = omega arith in
    let k : lent_room c.args.lent.now ≡ lent_room c.read_tree.new.lent = omega arith in
    let held = trees c.args.bank.now in
    let s = seen c.args.reader.now in
    let t = c.read_tree.new.reader in
    let l = c.read_tree.new.lent in
    let new = c.trees.ensures in
    gave_there (leaving c.seat_first.result (trees c.seat_first.new.bank)) (seating held (meaning (tree rs.0))) t
    (c.seat_first.ensures
    ∙ ((λ i. on_line (seating held (tree_at (new.rows i) (new.picks i) 0)) (t.line - 1))
    ∙ ap (λ x. on_line (seating held x) (t.line - 1)) (tree_read s (seen t) l.rows.now l.picks.now rs.0 rs.1 rs.2)))
    ∙ tree_goes (lent_rows c.args.lent.now) (lent_room c.args.lent.now) held s rs.0 (seen t) ((λ i. tree_lines (m i) (k i) s) ∙ rs.1)
