use Rattle.std.proofs.Common.{◌∙◌}
use Rattle.std.proofs.lemmas.Result.{err_from_is_err_and}
use Rattle.lines.specs.declared.key.Key.TheVariants as key
use Rattle.lines.specs.Lines.{entry, form}
use Rattle.lines.specs.Seen.{seen}
use Rattle.tree_text.specs.Seen.{lent_rows, lent_room}
use Rattle.job.specs.Values.{kind_of}
use Rattle.job.specs.Reads.{body_lines, part_lines}
use Rattle.job.proofs.Loops.{bind_stops, bind_goes}
use Rattle.job.proofs.parts.pass_part.Goals as goal

pub returns-in_err-kind-clause-lines : goal.returns-in_err-kind-clause-lines
unfolding part_lines
returns-in_err-kind-clause-lines c =
    let p = err_from_is_err_and c.from_residual.result c.from_residual.ensures.1 in
    rw (p.1, p.2) (bind_stops (entry key.Rules (form kind_of)) (body_lines (lent_rows c.args.lent.now) (lent_room c.args.lent.now)) (seen c.args.reader.now) _ c.in_err-kind.ensures)

pub returns-clause-lines : goal.returns-clause-lines
unfolding part_lines
returns-clause-lines c = c.pass_body.ensures.lines ∙ bind_goes (entry key.Rules (form kind_of)) (body_lines (lent_rows c.args.lent.now) (lent_room c.args.lent.now)) (seen c.args.reader.now) _ _ c.in_ok-kind.ensures
