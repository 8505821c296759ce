use Rattle.std.proofs.Common.{ap, ◌∙◌}
use Rattle.map_text.specs.Pairs.{last_said, after_edge}
use Rattle.map_text.proofs.Pairs.{next_wrong, next_right, next_first}
use Rattle.map_text.proofs.edges.read_next.Goals as goal
use Rattle.map_text.proofs.edges.read_next.Goals.{in_default-via-in-Some+else-not-is_before, in_default-via-in_default}

pub returns-in-Some : goal.returns-in-Some
returns-in-Some c =
    (ap (after_edge (last_said c.args.last)) c.in_ok-pair.ensures ∙ next_wrong c.args.last c.in-Some.before c.in_ok-pair.pair c.in-Some.is c.if-not-is_before.ensures, c.wrong.ensures)

pub returns-in_default : goal.returns-in_default
returns-in_default c =
    ap (after_edge (last_said c.args.last)) c.in_ok-pair.ensures ∙ elim c.in_default.branch [
      | in_default-via-in-Some+else-not-is_before w ↦ next_right c.args.last w.in-Some.before c.in_ok-pair.pair w.in-Some.is w.if-not-is_before.ensures
      | in_default-via-in_default w ↦ next_first c.args.last c.in_ok-pair.pair w.in_default.is
    ]
