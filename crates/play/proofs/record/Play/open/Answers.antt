use Rattle.std.proofs.Common.{sym, ap, ◌∙◌, subst}
use Rattle.play.specs.declared.record.Play.{Play}
use Rattle.play.specs.Record.{turn_by}
use Rattle.play.specs.Standing.{Opens}
use Rattle.play.proofs.Records.{opens_so}
use Rattle.play.proofs.record.Play.open.Goals as goal

pub returns : goal.returns
returns c =
    let turn = c.turn_to.ensures ∙ ap (λ t. turn_by t c.args.hottest) c.from.ensures in
    record {
      game = subst (Opens c.args.first c.args.hottest) (sym c.at_first_rows.ensures)
          (opens_so c.args.first c.args.hottest c.turn_to.result c.unwrap_or.result turn c.unwrap_or.ensures);
      rows = ap (λ (y : Play). y.rows) c.at_first_rows.ensures;
    }
