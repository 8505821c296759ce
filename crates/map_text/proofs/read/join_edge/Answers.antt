use Rattle.std.proofs.Common.{[], ◌∷◌, sym, subst, ◌∙◌}
use Rattle.map_text.specs.Shows.{Joined}
use Rattle.map_text.proofs.Joins.{no_number, edge_joined}
use Rattle.map_text.proofs.read.join_edge.Goals as goal

pub returns-in_err-to : goal.returns-in_err-to
returns-in_err-to c e q = no_number c.in_ok-pair.pair e (sym c.in_ok-pair.ensures ∙ q) _ _ c.in_err-to.ensures

pub returns : goal.returns
returns c e q =
    subst (Joined (e ∷ []) c.args.text.line c.args.map.now c.join.new.self) (sym c.at_line.ensures)
    (edge_joined c.args.map.now c.join.new.self c.in_ok-pair.pair e c.args.text.line _ _ _ _ _ c.args.map.now.size.1 (sym c.in_ok-pair.ensures ∙ q) c.in_ok-from.ensures c.in_ok-to.ensures c.join.ensures.answer c.join.ensures.points c.join.ensures.edges)
