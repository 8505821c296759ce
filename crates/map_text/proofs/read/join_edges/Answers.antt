use Rattle.std.proofs.Common.{ap, ◌∙◌}
use Rattle.std.proofs.lemmas.Result.{err_from_is_err_and}
use Rattle.lines.specs.Commas.{all_of}
use Rattle.lines.specs.Seen.{left}
use Rattle.map_text.specs.Maps.{edge_of}
use Rattle.map_text.proofs.Joins.{turn_more, turn_stops, turns_end}
use Rattle.map_text.proofs.read.join_edges.Goals as goal

pub loop-piece-init : goal.loop-piece-init
loop-piece-init c =
    let same = c.into_iter-piece-iterator.ensures.into_iter_gives in (
      ap (λ p. p.line) same ∙ c.of-piece-items.ensures.line,
      λ es q. (es, ap (all_of edge_of) (ap left same ∙ c.of-piece-items.ensures.pieces) ∙ q, λ t r j. j),
    )

pub loop-piece-preserved : goal.loop-piece-preserved
loop-piece-preserved c =
    let step = c.in-Some.ensures.steps in
    let line = c.loop-piece.invariant.0 in (
      step.2 ∙ line,
      λ es q.
          let i = c.loop-piece.invariant.1 es q in
          let m = turn_more _ _ _ i.0 step.0 i.1 _ c.args.text.line (step.1 ∙ line) c.loop-piece.map c.join_edge.new.map c.in_ok-join_edge.ensures in
          (m.0, m.1, λ t r j. i.2 t r (m.2 t r j)),
    )

pub returns-in_err-join_edge : goal.returns-in_err-join_edge
returns-in_err-join_edge c es q =
    let p = err_from_is_err_and c.from_residual.result c.from_residual.ensures.1 in
    let step = c.in-Some.ensures.steps in
    let i = c.loop-piece.invariant.1 es q in
    rw (p.1, p.2) (i.2 _ _ (turn_stops _ _ _ i.0 step.0 i.1 _ c.args.text.line (step.1 ∙ c.loop-piece.invariant.0) c.loop-piece.map c.join_edge.new.map _ c.in_err-join_edge.ensures))

pub returns : goal.returns
returns c es q =
    let i = c.loop-piece.invariant.1 es q in
    i.2 _ _ (turns_end _ i.0 c.in-None.ensures.steps.0.0 i.1 c.args.text.line c.loop-piece.map)
