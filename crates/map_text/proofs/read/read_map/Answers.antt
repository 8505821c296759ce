use Rattle.std.proofs.lemmas.Result.{err_from_is_err_and}
use Rattle.lines.specs.Seen.{seen}
use Rattle.map_text.proofs.Steps.{no_points, wrong_points, no_edges, wrong_edges, map_read, shown}
use Rattle.map_text.proofs.read.read_map.Goals as goal

pub returns-in_err-points : goal.returns-in_err-points
returns-in_err-points c =
    let p = err_from_is_err_and c.from_residual.result c.from_residual.ensures.1 in
    rw (p.1, p.2) (no_points (seen c.args.reader.now) _ c.in_err-points.ensures)

pub returns-in_err-map : goal.returns-in_err-map
returns-in_err-map c =
    let p = err_from_is_err_and c.from_residual-in_err-map.result c.from_residual-in_err-map.ensures.1 in
    rw (p.1, p.2) (wrong_points (seen c.args.reader.now) _ _ _ c.in_ok-points.ensures _ c.in_err-map.ensures)

pub returns-in_err-edges : goal.returns-in_err-edges
returns-in_err-edges c =
    let p = err_from_is_err_and c.from_residual-in_err-edges.result c.from_residual-in_err-edges.ensures.1 in
    rw (p.1, p.2) (no_edges (seen c.args.reader.now) _ _ _ c.in_ok-points.ensures _ c.in_ok-map.ensures.0 _ c.in_err-edges.ensures)

pub returns-in_err-read_edges : goal.returns-in_err-read_edges
returns-in_err-read_edges c =
    let p = err_from_is_err_and c.from_residual-in_err-read_edges.result c.from_residual-in_err-read_edges.ensures.1 in
    rw (p.1, p.2) (wrong_edges (seen c.args.reader.now) _ _ _ c.in_ok-points.ensures _ c.in_ok-map.ensures.0 _ _ _ c.in_ok-edges.ensures _ c.in_err-read_edges.ensures)

pub returns : goal.returns
returns c =
    let f = c.in_ok-map.ensures in
    let g = c.in_ok-read_edges.ensures in (
      record { points = c.in_ok-map.map.points; edges = g.0 },
      map_read (seen c.args.reader.now) _ _ _ c.in_ok-points.ensures c.in_ok-map.map.points f.0 _ _ _ c.in_ok-edges.ensures g.0 g.1,
      shown g.0 c.in_ok-map.map c.read_edges.new.map f.1 g.2,
    )
