use Rattle.std.proofs.Common.{◌≡◌, ℕ, ◌-◌, ℤ, take, drop, Some, sym, ap, ◌∙◌, subst, arith, w16, to_z, of_z}
use Rattle.std.proofs.lemmas.Int.{ints}
use Rattle.theory.specs.Trees.{Tree, Forest, ended, branch}
use Rattle.spreading.specs.declared.shape.Shape.{Shape}
use Rattle.spreading.specs.Shapes.{end_of}
use Rattle.thermographs.specs.Figures.{figures_of}
use Rattle.thermographs.specs.Rows.{OpenReady, Ready, RowInto}
use Rattle.thermographs.specs.Strips.{told}
use Rattle.thermographs.proofs.OpenRow.{ended_row}
use Rattle.thermographs.proofs.Options.{ready_open, ready_ended}
use Rattle.thermographs.proofs.rows.figure_row.Goals as goal
use Rattle.thermographs.proofs.rows.figure_row.Goals.{After-end}

-- the options, as the code cuts them out
cut_out : (c : After-end) (f : ℕ) (x : Tree) → Ready (told c.args.strip.now) c.args.figures.now c.args.shape f x
    → (L : Forest) × (R : Forest) × (x ≡ branch L R) × OpenReady (told c.args.strip.now) (take (c.start-mid.result - c.start.result) (drop c.start.result c.args.figures.now))
    (take (c.end.result - c.start-mid.result) (drop c.start-mid.result c.args.figures.now)) L R
cut_out c f x h =
    ready_open _ c.args.figures.now c.in-Open.fork f x (subst (λ (z : Shape). Ready (told c.args.strip.now) c.args.figures.now z f x) c.in-Open.is h)
    c.start.result c.start-mid.result c.end.result c.start.ensures c.start-mid.ensures c.end.ensures
    (omega (arith, c.end.ensures, c.requires.inside, ap end_of c.in-Open.is))

pub open_row-requires : goal.open_row-requires
open_row-requires c =
    let (f, x, h) = c.requires.ready in
    let (L, R, e, O) = cut_out (goal.at.open_row-requires c).After-end f x h in
    (L, R, O)

pub returns-in-Open-clause-row : goal.returns-in-Open-clause-row
returns-in-Open-clause-row c f x h =
    let (L, R, e, O) = cut_out (goal.at.returns-in-Open-clause-row c).After-end f x h in
    subst (λ (y : Tree). RowInto y c.args.strip.now c.open_row.result c.open_row.new.strip) (sym e) (c.open_row.ensures.row L R O)

pub returns-in-Ended-clause-row : goal.returns-in-Ended-clause-row
returns-in-Ended-clause-row c f x h =
    let (e, low) = ready_ended _ c.args.figures.now c.in-Ended.score f x (subst (λ (z : Shape). Ready (told c.args.strip.now) c.args.figures.now z f x) c.in-Ended.is h) in
    let read : to_z w16 (of_z w16 c.in-Ended.score) ≡ c.in-Ended.score = omega (arith, ints, low.0, low.1) in
    subst (λ (y : Tree). RowInto y c.args.strip.now (Some c.ended_row.result) c.args.strip.now) (sym e)
    (ended_row c.in-Ended.score c.args.strip.now c.ended_row.result (c.ended_row.ensures ∙ ap (λ (v : ℤ). figures_of c.args.strip.now.used (ended v)) read))
