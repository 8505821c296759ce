use Rattle.std.proofs.Common.{◌≡◌, ℕ, List, ℤ, sym, ap, ◌∙◌, subst, arith, w32, to_z, of_z}
use Rattle.std.proofs.lemmas.Int.{ints}
use Rattle.theory.specs.Trees.{Tree}
use Rattle.theory.specs.Fair.{Fair}
use Rattle.theory.specs.Corners.{Ordered}
use Rattle.walls.specs.Ranges.{Tame}
use Rattle.walls.specs.Readings.{drawn}
use Rattle.walls.proofs.Drawing.{start_ranged}
use Rattle.thermographs.specs.declared.figures.Wall.{Wall}
use Rattle.thermographs.specs.Figures.{wall_of, run, Tells}
use Rattle.thermographs.proofs.Told.{told_is_read}
use Rattle.thermographs.proofs.reading.wall_at.Goals as goal
use Rattle.thermographs.proofs.reading.wall_at.Goals.{After-corners}

-- the wall's start and its corners, as the code passes them on
passed : (c : After-corners) (x : Tree) → Fair x → Tells c.args.corners.now c.args.row x
    → (to_z w32 (of_z w32 c.wall-wall.result.start) ≡ (wall_of c.args.row c.args.side).start) × (c.corners.result.now ≡ run (wall_of c.args.row c.args.side) c.args.corners.now)
passed c x fair h =
    let k = ap (λ (z : Wall). z.start) c.wall-wall.ensures in
    let r = start_ranged c.args.side (wall_of c.args.row c.args.side).start (run (wall_of c.args.row c.args.side) c.args.corners.now)
    ((told_is_read c.args.corners.now c.args.row x fair h).tame c.args.side 0) in
    (omega (arith, ints), c.corners.ensures ∙ ap (λ (z : Wall). run z c.args.corners.now) c.wall-wall.ensures)

pub value_at-requires : goal.value_at-requires
value_at-requires c =
    let (x, fair, h) = c.requires in
    let (start, turns) = passed (goal.at.value_at-requires c).After-corners x fair h in
    let K = told_is_read c.args.corners.now c.args.row x fair h in
    record {
      ordered = subst Ordered (sym turns) (K.ordered c.args.side);
      tame = subst (λ (v : ℤ). Tame (drawn c.args.side v c.corners.result.now)) (sym start)
          (subst (λ (cs : List ℕ). Tame (drawn c.args.side (wall_of c.args.row c.args.side).start cs)) (sym turns) (K.tame c.args.side));
    }

pub returns : goal.returns
returns c x fair h =
    let (start, turns) = passed (goal.at.returns c).After-corners x fair h in
    let back : to_z w32 (of_z w32 c.value_at.result) ≡ c.value_at.result = omega (arith, ints, c.value_at.type_inv) in
    back ∙ c.value_at.ensures ∙ ap (λ (v : ℤ). drawn c.args.side v c.corners.result.now c.args.t) start
    ∙ ap (λ (cs : List ℕ). drawn c.args.side (wall_of c.args.row c.args.side).start cs c.args.t) turns ∙ (told_is_read c.args.corners.now c.args.row x fair h).reads c.args.side c.args.t
