use Rattle.std.proofs.Common.{◌≡◌, ℤ, sym, ap, ◌∙◌, subst, arith, w32, to_z, of_z}
use Rattle.std.proofs.lemmas.Int.{ints}
use Rattle.terms.specs.declared.side.Side.{Side}
use Rattle.terms.specs.Sides.{other, own}
use Rattle.theory.specs.Corners.{rising}
use Rattle.walls.specs.Ranges.{Tame}
use Rattle.walls.proofs.Straight.{linear_at}
use Rattle.walls.proofs.Drawing.{drawn_turned, tame_turned, start_ranged}
use Rattle.walls.proofs.reading.value_at.Goals as goal
use Rattle.walls.proofs.reading.value_at.Goals.{After-own}

-- the start as the code turns it
turned : (c : After-own) → to_z w32 (of_z w32 c.own.result) ≡ own (other c.args.side) c.args.start
turned c =
    let z = start_ranged c.args.side c.args.start c.args.corners.now (c.requires.tame 0) in
    let read : to_z w32 (of_z w32 c.args.start) ≡ c.args.start = omega (arith, ints) in
    let back : to_z w32 (of_z w32 c.own.result) ≡ c.own.result = omega (arith, ints, c.own.type_inv) in
    back ∙ c.own.ensures ∙ ap (λ (s : Side). own s (to_z w32 (of_z w32 c.args.start))) c.other-rises.ensures ∙ ap (own (other c.args.side)) read

pub own-requires : goal.own-requires
own-requires c = let z = start_ranged c.args.side c.args.start c.args.corners.now (c.requires.tame 0) in omega (arith, ints)

pub piece_at-requires-clause-tame : goal.piece_at-requires-clause-tame
piece_at-requires-clause-tame c =
    subst (λ (v : ℤ). Tame (rising v c.args.corners.now)) (sym (turned c)) (tame_turned c.args.side c.args.start c.args.corners.now c.requires.tame)

pub returns : goal.returns
returns c =
    let e = linear_at (rising (to_z w32 (of_z w32 c.own.result)) c.args.corners.now) c.args.t c.piece_at.result c.piece_at.ensures.here c.piece_at.ensures.linear in
    let r = c.piece_at.result.ranged in
    let value : to_z w32 (of_z w32 c.piece_at.result.value) ≡ rising (own (other c.args.side) c.args.start) c.args.corners.now c.args.t =
    ◌∙◌ {b = c.piece_at.result.value} (omega (arith, ints))
    (sym e ∙ ap (λ (v : ℤ). rising v c.args.corners.now c.args.t) (turned (goal.at.returns c).After-own)) in
    let back : to_z w32 (of_z w32 c.own-2.result) ≡ c.own-2.result = omega (arith, ints, c.own-2.type_inv) in
    back ∙ c.own-2.ensures ∙ ap (λ (s : Side). own s (to_z w32 (of_z w32 c.piece_at.result.value))) c.other-rises.ensures ∙ ap (own (other c.args.side)) value
    ∙ drawn_turned c.args.side c.args.start c.args.corners.now c.args.t
