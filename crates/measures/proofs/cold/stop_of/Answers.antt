use Rattle.std.proofs.Common.{◌≡◌, ◌+◌, ◌≤◌, map, length, sym, ap, ◌∙◌, subst, arith, w16, w32, to_z, of_z}
use Rattle.std.proofs.lemmas.Int.{ints}
use Rattle.terms.specs.Sides.{other, own}
use Rattle.theory.specs.Trees.{Score}
use Rattle.spreading.specs.Shapes.{end_of, SoundRow}
use Rattle.spreading.specs.declared.shape.Shape.{Shape}
use Rattle.spreading.specs.declared.shape.Shape.TheVariants.{Open}
use Rattle.spreading.proofs.Shapes.{side_inside}
use Rattle.measures.specs.Figures.{StopOf}
use Rattle.measures.specs.Figures.{stop_for}
use Rattle.measures.proofs.StopPass.{open_stop, ended_stop}
use Rattle.measures.proofs.cold.stop_of.Goals as goal

pub returns-in-Open-clause-stop : goal.returns-in-Open-clause-stop
returns-in-Open-clause-stop c f x is noted =
    let others = map (stop_for (other c.args.side)) c.args.stops.now in
    let inside : end_of (Open c.in-Open.fork) ≤ length c.args.stops.now = subst (λ (z : Shape). SoundRow (length c.args.stops.now) z) c.in-Open.is c.requires in
    let same : to_z w32 (of_z w32 c.best.result) ≡ c.best.result = omega (arith, ints, c.best.ensures.small.0, c.best.ensures.small.1) in
    same
    ∙ subst (λ (z : Shape). StopOf z c.args.side others c.best.result) (sym c.in-Open.is)
    (open_stop c.in-Open.fork c.args.side c.args.stops.now _ _ _ c.start-from.ensures (ap (λ n. c.start-from.result + n) c.count.ensures)
    (omega (arith, side_inside _ c.in-Open.fork c.args.side inside, c.start-from.ensures, c.count.ensures)) c.best.ensures.best) f x is noted

pub returns-in-Ended-clause-stop : goal.returns-in-Ended-clause-stop
returns-in-Ended-clause-stop c f x is noted =
    let others = map (stop_for (other c.args.side)) c.args.stops.now in
    let small : Score c.in-Ended.score = subst (λ (z : Shape). SoundRow (length c.args.stops.now) z) c.in-Ended.is c.requires in
    let read : to_z w32 (of_z w32 (to_z w16 (of_z w16 c.in-Ended.score))) ≡ c.in-Ended.score = omega (arith, ints, small.0, small.1) in
    let same : to_z w32 (of_z w32 c.own.result) ≡ c.own.result = omega (arith, ints) in
    same ∙ c.own.ensures ∙ ap (own c.args.side) read
    ∙ subst (λ (z : Shape). StopOf z c.args.side others (own c.args.side c.in-Ended.score)) (sym c.in-Ended.is) (ended_stop c.in-Ended.score c.args.side others) f x is noted
