use Rattle.std.proofs.Common.{◌≡◌, length, ℤ, pos, ◌+ℤ◌, ◌≤ℤ◌, sym, refl, ap, ◌∙◌, subst, arith, length-set, w32, to_z, of_z}
use Rattle.std.specs.Iterator.Adapters.{rev_source, enumerate_source}
use Rattle.std.specs.Slice.Iter.{iter_rest}
use Rattle.std.proofs.lemmas.Int.{ints}
use Rattle.terms.specs.declared.side.Side.TheVariants.{Left, Right}
use Rattle.spreading.proofs.Shapes.{length_shapes}
use Rattle.spreading.proofs.Passes.{Noted, noted_none, noted_root, front_all, front_turn, row_turn}
use Rattle.measures.proofs.StopPass.{Seen, stop_read, seen_more, seen_cold}
use Rattle.measures.proofs.cold.any_cold.Goals as goal

pub loop-i-init : goal.loop-i-init
loop-i-init c =
    let all : iter_rest (enumerate_source (rev_source c.into_iter-i-iterator.result)) ≡ c.args.shapes.now =
    rw (c.into_iter-i-iterator.ensures.into_iter_gives, c.rev-i-items.ensures.source, c.enumerate.ensures.source, c.iter.ensures.rest) refl in (
      cc,
      rw all (front_all c.args.shapes.now),
      refl,
      λ t e. noted_none (Seen _) t _ (omega (arith, ap length all, ap length e, length_shapes t)),
    )

pub loop-i-preserved : goal.loop-i-preserved
loop-i-preserved c =
    let step = c.in-Some.ensures.steps in
    let l : ℤ = to_z w32 (of_z w32 c.stop_of.result) in
    let r : ℤ = to_z w32 (of_z w32 c.stop_of-in-loop-i.result) in
    let l-same : l ≡ c.stop_of.result = omega (arith, ints) in
    let r-same : r ≡ c.stop_of-in-loop-i.result = omega (arith, ints) in
    let turn = front_turn _ _ _ _ c.loop-i.invariant.1 step.1.0 in
    let warm : pos 0 ≤ℤ (l +ℤ r) = omega (arith, ints, c.if-are_cold.ensures) in
    let at : c.in-Some.i ≡ length (iter_rest (enumerate_source (rev_source c.next.new.self))) = omega (arith, c.loop-i.invariant.0) in (
      step.0 ∙ c.loop-i.invariant.0,
      turn.0,
      length-set c.loop-i.stops c.in-Some.i _ ∙ c.loop-i.invariant.2,
      λ t e.
          let row = row_turn (Seen c.loop-i.stops) t c.in-Some.i _ _ _ _ c.loop-i.invariant.1 step.1.0 at e (c.loop-i.invariant.3 t e) in
          seen_more t c.in-Some.i _ c.loop-i.stops _ at row.0 (omega (arith, c.loop-i.invariant.2, turn.2))
          (l-same ∙ stop_read t c.in-Some.i _ c.loop-i.stops Left _ row.0 row.1 c.stop_of.ensures.stop row.2)
          (r-same ∙ stop_read t c.in-Some.i _ c.loop-i.stops Right _ row.0 row.1 c.stop_of-in-loop-i.ensures.stop row.2)
          warm row.2,
    )

pub returns-then-are_cold : goal.returns-then-are_cold
returns-then-are_cold c t e =
    let step = c.in-Some.ensures.steps in
    let row = row_turn (Seen c.loop-i.stops) t c.in-Some.i _ _ _ _ c.loop-i.invariant.1 step.1.0 (omega (arith, c.loop-i.invariant.0)) e (c.loop-i.invariant.3 t e) in
    seen_cold t c.in-Some.i c.stop_of.result c.stop_of-in-loop-i.result row.0
    (stop_read t c.in-Some.i _ c.loop-i.stops Left _ row.0 row.1 c.stop_of.ensures.stop row.2)
    (stop_read t c.in-Some.i _ c.loop-i.stops Right _ row.0 row.1 c.stop_of-in-loop-i.ensures.stop row.2)
    (omega (arith, ints, c.if-are_cold.ensures))

pub returns : goal.returns
returns c t e =
    let none : length (iter_rest (enumerate_source (rev_source c.loop-i.i-iterator))) ≡ 0 = c.in-None.ensures.steps.1.0 in
    let all : Noted (Seen c.loop-i.stops) t 0 = subst (λ n. Noted (Seen c.loop-i.stops) t n) none (c.loop-i.invariant.3 t e) in
    sym (noted_root (Seen c.loop-i.stops) t all).warm
