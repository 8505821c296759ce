use Rattle.std.proofs.Common.{◌≡◌, ℕ, ◌<◌, ◌≤◌, length, set, replicate, sym, refl, ap, ◌∙◌, subst, arith, length-set}
use lib.ListN.{length-replicate}
use Rattle.std.specs.Iterator.Adapters.{rev_source, enumerate_source}
use Rattle.std.specs.Slice.Iter.{iter_rest}
use Rattle.std.proofs.lemmas.Bool.{lt-ltb, le-ltb, ltb-true, ltb-false}
use Rattle.theory.specs.Limits.{greatest_height}
use Rattle.theory.specs.Trees.{height}
use Rattle.spreading.specs.Shapes.{row_limit}
use Rattle.spreading.proofs.Shapes.{length_shapes}
use Rattle.spreading.proofs.Passes.{Noted, Kept, noted_none, noted_root, kept_more, front_all, front_turn, row_turn}
use Rattle.measures.proofs.Entries.{all_set, all_replicate}
use Rattle.measures.proofs.HeightPass.{height_read, rows_lower}
use Rattle.measures.proofs.heights.too_high.Goals as goal

pub loop-i-init : goal.loop-i-init
loop-i-init c =
    let all : iter_rest (enumerate_source (rev_source c.into_iter-i-iterator.result)) ≡ c.args.shapes.now =
    rw (c.into_iter-i-iterator.ensures.into_iter_gives, c.rev-i-items.ensures.source, c.enumerate.ensures.source, c.iter.ensures.rest) refl in (
      cc,
      rw all (front_all c.args.shapes.now),
      length-replicate {A = ℕ} row_limit 0,
      all_replicate (λ h. h ≤ greatest_height) 0 row_limit 0 (omega arith) (omega arith),
      λ t e. noted_none (Kept height 0 (replicate row_limit 0)) t _ (omega (arith, ap length all, ap length e, length_shapes t)),
    )

pub loop-i-preserved : goal.loop-i-preserved
loop-i-preserved c =
    let step = c.in-Some.ensures.steps in
    let turn = front_turn _ _ _ _ c.loop-i.invariant.1 step.1.0 in
    let at : c.in-Some.i ≡ length (iter_rest (enumerate_source (rev_source c.next.new.self))) = omega (arith, c.loop-i.invariant.0) in (
      step.0 ∙ c.loop-i.invariant.0,
      turn.0,
      length-set c.loop-i.heights c.in-Some.i c.height_of-height.result ∙ c.loop-i.invariant.2,
      all_set (λ h. h ≤ greatest_height) 0 c.loop-i.heights c.in-Some.i c.height_of-height.result (ltb-false greatest_height c.height_of-height.result (sym c.if-over.ensures)) c.loop-i.invariant.3,
      λ t e.
          let row = row_turn (Kept height 0 c.loop-i.heights) t c.in-Some.i _ _ _ _ c.loop-i.invariant.1 step.1.0 at e (c.loop-i.invariant.4 t e) in
          let is = height_read t c.in-Some.i _ c.loop-i.heights _ row.0 row.1 c.height_of-height.ensures row.2 in
          subst (λ n. Noted (Kept height 0 (set c.loop-i.heights c.in-Some.i c.height_of-height.result)) t n) at
          (kept_more height 0 t c.in-Some.i c.loop-i.heights c.height_of-height.result (omega (arith, c.loop-i.invariant.2)) is row.2),
    )

pub returns-then-over : goal.returns-then-over
returns-then-over c t e =
    let step = c.in-Some.ensures.steps in
    let row = row_turn (Kept height 0 c.loop-i.heights) t c.in-Some.i _ _ _ _ c.loop-i.invariant.1 step.1.0 (omega (arith, c.loop-i.invariant.0)) e (c.loop-i.invariant.4 t e) in
    let is = height_read t c.in-Some.i _ c.loop-i.heights _ row.0 row.1 c.height_of-height.ensures row.2 in
    let high : greatest_height < height t = omega (arith, rows_lower t c.in-Some.i row.0, is, ltb-true greatest_height c.height_of-height.result (sym c.if-over.ensures)) in
    sym (lt-ltb greatest_height (height t) high)

pub returns : goal.returns
returns c t e =
    let none : length (iter_rest (enumerate_source (rev_source c.loop-i.i-iterator))) ≡ 0 = c.in-None.ensures.steps.1.0 in
    let all : Noted (Kept height 0 c.loop-i.heights) t 0 = subst (λ n. Noted (Kept height 0 c.loop-i.heights) t n) none (c.loop-i.invariant.4 t e) in
    let root = noted_root (Kept height 0 c.loop-i.heights) t all in
    let low : height t ≤ greatest_height = omega (arith, c.loop-i.invariant.3 0, root) in
    sym (le-ltb greatest_height (height t) low)
