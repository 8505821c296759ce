use Rattle.std.proofs.Common.{◌≡◌, ◌≤◌, length, sym, refl, ap, ◌∙◌, subst, arith, rules}
use Rattle.std.specs.Iterator.Adapters.{rev_source, enumerate_source}
use Rattle.std.specs.Slice.Iter.{iter_rest}
use Rattle.spreading.specs.Order.{row, first}
use Rattle.spreading.specs.Shapes.{end_of}
use Rattle.spreading.specs.declared.shape.Shape.{Shape}
use Rattle.spreading.proofs.Passes.{front_all, front_turn}
use Rattle.spreading.proofs.Rows.{children_inside}
use Rattle.spreading.proofs.Shapes.{length_shapes, shape_inside}
use Rattle.thermographs.proofs.Pass.{pass_none, pass_turn, pass_ready, pass_more, pass_short, pass_all, pass_at, into_none, into_all}
use Rattle.thermographs.proofs.rows.figure_rows.Goals as goal

pub loop-i-init : goal.loop-i-init
loop-i-init c =
    let all : iter_rest (enumerate_source (rev_source c.into_iter-i-iterator.result)) ≡ c.args.shapes.now =
    rw (c.into_iter-i-iterator.ensures.into_iter_gives, c.rev-i-items.ensures.source, c.enumerate.ensures.source, c.iter.ensures.rest) refl in
    record {
      same = refl;
      count = cc;
      front = rw all (front_all c.args.shapes.now);
      pass = λ t fair e. pass_none t c.args.figures.now _ _ (omega (arith, ap length all, ap length e, length_shapes t));
    }

pub figure_row-requires : goal.figure_row-requires
figure_row-requires c =
    let (t, fair, e) = c.requires.seated in
    let step = c.in-Some.ensures.steps in
    let (lt, here, P) = pass_turn t _ _ _ _ c.in-Some.i _ _ _ _ c.loop-i.invariant.front step.1.0 (omega (arith, c.loop-i.invariant.count)) e (c.loop-i.invariant.pass t fair e) in
    record {
      inside = subst (λ (x : Shape). end_of x ≤ length c.loop-i.figures) (sym here)
          (shape_inside (length c.loop-i.figures) (first t c.in-Some.i) (row t c.in-Some.i) (omega (arith, children_inside t c.in-Some.i lt, c.requires.rows, ap length e, length_shapes t)));
      ready = (first t c.in-Some.i, row t c.in-Some.i, pass_ready t _ _ c.loop-i.figures c.loop-i.strip c.in-Some.i lt P fair c.in-Some.shape.now here);
    }

pub returns-in_err-figures : goal.returns-in_err-figures
returns-in_err-figures c t fair e =
    let step = c.in-Some.ensures.steps in
    let (lt, here, P) = pass_turn t _ _ _ _ c.in-Some.i _ _ _ _ c.loop-i.invariant.front step.1.0 (omega (arith, c.loop-i.invariant.count)) e (c.loop-i.invariant.pass t fair e) in
    let short = c.in_err-figures.ensures.row (first t c.in-Some.i) (row t c.in-Some.i) (pass_ready t _ _ c.loop-i.figures c.loop-i.strip c.in-Some.i lt P fair c.in-Some.shape.now here) in
    into_none t _ _ _ _ _ c.new-strip.result c.figure_row.new.strip c.new-strip.ensures.used c.new-strip.ensures.places (search rules) _ c.from_residual.ensures
    (pass_short t _ _ c.loop-i.figures c.loop-i.strip c.in-Some.i lt P c.figure_row.new.strip short)

pub loop-i-preserved : goal.loop-i-preserved
loop-i-preserved c =
    let step = c.in-Some.ensures.steps in
    let at : c.in-Some.i ≡ length (iter_rest (enumerate_source (rev_source c.next.new.self))) = omega (arith, c.loop-i.invariant.count) in
    record {
      same = c.figure_row.ensures.same_reference ∙ c.loop-i.invariant.same;
      count = step.0 ∙ c.loop-i.invariant.count;
      front = (front_turn _ _ _ _ c.loop-i.invariant.front step.1.0).0;
      pass = λ t fair e.
          let (lt, here, P) = pass_turn t _ _ _ _ c.in-Some.i _ _ _ _ c.loop-i.invariant.front step.1.0 at e (c.loop-i.invariant.pass t fair e) in
          let done = c.in_ok-figures.ensures.row (first t c.in-Some.i) (row t c.in-Some.i) (pass_ready t _ _ c.loop-i.figures c.loop-i.strip c.in-Some.i lt P fair c.in-Some.shape.now here) in
          pass_at t _ _ _ _ _ _ at
          (pass_more t _ _ c.loop-i.figures c.loop-i.strip c.in-Some.i lt P c.in_ok-figures.field-0 c.figure_row.new.strip (omega (arith, c.requires.rows, ap length e, length_shapes t)) done);
    }

pub returns : goal.returns
returns c t fair e =
    let none : length (iter_rest (enumerate_source (rev_source c.loop-i.i-iterator))) ≡ 0 = c.in-None.ensures.steps.1.0 in
    into_all t _ _ _ _ _ c.new-strip.result c.loop-i.strip c.new-strip.ensures.used c.new-strip.ensures.places (search rules)
    (pass_all t _ _ c.loop-i.figures c.loop-i.strip (pass_at t _ _ _ _ _ _ none (c.loop-i.invariant.pass t fair e)) (omega (arith, ap length e, length_shapes t, c.requires.rows)))
