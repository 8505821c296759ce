use Rattle.std.proofs.Common.{◌+◌, ◌≤◌, length, sym, ap, subst, arith}
use Rattle.theory.specs.Limits.{greatest_height}
use Rattle.spreading.specs.Shapes.{end_of}
use Rattle.spreading.specs.declared.shape.Shape.{Shape}
use Rattle.spreading.specs.declared.shape.Shape.TheVariants.{Open}
use Rattle.measures.specs.Figures.{HeightOf}
use Rattle.measures.proofs.Entries.{all_part}
use Rattle.measures.proofs.HeightPass.{greatest_most, open_height, other_height}
use Rattle.measures.proofs.heights.height_of.Goals as goal

pub overflow_add-result : goal.overflow_add-result
overflow_add-result c =
    let low : c.tallest.result ≤ greatest_height =
    subst (λ h. h ≤ greatest_height) (sym c.tallest.ensures) (greatest_most greatest_height _ (λ k lt. all_part (λ h. h ≤ greatest_height) 0 c.args.heights.now _ _ (omega arith) c.requires.low k)) in
    omega arith

pub returns-in-Open : goal.returns-in-Open
returns-in-Open c =
    let inside : end_of (Open c.in-Open.fork) ≤ length c.args.heights.now = subst (λ z. end_of z ≤ length c.args.heights.now) c.in-Open.is c.requires.inside in
    subst (λ (z : Shape). HeightOf z c.args.heights.now (1 + c.tallest.result)) (sym c.in-Open.is)
    (open_height c.in-Open.fork c.args.heights.now _ _ _ c.start.ensures c.end.ensures (omega arith) (ap (λ n. 1 + n) c.tallest.ensures))

pub returns-in_default : goal.returns-in_default
returns-in_default c = other_height c.args.shape c.args.heights.now c.in_default.not-Open
