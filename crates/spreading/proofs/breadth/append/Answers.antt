use Rattle.std.proofs.Common.{◌+◌, ◌<◌, length, take, sym, subst, arith}
use Rattle.std.proofs.lemmas.List.{take_all}
use Rattle.theory.specs.Trees.{options}
use Rattle.spreading.specs.Shapes.{Stand}
use Rattle.spreading.proofs.Spreads.{stand_more, not_missing}
use Rattle.spreading.proofs.breadth.append.Goals as goal
use Rattle.spreading.proofs.breadth.append.Goals.{in-Some, in_default}

pub loop-k-preserved : goal.loop-k-preserved
loop-k-preserved g c t e many =
    let tree = g.R.RuleSet.tree c.args.rules.now in
    let k = c.loop-k.k in
    let here : k < length (options t c.args.side) = omega arith in
    elim c.match-option.branch [
      | in-Some w ↦
          subst (λ l. Stand tree l (take (k + 1) (options t c.args.side))) (sym w.places-is)
          (stand_more tree c.args.code c.loop-k.places t c.args.side k _ e here (omega arith) w.in-Some.ensures.0 (c.loop-k.invariant t e many))
      | in_default w ↦ absurd {A = Stand tree c.match-option.places (take (k + 1) (options t c.args.side))} (not_missing tree c.args.code t c.args.side k e here w.in_default.ensures)
    ]

pub returns : goal.returns
returns g c t e many =
    subst (λ l. Stand (g.R.RuleSet.tree c.args.rules.now) c.loop-k.places l)
    (take_all c.loop-k.k (options t c.args.side) (omega arith)) (c.loop-k.invariant t e many)
