use Rattle.std.proofs.Common.{sym, ap, subst, arith}
use Rattle.std.proofs.lemmas.Int.{ints}
use Rattle.terms.specs.declared.side.Side.TheVariants.{Left, Right}
use Rattle.theory.specs.Corners.{Ordered, rise}
use Rattle.bank.proofs.diagram.Diagram.of.Goals as goal

pub corners-requires : goal.corners-requires
corners-requires c = omega (arith, c.requires.inside Left, c.requires.inside Right)

pub corners-requires-2 : goal.corners-requires-2
corners-requires-2 c = omega (arith, c.requires.inside Left, c.requires.inside Right)

pub invariant_of-result : goal.invariant_of-result
invariant_of-result c =
    let l = c.corners.ensures in
    let r = c.corners-2.ensures in
    record {
      left_rises = subst Ordered (sym l) (c.requires.rising Left);
      right_rises = subst Ordered (sym r) (c.requires.rising Right);
      left_fits = λ t. let e = ap (λ cs. rise cs t) l in (omega (arith, ints, (c.requires.fitting Left t).0), omega (arith, ints, (c.requires.fitting Left t).1));
      right_fits = λ t. let e = ap (λ cs. rise cs t) r in (omega (arith, ints, (c.requires.fitting Right t).0), omega (arith, ints, (c.requires.fitting Right t).1));
    }
