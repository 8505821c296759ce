use Rattle.std.proofs.Common.{get_or, pos, sym, ap, ◌∙◌, arith, w32, SFits, rules}
use Rattle.std.proofs.lemmas.List.{take_all}
use Rattle.std.proofs.lemmas.Int.{ints}
use Rattle.play.specs.Answers.{sum_z}
use Rattle.play.proofs.Answering.{sum_none, sum_more}
use Rattle.play.proofs.answers.sum.Goals as goal

pub loop-figure-init : goal.loop-figure-init
loop-figure-init c = (sym sum_none, omega (arith, ints), omega (arith, ints))

pub loop-figure-preserved : goal.loop-figure-preserved
loop-figure-preserved c =
    let next = sum_more c.args.figures.now c.loop-figure.figure-index (omega arith) in
    let fits : SFits w32 (get_or c.args.figures.now c.loop-figure.figure-index (pos 0)) = search rules in
    let inv = c.loop-figure.invariant in
    (omega (arith, ints, next, inv.0, inv.1, inv.2), omega (arith, ints, inv.1, inv.2), omega (arith, ints, inv.1, inv.2))

pub returns : goal.returns
returns c =
    let inv = c.loop-figure.invariant in
    record {
      sum = inv.0 ∙ ap sum_z (take_all c.loop-figure.figure-index c.args.figures.now (omega arith));
      small = (omega (arith, ints, inv.1), omega (arith, ints, inv.2));
    }
