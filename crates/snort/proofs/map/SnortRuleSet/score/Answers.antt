use Rattle.std.proofs.Common.{ℤ, Some, sym, ap, ◌∙◌, arith}
use Rattle.std.proofs.lemmas.Int.{ints}
use Rattle.snort.specs.Maps.{joined}
use Rattle.snort.specs.Codes.{answer_unknown_score, answer_open_score, answer_score, both_few}
use Rattle.snort.proofs.map.SnortRuleSet.score.Goals as goal

pub returns-in_err-colours : goal.returns-in_err-colours
returns-in_err-colours c =
    let m = c.args.self.now in
    c.from_residual.ensures ∙ answer_unknown_score m.points (joined m.near) m.size.1 m.symmetric c.args.code (c.in_err-colours.ensures)

pub returns-then-both_have_some : goal.returns-then-both_have_some
returns-then-both_have_some c =
    let m = c.args.self.now in
    answer_open_score m.points (joined m.near) m.size.1 m.symmetric c.args.code c.in_ok-colours.colours c.in_ok-colours.ensures c.choices-choices.result c.choices-choices.ensures (sym c.if-both_have_some.ensures)

pub overflow_cast-ours : goal.overflow_cast-ours
overflow_cast-ours c =
    let m = c.args.self.now in
    let few = both_few m.points (joined m.near) m.size.1 m.symmetric c.args.code c.in_ok-colours.colours c.in_ok-colours.ensures c.choices-choices.result c.choices-choices.ensures in
    omega (arith, ints, few.0)

pub overflow_cast-theirs : goal.overflow_cast-theirs
overflow_cast-theirs c =
    let m = c.args.self.now in
    let few = both_few m.points (joined m.near) m.size.1 m.symmetric c.args.code c.in_ok-colours.colours c.in_ok-colours.ensures c.choices-choices.result c.choices-choices.ensures in
    omega (arith, ints, few.1)

pub overflow_sub-result : goal.overflow_sub-result
overflow_sub-result c =
    let m = c.args.self.now in
    let few = both_few m.points (joined m.near) m.size.1 m.symmetric c.args.code c.in_ok-colours.colours c.in_ok-colours.ensures c.choices-choices.result c.choices-choices.ensures in
    omega (arith, ints, few.0, few.1)

pub returns : goal.returns
returns c =
    let m = c.args.self.now in
    let few = both_few m.points (joined m.near) m.size.1 m.symmetric c.args.code c.in_ok-colours.colours c.in_ok-colours.ensures c.choices-choices.result c.choices-choices.ensures in
    ap (λ (v : ℤ). Some v) (omega (arith, ints, few.0, few.1)) ∙ answer_score m.points (joined m.near) m.size.1 m.symmetric c.args.code c.in_ok-colours.colours c.in_ok-colours.ensures c.choices-choices.result c.choices-choices.ensures (sym c.if-both_have_some.ensures)
