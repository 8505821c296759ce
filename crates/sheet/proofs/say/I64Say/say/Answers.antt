use Rattle.std.proofs.Common.{◌≡◌, length, pos, nat_abs, ◌≤ℤ◌, ◌<ℤ◌, sym, ap, ◌∙◌, arith, w64}
use Rattle.numbers.specs.Numbers.{written}
use Rattle.std.proofs.lemmas.Int.{ints, to_z-of_z}
use Rattle.sheet.specs.Page.{said}
use Rattle.sheet.proofs.Adding.{longer, adds_more, adds_as, decimal_below, decimal_above, from_same}
use Rattle.sheet.proofs.say.I64Say.say.Goals as goal
use Rattle.sheet.proofs.say.I64Say.say.Goals.{then-self-lt0, else-self-lt0}

pub put-requires : goal.put-requires
put-requires c =
    let h : c.args.self <ℤ pos 0 = omega (arith, ints) in
    record { fits = omega (arith, ap length (decimal_below c.args.self h)) }

pub say-requires : goal.say-requires
say-requires c =
    let q : c.unsigned_abs.result ≡ nat_abs c.args.self = c.unsigned_abs.ensures.value ∙ ap nat_abs (to_z-of_z w64 c.args.self c.ranges.self) in
    let l = ap (λ n. length (written n)) q in
    elim c.if-self-lt0.branch [
      | then-self-lt0 w ↦
          let h : c.args.self <ℤ pos 0 = omega (arith, ints, w.if-self-lt0.true) in
          record { fits = omega (arith, ap length (decimal_below c.args.self h), longer w.put.ensures, ap (λ p. length (said p)) w.page-is) }
      | else-self-lt0 w ↦
          let h : pos 0 ≤ℤ c.args.self = omega (arith, ints, w.if-self-lt0.false) in
          record { fits = omega (arith, ap length (decimal_above c.args.self h), ap (λ p. length (said p)) w.page-is) }
    ]

pub returns : goal.returns
returns c =
    let q : c.unsigned_abs.result ≡ nat_abs c.args.self = c.unsigned_abs.ensures.value ∙ ap nat_abs (to_z-of_z w64 c.args.self c.ranges.self) in
    let digits = adds_as (ap written q) c.say.ensures in
    elim c.if-self-lt0.branch [
      | then-self-lt0 w ↦
          let h : c.args.self <ℤ pos 0 = omega (arith, ints, w.if-self-lt0.true) in
          adds_as (sym (decimal_below c.args.self h)) (adds_more w.put.ensures (from_same w.page-is digits))
      | else-self-lt0 w ↦
          let h : pos 0 ≤ℤ c.args.self = omega (arith, ints, w.if-self-lt0.false) in
          adds_as (sym (decimal_above c.args.self h)) (from_same w.page-is digits)
    ]
