use Rattle.std.proofs.Common.{◌/◌, length, sym, ap, subst, arith, rules}
use Rattle.numbers.specs.Numbers.{written}
use Rattle.numbers.proofs.Written.{written_last}
use Rattle.sheet.specs.Page.{said, Adds}
use Rattle.sheet.proofs.Adding.{longer, adds_more, adds_as, last_length, digit_length, last_digit, from_same}
use Rattle.sheet.proofs.say.U64Say.+say.Goals as goal
use Rattle.sheet.proofs.say.U64Say.+say.Goals.{then-self-ge10, else-self-ge10}

pub say-requires : goal.say-requires
say-requires t c = (search rules, record { fits = omega (arith, last_length c.args.self c.if-self-ge10.true) })

pub put-requires : goal.put-requires
put-requires t c =
    elim c.if-self-ge10.branch [
      | then-self-ge10 w ↦
          record { fits = omega (arith, last_length c.args.self w.if-self-ge10.true, longer w.say.ensures, ap (λ p. length (said p)) w.page-is) }
      | else-self-ge10 w ↦ record { fits = omega (arith, digit_length c.args.self w.if-self-ge10.false, ap (λ p. length (said p)) w.page-is) }
    ]

pub returns : goal.returns
returns t c =
    elim c.if-self-ge10.branch [
      | then-self-ge10 w ↦
          adds_as (sym (written_last c.args.self w.if-self-ge10.true))
          (adds_more (subst (λ p. Adds (written (c.args.self / 10)) c.args.page.now p) (sym w.page-is) w.say.ensures) c.put.ensures)
      | else-self-ge10 w ↦ adds_as (last_digit c.args.self w.if-self-ge10.false) (from_same w.page-is c.put.ensures)
    ]
