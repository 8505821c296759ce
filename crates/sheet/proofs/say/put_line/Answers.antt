use Rattle.std.proofs.Common.{arith}
use Rattle.sheet.specs.Page.{line}
use Rattle.sheet.proofs.Adding.{longer, adds_more, line_length}
use Rattle.sheet.proofs.say.put_line.Goals as goal

pub say-requires : goal.say-requires
say-requires g c = record { fits = omega (arith, line_length c.args.key.now (g.V.Say.text c.args.value), c.requires.fits) }

pub say-requires-2 : goal.say-requires-2
say-requires-2 g c = record { fits = omega (arith, line_length c.args.key.now (g.V.Say.text c.args.value), c.requires.fits, longer c.say.ensures) }

pub put-requires : goal.put-requires
put-requires g c =
    record { fits = omega (arith, line_length c.args.key.now (g.V.Say.text c.args.value), c.requires.fits, longer c.say.ensures, longer c.say-2.ensures) }

pub returns : goal.returns
unfolding line
returns g c = adds_more c.say.ensures (adds_more c.say-2.ensures c.put.ensures)
