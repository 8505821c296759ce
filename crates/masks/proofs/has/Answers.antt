use Rattle.masks.proofs.Bits.{shifted}
use Rattle.masks.proofs.has.Goals as goal

pub returns : goal.returns
returns c = shifted c.args.mask c.args.k
