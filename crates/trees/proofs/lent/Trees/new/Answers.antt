use Rattle.std.proofs.Common.{refl}
use Rattle.trees.specs.WrittenLemmas.{as_written}
use Rattle.trees.proofs.lent.Trees.new.Goals as goal

pub returns : goal.returns
returns c = (refl, (refl, as_written c.args.rows.now c.args.picks.now))
