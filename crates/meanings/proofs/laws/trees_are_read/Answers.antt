use Rattle.meanings.proofs.Read.{tree_read}
use Rattle.meanings.proofs.laws.trees_are_read.Goals as goal

pub returns : goal.returns
returns c = tree_read
