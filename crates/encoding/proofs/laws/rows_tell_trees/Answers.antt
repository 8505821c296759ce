use Rattle.encoding.proofs.Decoding.{rows_tell_trees_lem}
use Rattle.encoding.proofs.laws.rows_tell_trees.Goals as goal

pub returns : goal.returns
returns c = rows_tell_trees_lem
