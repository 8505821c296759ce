use Rattle.meanings.proofs.Rows.{rows_as_said_lem}
use Rattle.meanings.proofs.laws.rows_as_said.Goals as goal

pub returns : goal.returns
returns c = rows_as_said_lem
