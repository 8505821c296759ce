use Rattle.meanings.proofs.Parts.{map_read}
use Rattle.meanings.proofs.laws.maps_are_read.Goals as goal

pub returns : goal.returns
returns c = map_read
