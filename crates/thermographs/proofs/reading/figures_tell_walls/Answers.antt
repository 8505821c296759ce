use Rattle.thermographs.proofs.Strips.{figures_tell}
use Rattle.thermographs.proofs.Told.{told_is_read}
use Rattle.thermographs.proofs.reading.figures_tell_walls.Goals as goal

pub returns : goal.returns
returns c = record { tell = figures_tell; read = told_is_read }
