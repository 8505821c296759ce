use Rattle.meanings.proofs.Parts.{parts_lawful}
use Rattle.meanings.proofs.laws.parts_are_lawful.Goals as goal

pub returns : goal.returns
returns c = parts_lawful
