use Rattle.sheet.proofs.say.U64Say.+say.Given as goal

abbrev pub decreases-say : goal.decreases-say
decreases-say l = l.self
