use Rattle.bank.proofs.Trees.{parts_trees}
use Rattle.bank.proofs.bank.Bank.parts.Goals as goal

pub returns : goal.returns
returns c = parts_trees c.args.self.now
