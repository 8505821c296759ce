use Rattle.std.proofs.Common.{rules}
use Rattle.numbers.proofs.text.Text.within.Goals as goal

pub returns-in_err-n : goal.returns-in_err-n
returns-in_err-n c = search rules
