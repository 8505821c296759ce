use Rattle.theory.proofs.TextbookSums as shown
use Rattle.theory.proofs.laws.textbook_sums_agree.Goals as goal

pub returns : goal.returns
returns c = shown.textbook_sums_agree_lem
