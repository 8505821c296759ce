use Rattle.theory.proofs.Textbook as shown
use Rattle.theory.proofs.laws.textbook_agrees.Goals as goal

pub returns : goal.returns
returns c = shown.textbook_agrees_lem
