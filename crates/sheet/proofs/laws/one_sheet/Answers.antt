use Rattle.sheet.proofs.Fitted.{sheet_there, text_one}
use Rattle.sheet.proofs.laws.one_sheet.Goals as goal

pub returns : goal.returns
returns c = λ st. record { some = sheet_there st; one = text_one st }
