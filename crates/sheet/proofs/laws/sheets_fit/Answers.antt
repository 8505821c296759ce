use Rattle.sheet.proofs.Fitted.{sheets_fit_lem}
use Rattle.sheet.proofs.Lengths.{sheet_short}
use Rattle.sheet.proofs.laws.sheets_fit.Goals as goal

pub returns : goal.returns
returns c = λ st s h. (sheets_fit_lem st s h, sheet_short s (sheets_fit_lem st s h))
