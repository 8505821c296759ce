-- What the code holds of a number of points: all that do not fit 32 bits are one.
use Rattle.std.specs.Prelude.{ℕ, min, List, ℤ, pos, negsuc, Ok, Err, Result}
use Rattle.terms.specs.declared.fault.Fault.{Fault}
use Rattle.terms.specs.declared.fault.Refusal.TheVariants.{WrongPoints}
use Rattle.terms.specs.Refusals.{fault}
use Rattle.numbers.specs.Numbers.{integer, judged}
use Rattle.lines.specs.Reading.{then}

abbrev pub from_zero : ℕ → ℤ → Result ℕ Fault
from_zero n (pos k) = Ok (min k 0xffff_ffff)
from_zero n (negsuc k) = Err (fault WrongPoints n)

abbrev pub points_held : List ℕ → ℕ → Result ℕ Fault
points_held v n = then (judged (integer v) n) (from_zero n)
