use Rattle.std.proofs.Common.{[], arith}
use Rattle.bank.proofs.Places.{held_none_yet}
use Rattle.bank.proofs.Trees.{trees_are}
use Rattle.bank.proofs.bank.Bank.new.Goals as goal

pub invariant_of-result : goal.invariant_of-result
invariant_of-result c = record { within = (omega arith, omega arith, omega arith); filled = ∣ ([], held_none_yet) ∣₁ }

pub returns : goal.returns
returns c = trees_are _ [] held_none_yet
