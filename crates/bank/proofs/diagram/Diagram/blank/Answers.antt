use Rattle.bank.proofs.Showing.{no_rise, zero_left, zero_right}
use Rattle.bank.proofs.diagram.Diagram.blank.Goals as goal

pub invariant_of-result : goal.invariant_of-result
invariant_of-result c = record { left_rises = no_rise; right_rises = no_rise; left_fits = zero_left; right_fits = zero_right }
