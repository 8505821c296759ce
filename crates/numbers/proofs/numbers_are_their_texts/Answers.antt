use Rattle.numbers.proofs.Written.{natural_exact, integer_exact}
use Rattle.numbers.proofs.Orders.{ordered}
use Rattle.numbers.proofs.numbers_are_their_texts.Goals as goal

pub returns : goal.returns
returns c = record { natural = natural_exact; integer = integer_exact; ordered = ordered }
