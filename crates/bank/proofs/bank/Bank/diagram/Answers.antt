use Rattle.std.proofs.Common.{◌≡◌, MatchOption, rules}
use Rattle.bank.specs.Diagrams.{Pictures}
use Rattle.bank.specs.Positions.{position_of}
use Rattle.bank.proofs.Showing.{shown}
use Rattle.bank.proofs.bank.Bank.diagram.Goals as goal

pub returns : goal.returns
returns c =
    let m : MatchOption c.find.result (c.map_or.result ≡ c.blank.result) (λ p. Pictures (position_of p) c.map_or.result) = search rules in
    shown c.args.self.now c.args.part c.args.row c.find.result c.map_or.result c.blank.result c.find.ensures m c.blank.ensures
