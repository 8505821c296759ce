use Rattle.std.proofs.Common.{[], arith}
use mathlib.Core.Logic.{∥∥₁_elim, ∥∥₁_prop}
use Rattle.encoding.proofs.Contents.{lists_set}
use Rattle.bank.proofs.Places.{Full, held_cleared}
use Rattle.bank.proofs.Trees.{trees_are}
use Rattle.bank.proofs.bank.Bank.clear.Goals as goal

pub invariant_of-self : goal.invariant_of-self
invariant_of-self c =
    let b = c.args.self.now in
    let full : Full b.columns = record { shapes = omega arith; figures = omega arith; corners = omega arith; starts = omega arith } in
    let e = c.erase.ensures in
    record {
      within = (omega arith, omega arith, omega arith);
      filled = ∥∥₁_elim b.filled ∥∥₁_prop (λ p. ∣ ([], held_cleared b.columns p.0 c.erase.new.shapes c.erase.new.figures c.erase.new.corners b.within full p.1 e.shapes e.figures e.corners) ∣₁);
    }

pub returns : goal.returns
returns c =
    let b = c.args.self.now in
    let full : Full b.columns = record { shapes = omega arith; figures = omega arith; corners = omega arith; starts = omega arith } in
    let e = c.erase.ensures in
    ∥∥₁_elim b.filled (lists_set _ []) (λ p. trees_are _ [] (held_cleared b.columns p.0 c.erase.new.shapes c.erase.new.figures c.erase.new.corners b.within full p.1 e.shapes e.figures e.corners))
