use Rattle.std.proofs.Common.{ap}
use mathlib.Core.Logic.{∥∥₁_elim, ∥∥₁_prop}
use Rattle.thermographs.specs.declared.figures.Figures.{Figures}
use Rattle.bank.specs.Contents.{trees}
use Rattle.bank.specs.Positions.{position_of}
use Rattle.bank.proofs.Showing.{told, fair_row, told_rising, told_fitting, pictures}
use Rattle.bank.proofs.Trees.{trees_held}
use Rattle.bank.proofs.position.Position.diagram.Goals as goal

pub of-requires : goal.of-requires
of-requires c =
    let p = c.args.self.now in
    let b = p.bank.now in
    let corners = c.corners_of.result.now in
    let tells = told (trees b) p.part p.row c.figures.result corners p.there c.figures.ensures c.corners_of.ensures in
    let fit = ∥∥₁_elim (trees_held b) ∥∥₁_prop (λ held. ∣ fair_row b.columns (trees b) p.part p.row p.there held ∣₁) in
    record {
      inside = tells.inside;
      rising = told_rising (position_of p) c.figures.result corners tells fit;
      fitting = told_fitting (position_of p) c.figures.result corners tells fit;
    }

pub returns : goal.returns
returns c =
    let p = c.args.self.now in
    let b = p.bank.now in
    let corners = c.corners_of.result.now in
    let tells = told (trees b) p.part p.row c.figures.result corners p.there c.figures.ensures c.corners_of.ensures in
    let fit = ∥∥₁_elim (trees_held b) ∥∥₁_prop (λ held. ∣ fair_row b.columns (trees b) p.part p.row p.there held ∣₁) in
    pictures (position_of p) c.figures.result corners tells fit c.of.result (ap (λ (y : Figures). y.mean) c.figures.ensures) (ap (λ (y : Figures). y.temperature) c.figures.ensures) c.of.ensures
