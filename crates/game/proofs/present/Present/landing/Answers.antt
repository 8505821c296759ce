use Rattle.std.proofs.Common.{refl, subst, ◌∙◌, sym}
use Rattle.game.specs.Options.{OptionIs}
use Rattle.game.specs.Presents.{Here}
use Rattle.game.proofs.Landings.{landed}
use Rattle.game.proofs.present.Present.landing.Goals as goal

pub returns-clause-leads : goal.returns-clause-leads
returns-clause-leads c =
    let w = c.args.self.now in
    let a = c.in_ok-at.at in
    let at = subst (Here w c.args.part) c.in_ok-at.ensures.ok_part c.here.ensures in
    let leads = subst (OptionIs a c.args.side c.args.k) c.in_ok-to.ensures.ok_part c.option.ensures in
    let shape = sym c.shape.ensures ∙ c.in-Open.is in
    landed w c.args.side c.args.part c.args.k a at c.in_ok-to.to c.with.result _ leads c.with.ensures refl c.row.ensures _ shape c.heat.ensures c.greatest_heat.ensures
