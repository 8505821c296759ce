use Rattle.std.proofs.Common.{◌≡◌, take, ap, ◌∙◌, subst}
use Rattle.theory.specs.Walls.{mean}
use Rattle.bank.specs.Contents.{trees}
use Rattle.play.specs.Standing.{hottest_of}
use Rattle.game.specs.Presents.{standing, Tells}
use Rattle.game.proofs.Answered.{bracket_answered_lem}
use Rattle.game.proofs.game.Game.bracket.Goals as goal

pub returns : goal.returns
returns c =
    let g = c.args.self.now in
    let tells = subst (λ w. Tells mean w c.means-means.result) c.present-present.ensures c.means-means.ensures in
    let means = ap (λ n. take n c.means-means.result) c.parts-parts.ensures ∙ tells in
    let hottest = subst (λ w. c.greatest_heat-hottest.result ≡ hottest_of (standing w)) c.present-present.ensures c.greatest_heat-hottest.ensures in
    let sure = bracket_answered_lem (trees g.bank.now) g.side g.play g.told (take c.parts-parts.result c.means-means.result) c.greatest_heat-hottest.result (c.bracket.result.0, c.bracket.result.1) c.bracket.ensures.bracket means hottest in
    record { answer = sure.0; promise = sure.1 }
