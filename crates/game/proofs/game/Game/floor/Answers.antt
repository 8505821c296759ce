use Rattle.std.proofs.Common.{◌≡◌, take, ap, ◌∙◌, subst, arith, w32, w64, to_z, of_z}
use Rattle.std.proofs.lemmas.Int.{ints}
use Rattle.stories.specs.Game.{near}
use Rattle.bank.specs.Contents.{trees}
use Rattle.game.specs.declared.view.View.{View}
use Rattle.game.specs.Presents.{Tells}
use Rattle.game.specs.State.{state, parts_now, PendingGains}
use Rattle.game.proofs.Answered.{floor_answered_lem}
use Rattle.game.proofs.game.Game.floor.Goals as goal

pub returns : goal.returns
returns c =
    let g = c.args.self.now in
    let y = g.play in
    let v = c.floor.result in
    let e : to_z w64 (of_z w64 v) ≡ v = omega (arith, ints) in
    let q : c.gain.result ≡ to_z w32 (of_z w32 c.gain.result) = omega (arith, ints) in
    let gain = subst (PendingGains (state g)) q c.gain.ensures in
    let seen = subst (λ w. Tells (near c.view.result.side c.view.result.t) w c.nears-nears.result) c.present.ensures c.nears-nears.ensures in
    let tells = subst (λ (v : View). Tells (near v.side v.t) (parts_now g) c.nears-nears.result) c.view.ensures seen in
    let nears = ap (λ n. take n c.nears-nears.result) c.parts-parts.ensures ∙ tells in
    let sure = floor_answered_lem (trees g.bank.now) g.side y g.told (take c.parts-parts.result c.nears-nears.result) (to_z w32 (of_z w32 c.gain.result)) v (to_z w64 (of_z w64 v)) e c.floor.ensures.floor nears gain in
    record { answer = sure.0; promise = sure.1 }
