use Rattle.std.proofs.Common.{◌<◌, length, Ok, Err, sym, subst}
use Rattle.std.proofs.lemmas.Result.{err_from_is_err_and}
use Rattle.theory.specs.Trees.{options}
use Rattle.stories.specs.Game.{near, First, Any}
use Rattle.bank.specs.Contents.{trees}
use Rattle.bank.specs.Positions.{position_of}
use Rattle.play.specs.Leads.{HottestOf}
use Rattle.game.specs.declared.view.View.{View}
use Rattle.game.specs.Presents.{standing, Here}
use Rattle.game.specs.State.{parts_now}
use Rattle.game.proofs.Answered.{advice_told, advice_refused, advice_there, advice_options, advice_is}
use Rattle.game.proofs.Presents.{here_some}
use Rattle.game.proofs.game.Game.advice.Goals as goal

pub returns-in_err-part : goal.returns-in_err-part
returns-in_err-part c =
    let g = c.args.self.now in
    let ts = trees g.bank.now in
    let n = c.in_err-part.field-0.0 in
    let hottest = subst (λ w. HottestOf (standing w) c.hottest.result) c.present-present.ensures c.hottest.ensures in
    let refused = advice_refused ts g.side g.play g.told c.hottest.result n c.in_err-part.ensures.part hottest in
    let p = err_from_is_err_and c.from_residual.result c.from_residual.ensures.1 in
    rw (p.1, p.2) (record { answer = refused; promise = advice_told ts g.side g.play g.told (Err n) refused })

pub unwrap-at-requires : goal.unwrap-at-requires
unwrap-at-requires c =
    let g = c.args.self.now in
    let p = c.in_ok-part.part in
    let hottest = subst (λ w. HottestOf (standing w) c.hottest.result) c.present-present.ensures c.hottest.ensures in
    let here = subst (λ w. Here w p c.here.result) c.present-present.ensures c.here.ensures in
    here_some (parts_now g) p c.here.result (advice_there (trees g.bank.now) g.side g.play g.told c.hottest.result p c.in_ok-part.ensures.part hottest) here

pub best-requires : goal.best-requires
best-requires c =
    let g = c.args.self.now in
    let p = c.in_ok-part.part in
    let hottest = subst (λ w. HottestOf (standing w) c.hottest.result) c.present-present.ensures c.hottest.ensures in
    let here = subst (λ w. Here w p c.here.result) c.present-present.ensures c.here.ensures in
    let at = subst (Here (parts_now g) p) c.unwrap-at.ensures here in
    let some = advice_options (trees g.bank.now) g.side g.play g.told c.hottest.result p c.in_ok-part.ensures.part hottest _ at.tree in
    subst (λ (v : View). 0 < length (options (position_of c.unwrap-at.result) v.side)) (sym c.view.ensures) some

pub returns : goal.returns
returns c =
    let g = c.args.self.now in
    let ts = trees g.bank.now in
    let p = c.in_ok-part.part in
    let k = c.best.result in
    let hottest = subst (λ w. HottestOf (standing w) c.hottest.result) c.present-present.ensures c.hottest.ensures in
    let here = subst (λ w. Here w p c.here.result) c.present-present.ensures c.here.ensures in
    let at = subst (Here (parts_now g) p) c.unwrap-at.ensures here in
    let best = subst (λ (v : View). First Any (near v.side v.t) (options (position_of c.unwrap-at.result) v.side) k) c.view.ensures c.best.ensures in
    let advised = advice_is ts g.side g.play g.told c.hottest.result p c.in_ok-part.ensures.part hottest k (position_of c.unwrap-at.result) at.tree best in
    record { answer = advised; promise = advice_told ts g.side g.play g.told (Ok (p, k)) advised }
