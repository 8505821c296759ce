use Rattle.std.proofs.Common.{length, refl, subst}
use Rattle.bank.specs.Contents.{trees}
use Rattle.play.specs.Standing.{Leads}
use Rattle.play.proofs.Tales.{play_told_lem}
use Rattle.game.specs.Rows.{OnRow}
use Rattle.game.proofs.Games.{long_after, rows_after_lem, move_storied, kept_game}
use Rattle.game.proofs.game.Game.our_move.Goals as goal

pub invariant_of-self : goal.invariant_of-self
invariant_of-self c =
    let y = c.args.self.now.play in
    let ts = trees c.args.self.now.bank.now in
    let s = c.args.self.now.side in
    let p = c.args.part in
    let k = c.args.option in
    let l = c.landing-landing.result in
    let z = c.our_move.new.self in
    let r = c.our_move.result in
    let leads = subst (λ w. Leads (trees w.bank.now) s w.rows p k l) c.present.ensures c.landing-landing.ensures.leads in
    let e = c.our_move.ensures in
    let wide = c.args.self.now.enough in
    record {
      enough = long_after (length ts) y.rows z.rows l r wide e.rows;
      on_rows = rows_after_lem ts y.rows z.rows l r wide e.rows (subst (λ w. OnRow (trees w.bank.now) l) c.present.ensures c.landing-landing.ensures.row) c.args.self.now.on_rows;
      told = move_storied ts s y z l r p k e.game leads c.args.self.now.told;
    }

pub returns : goal.returns
returns c =
    let y = c.args.self.now.play in
    let ts = trees c.args.self.now.bank.now in
    let s = c.args.self.now.side in
    let p = c.args.part in
    let k = c.args.option in
    let l = c.landing-landing.result in
    let z = c.our_move.new.self in
    let r = c.our_move.result in
    let leads = subst (λ w. Leads (trees w.bank.now) s w.rows p k l) c.present.ensures c.landing-landing.ensures.leads in
    let e = c.our_move.ensures in
    let goes = e.game ts s p k leads in
    record {
      state = goes.0;
      answer = goes.1;
      bank = refl;
      kept = kept_game c.args.self.now _ r refl refl e.kept;
      story = λ st B. ((play_told_lem st ts s y B).moved l z r p k e.game leads).0;
    }
