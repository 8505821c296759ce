use Rattle.std.proofs.Common.{codes, sym, ap, w64, SFits, rules}
use Rattle.std.proofs.lemmas.Int.{to_z-of_z}
use Rattle.numbers.specs.Numbers.{written, decimal}
use Rattle.sheet.specs.Page.{line}
use Rattle.sheet.specs.Sheet.{foot_text, advice_line}
use Rattle.sheet.proofs.Adding.{adds_more, adds_as, room_first, room_then, room_as}
use Rattle.sheet.proofs.writing.put_foot.Goals as goal

pub put_line-requires : goal.put_line-requires
unfolding foot_text
put_line-requires c = room_as (ap (λ n. line (codes "ambient=") (written n)) (sym c.from.ensures)) (room_first _ _ c.requires)

pub put_line-requires-2 : goal.put_line-requires-2
unfolding foot_text
put_line-requires-2 c =
    let a = adds_as (ap (λ n. line (codes "ambient=") (written n)) c.from.ensures) c.put_line.ensures in
    let floor : SFits w64 c.args.sheet.now.floor = search rules in
    room_as (ap (λ z. line (codes "floor=") (decimal z)) (sym (to_z-of_z w64 c.args.sheet.now.floor floor))) (room_first _ _ (room_then _ _ c.requires a))

pub put_line-requires-3 : goal.put_line-requires-3
unfolding foot_text
put_line-requires-3 c =
    let a = adds_as (ap (λ n. line (codes "ambient=") (written n)) c.from.ensures) c.put_line.ensures in
    let floor : SFits w64 c.args.sheet.now.floor = search rules in
    let put-floor = adds_as (ap (λ z. line (codes "floor=") (decimal z)) (to_z-of_z w64 c.args.sheet.now.floor floor)) c.put_line-2.ensures in
    let low : SFits w64 c.args.sheet.now.low = search rules in
    room_as (ap (λ z. line (codes "low=") (decimal z)) (sym (to_z-of_z w64 c.args.sheet.now.low low))) (room_first _ _ (room_then _ _ (room_then _ _ c.requires a) put-floor))

pub put_line-requires-4 : goal.put_line-requires-4
unfolding foot_text
put_line-requires-4 c =
    let a = adds_as (ap (λ n. line (codes "ambient=") (written n)) c.from.ensures) c.put_line.ensures in
    let floor : SFits w64 c.args.sheet.now.floor = search rules in
    let put-floor = adds_as (ap (λ z. line (codes "floor=") (decimal z)) (to_z-of_z w64 c.args.sheet.now.floor floor)) c.put_line-2.ensures in
    let low : SFits w64 c.args.sheet.now.low = search rules in
    let put_low = adds_as (ap (λ z. line (codes "low=") (decimal z)) (to_z-of_z w64 c.args.sheet.now.low low)) c.put_line-3.ensures in
    let high : SFits w64 c.args.sheet.now.high = search rules in
    room_as (ap (λ z. line (codes "high=") (decimal z)) (sym (to_z-of_z w64 c.args.sheet.now.high high))) (room_first _ _ (room_then _ _ (room_then _ _ (room_then _ _ c.requires a) put-floor) put_low))

pub put_line-requires-5 : goal.put_line-requires-5
unfolding foot_text advice_line
put_line-requires-5 c =
    let a = adds_as (ap (λ n. line (codes "ambient=") (written n)) c.from.ensures) c.put_line.ensures in
    let floor : SFits w64 c.args.sheet.now.floor = search rules in
    let put-floor = adds_as (ap (λ z. line (codes "floor=") (decimal z)) (to_z-of_z w64 c.args.sheet.now.floor floor)) c.put_line-2.ensures in
    let low : SFits w64 c.args.sheet.now.low = search rules in
    let put_low = adds_as (ap (λ z. line (codes "low=") (decimal z)) (to_z-of_z w64 c.args.sheet.now.low low)) c.put_line-3.ensures in
    let high : SFits w64 c.args.sheet.now.high = search rules in
    let put-high = adds_as (ap (λ z. line (codes "high=") (decimal z)) (to_z-of_z w64 c.args.sheet.now.high high)) c.put_line-4.ensures in
    room_then _ _ (room_then _ _ (room_then _ _ (room_then _ _ c.requires a) put-floor) put_low) put-high

pub returns : goal.returns
unfolding foot_text advice_line
returns c =
    let a = adds_as (ap (λ n. line (codes "ambient=") (written n)) c.from.ensures) c.put_line.ensures in
    let floor : SFits w64 c.args.sheet.now.floor = search rules in
    let put-floor = adds_as (ap (λ z. line (codes "floor=") (decimal z)) (to_z-of_z w64 c.args.sheet.now.floor floor)) c.put_line-2.ensures in
    let low : SFits w64 c.args.sheet.now.low = search rules in
    let put_low = adds_as (ap (λ z. line (codes "low=") (decimal z)) (to_z-of_z w64 c.args.sheet.now.low low)) c.put_line-3.ensures in
    let high : SFits w64 c.args.sheet.now.high = search rules in
    let put-high = adds_as (ap (λ z. line (codes "high=") (decimal z)) (to_z-of_z w64 c.args.sheet.now.high high)) c.put_line-4.ensures in
    adds_more a (adds_more put-floor (adds_more put_low (adds_more put-high c.put_line-5.ensures)))
