use Rattle.std.proofs.Common.{◌≡◌, ◌+◌, ◌≤◌, [], ◌∷◌, ◌++◌, length, refl, sym, ap, ◌∙◌, arith, length-append}
use Rattle.lines.specs.Seen.{seen}
use Rattle.tree_text.specs.Rows.{after_row, top, picked}
use Rattle.tree_text.specs.Seen.{as_row}
use Rattle.tree_text.proofs.Cells.{holds_none, holds_push, used_is, turn_more, turn_first, led_push}
use Rattle.tree_text.proofs.tree.read_rows.Goals as goal

pub loop-i-init : goal.loop-i-init
loop-i-init c =
    (omega arith, ([], refl, refl, holds_none c.args.rows.now c.args.picks.now c.requires.blank, turn_first (length c.args.rows.now) (length c.args.picks.now) (seen c.args.reader.now)))

pub loop-i-preserved : goal.loop-i-preserved
loop-i-preserved c =
    let w = c.loop-i.invariant.1 in
    let i = c.loop-i.i in
    let x = as_row c.in_ok-row.row in
    let more = c.picks-used.result in
    let long : length (picked x) ≡ more = (sym c.picks-used.ensures) in
    let fits : c.loop-i.used + length (picked x) ≤ length c.args.picks.now = c.in_ok-row.ensures.room in
    let used = used_is w.0 i c.loop-i.used w.2 in
    let next : c.loop-i.used + length (picked x) ≡ c.loop-i.used + more = omega arith in (
      omega arith,
      (
        w.0 ++ (x ∷ []),
        omega (arith, length-append w.0 (x ∷ []), w.1),
        led_push top w.0 x ∙ (ap (λ p. after_row p x) w.2 ∙ ap (λ m. record { row = i + 1; used = m }) next),
        holds_push c.loop-i.rows c.loop-i.picks c.store.new.picks w.0 x i c.loop-i.used c.store.result w.1 (omega arith) used c.store.ensures.row c.store.ensures.picks w.3,
        turn_more (length c.args.rows.now) (length c.args.picks.now) w.0 i c.loop-i.used (seen c.loop-i.reader) (seen c.args.reader.now) x (seen c.read_row.new.reader) (c.loop-i.used + more) (omega arith) c.in_ok-row.ensures.row next w.4,
      ),
    )
