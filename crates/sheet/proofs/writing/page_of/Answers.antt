use Rattle.std.proofs.Common.{◌≡◌, [], ◌++◌, length, ap, ◌∙◌, arith}
use Rattle.sheet.specs.declared.page.Page.{Page}
use Rattle.sheet.specs.declared.values.Sheet.{Sheet}
use Rattle.sheet.specs.Fitting.{Fitting}
use Rattle.sheet.specs.Page.{said, Room}
use Rattle.sheet.specs.Sheet.{sheet_text}
use Rattle.sheet.proofs.Adding.{adds_more, room_first, room_then}
use Rattle.sheet.proofs.Lengths.{sheet_short}
use Rattle.sheet.proofs.writing.page_of.Goals as goal

at_first : (s : Sheet) (p : Page) → Fitting s → said p ≡ [] → Room (sheet_text s) p
at_first s p f z = record { fits = omega (arith, sheet_short s f, ap length z) }

pub put_head-requires : goal.put_head-requires
unfolding sheet_text
put_head-requires c = room_first _ _ (at_first c.args.sheet.now c.new-page.result c.requires c.new-page.ensures)

pub put_parts-requires : goal.put_parts-requires
unfolding sheet_text
put_parts-requires c =
    room_first _ _ (room_then _ _ (at_first c.args.sheet.now c.new-page.result c.requires c.new-page.ensures) c.put_head.ensures)

pub put_foot-requires : goal.put_foot-requires
unfolding sheet_text
put_foot-requires c =
    room_then _ _ (room_then _ _ (at_first c.args.sheet.now c.new-page.result c.requires c.new-page.ensures) c.put_head.ensures) c.put_parts.ensures

pub returns : goal.returns
unfolding sheet_text
returns c =
    let whole = adds_more c.put_head.ensures (adds_more c.put_parts.ensures c.put_foot.ensures) in
    record { text = whole.says ∙ ap (λ t. t ++ sheet_text c.args.sheet.now) c.new-page.ensures; short = sheet_short c.args.sheet.now c.requires }
