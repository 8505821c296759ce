use Rattle.std.proofs.Common.{codes, sym, ap, w32, SFits, rules}
use Rattle.numbers.specs.Numbers.{decimal}
use Rattle.sheet.specs.Page.{line}
use Rattle.sheet.specs.Sheet.{part_text, heat_line}
use Rattle.sheet.proofs.Adding.{adds_more, adds_as, room_first, room_then, room_as, widened}
use Rattle.sheet.proofs.writing.put_part.Goals as goal

pub put_line-requires : goal.put_line-requires
unfolding part_text
put_line-requires c = room_first _ _ c.requires

pub put_line-requires-2 : goal.put_line-requires-2
unfolding part_text
put_line-requires-2 c =
    let f : SFits w32 c.args.part.mean = search rules in
    let e = widened c.args.part.mean c.from.result f c.from.type_inv c.from.ensures in
    room_as (ap (λ z. line (codes "mean=") (decimal z)) (sym e)) (room_first _ _ (room_then _ _ c.requires c.put_line.ensures))

pub put_line-requires-3 : goal.put_line-requires-3
unfolding part_text heat_line
put_line-requires-3 c =
    let f : SFits w32 c.args.part.mean = search rules in
    let e = widened c.args.part.mean c.from.result f c.from.type_inv c.from.ensures in
    room_then _ _ (room_then _ _ c.requires c.put_line.ensures) (adds_as (ap (λ z. line (codes "mean=") (decimal z)) e) c.put_line-2.ensures)

pub returns : goal.returns
unfolding part_text heat_line
returns c =
    let f : SFits w32 c.args.part.mean = search rules in
    let e = widened c.args.part.mean c.from.result f c.from.type_inv c.from.ensures in
    adds_more c.put_line.ensures (adds_more (adds_as (ap (λ z. line (codes "mean=") (decimal z)) e) c.put_line-2.ensures) c.put_line-3.ensures)
