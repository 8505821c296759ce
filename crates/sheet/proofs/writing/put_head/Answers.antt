use Rattle.std.proofs.Common.{codes, sym, ap}
use Rattle.numbers.specs.Numbers.{written}
use Rattle.sheet.specs.Page.{line}
use Rattle.sheet.specs.Sheet.{head_text}
use Rattle.sheet.proofs.Adding.{adds_more, adds_as, room_first, room_then, room_as}
use Rattle.sheet.proofs.writing.put_head.Goals as goal

pub put_line-requires : goal.put_line-requires
unfolding head_text
put_line-requires c = room_first _ _ c.requires

pub put_line-requires-2 : goal.put_line-requires-2
unfolding head_text
put_line-requires-2 c = room_first _ _ (room_then _ _ c.requires c.put_line.ensures)

pub put_line-requires-3 : goal.put_line-requires-3
unfolding head_text
put_line-requires-3 c = room_first _ _ (room_then _ _ (room_then _ _ c.requires c.put_line.ensures) c.put_line-2.ensures)

pub put_line-requires-4 : goal.put_line-requires-4
unfolding head_text
put_line-requires-4 c =
    room_as (ap (λ n. line (codes "parts=") (written n)) (sym c.from.ensures))
    (room_then _ _ (room_then _ _ (room_then _ _ c.requires c.put_line.ensures) c.put_line-2.ensures) c.put_line-3.ensures)

pub returns : goal.returns
unfolding head_text
returns c =
    adds_more c.put_line.ensures
    (adds_more c.put_line-2.ensures
    (adds_more c.put_line-3.ensures
    (adds_as (ap (λ n. line (codes "parts=") (written n)) c.from.ensures) c.put_line-4.ensures)))
