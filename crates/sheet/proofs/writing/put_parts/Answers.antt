use Rattle.std.proofs.Common.{sym, ap, arith, take_all}
use Rattle.sheet.specs.Sheet.{parts_text}
use Rattle.sheet.proofs.Adding.{adds_none, adds_more, adds_as}
use Rattle.sheet.proofs.Parting.{parts_more, parts_room}
use Rattle.sheet.proofs.writing.put_parts.Goals as goal

pub put_part-requires : goal.put_part-requires
put_part-requires c = parts_room c.args.parts.now c.loop-i.i _ c.loop-i-test.true c.requires c.loop-i.invariant

pub loop-i-init : goal.loop-i-init
unfolding parts_text
loop-i-init c = adds_none c.args.page.now

pub loop-i-preserved : goal.loop-i-preserved
loop-i-preserved c =
    adds_as (sym (parts_more c.args.parts.now c.loop-i.i _ c.loop-i-test.true)) (adds_more c.loop-i.invariant c.put_part.ensures)

pub returns : goal.returns
returns c = adds_as (ap (parts_text 0) (take_all c.loop-i.i c.args.parts.now (omega arith))) c.loop-i.invariant
