use Rattle.std.proofs.Common.{take}
use Rattle.sheet.specs.Page.{Adds}
use Rattle.sheet.specs.Sheet.{parts_text}
use Rattle.sheet.proofs.writing.put_parts.Given as goal

abbrev pub invariant-loop-i : goal.invariant-loop-i
invariant-loop-i l = Adds (parts_text 0 (take l.i l.parts)) l.initial.page l.page
