use Rattle.std.proofs.Common.{Some, ap, sym, ◌∙◌}
use Rattle.lines.specs.Seen.{two}
use Rattle.map_text.proofs.Pairs.{pair_wrong, pair_right}
use Rattle.map_text.proofs.pair.Pair.read.Goals as goal

pub returns-then-is_less : goal.returns-then-is_less
returns-then-is_less c =
    let l = c.part-from.result.bytes.now in
    let r = c.part-to.result.bytes.now in
    let n = c.args.text.line in
    let parts = (λ i. Some (c.part-from.ensures.bytes i, c.part-to.ensures.bytes i)) ∙ (ap two (sym c.in_ok-from.ensures.ok_part) ∙ c.cut.ensures) in
    (pair_wrong c.args.text.bytes.now l r _ _ _ _ parts c.in_ok-natural.ensures c.in_ok-natural-2.ensures (sym c.if-is_less.ensures), c.wrong-then-is_less.ensures)

pub invariant_of-result : goal.invariant_of-result
invariant_of-result c =
    record { says_edge = pair_right c.part-from.result.bytes.now c.part-to.result.bytes.now _ _ _ _ c.in_ok-natural.ensures c.in_ok-natural-2.ensures (sym c.if-is_less.ensures) }
