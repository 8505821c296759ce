use Rattle.std.proofs.Common.{◌≡◌, ◌∙◌, arith}
use Rattle.lines.specs.Seen.{seen}
use Rattle.tree_text.specs.Seen.{lent_rows, lent_room}
use Rattle.job.specs.Account.{passed}
use Rattle.job.specs.Reads.{part_lines}
use Rattle.job.proofs.Loops.{forget_more}
use Rattle.job.proofs.parts.pass_parts.Goals as goal

pub loop-preserved : goal.loop-preserved
loop-preserved c =
    let m : lent_rows c.loop.lent ≡ lent_rows c.args.lent.now = omega arith in
    let k : lent_room c.loop.lent ≡ lent_room c.args.lent.now = omega arith in
    let e = c.in_ok-pass_part.ensures.kept in
    let i = c.loop.invariant.kept in
    record {
      lines = forget_more (part_lines (lent_rows c.args.lent.now) (lent_room c.args.lent.now)) c.args.n (seen c.args.reader.now) c.loop.counter (seen c.loop.reader) (seen c.pass_part.new.reader) (omega arith)
          (c.in_ok-pass_part.ensures.lines ∙ (λ j. passed (part_lines (m j) (k j)) (seen c.loop.reader))) c.loop.invariant.lines;
      kept = (e.0 ∙ i.0, e.1 ∙ i.1, e.2 ∙ i.2, e.3 ∙ i.3);
    }
