use Rattle.std.proofs.Common.{◌≡◌, ◌∙◌, arith}
use Rattle.bank.specs.Contents.{trees}
use Rattle.tree_text.specs.Seen.{lent_rows, lent_room}
use Rattle.lines.specs.Seen.{seen}
use Rattle.runner.specs.Runs.{seat_part}
use Rattle.runner.proofs.Turns.{chain_more}
use Rattle.runner.proofs.parts.seat_more.Goals as goal

pub loop-preserved : goal.loop-preserved
loop-preserved c =
    let m : lent_rows c.loop.lent ≡ lent_rows c.args.lent.now = omega arith in
    let k : lent_room c.loop.lent ≡ lent_room c.args.lent.now = omega arith in
    let e = c.in_ok-seat_part.ensures.kept in
    let i = c.loop.invariant.kept in
    record {
      seated = chain_more (seat_part (lent_rows c.args.lent.now) (lent_room c.args.lent.now)) c.args.n c.loop.counter
          (trees c.loop.bank) (trees c.seat_part.new.bank) (seen c.loop.reader) (seen c.seat_part.new.reader) _ (omega arith)
          (c.in_ok-seat_part.ensures.seated ∙ (λ j. seat_part (m j) (k j) (trees c.loop.bank) (seen c.loop.reader))) c.loop.invariant.seated;
      kept = (e.0 ∙ i.0, e.1 ∙ i.1, e.2 ∙ i.2, e.3 ∙ i.3);
    }
