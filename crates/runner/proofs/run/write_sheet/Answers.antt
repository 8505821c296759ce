use Rattle.tree_text.specs.Seen.{lent_rows, lent_room}
use Rattle.runner.proofs.Told.{sheet_fits}
use Rattle.runner.proofs.run.write_sheet.Goals as goal

pub write-requires : goal.write-requires
write-requires c =
    let h = c.in_ok-sheet.ensures.text in
    sheet_fits (lent_rows c.args.lent.now) (lent_room c.args.lent.now) c.args.job.now h.0 _ h.1 h.2
