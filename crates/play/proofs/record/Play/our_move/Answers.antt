use Rattle.play.specs.declared.record.Event.TheVariants.{Move}
use Rattle.play.proofs.Records.{our_move_so, rows_after_lem, kept_after}
use Rattle.play.proofs.record.Play.our_move.Goals as goal

pub returns : goal.returns
returns c =
    let y = c.args.self.now in
    let e = c.apply.ensures.play in
    let f = c.apply.ensures.answer in
    record {
      game = our_move_so y _ c.args.landing _ e f;
      rows = rows_after_lem y _ Move c.args.landing _ e f;
      kept = kept_after y _ Move c.args.landing _ e f;
    }
