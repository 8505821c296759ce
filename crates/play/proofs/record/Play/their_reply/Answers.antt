use Rattle.play.specs.declared.record.Event.TheVariants.{Reply}
use Rattle.play.proofs.Records.{their_reply_so, rows_after_lem, kept_after}
use Rattle.play.proofs.record.Play.their_reply.Goals as goal

pub returns : goal.returns
returns c =
    let y = c.args.self.now in
    let e = c.apply.ensures.play in
    let f = c.apply.ensures.answer in
    record {
      game = their_reply_so y _ c.args.landing _ e f;
      rows = rows_after_lem y _ Reply c.args.landing _ e f;
      kept = kept_after y _ Reply c.args.landing _ e f;
    }
