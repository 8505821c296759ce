use Rattle.std.proofs.Common.{◌≡◌, codes, sym, ap, arith}
use Rattle.lines.proofs.Words.{six}
use Rattle.job.specs.Values.{first_of}
use Rattle.job.proofs.word.MoverWord.said.Goals as goal

pub returns-in-theirs : goal.returns-in-theirs
returns-in-theirs c =
    let e : c.args.text.now ≡ codes "theirs" = six c.args.text.now _ _ _ _ _ _ (omega arith) (omega arith) (omega arith) (omega arith) (omega arith) (omega arith) (omega arith) in
    sym (ap first_of e)
