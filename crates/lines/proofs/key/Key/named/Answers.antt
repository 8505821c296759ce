use Rattle.std.proofs.Common.{◌≡◌, codes, sym, ap, arith}
use Rattle.lines.specs.Keys.{named}
use Rattle.lines.proofs.Words.{six}
use Rattle.lines.proofs.key.Key.named.Goals as goal

pub returns-in-points : goal.returns-in-points
returns-in-points c =
    let e : c.args.name.now ≡ codes "points" = six c.args.name.now _ _ _ _ _ _ (omega arith) (omega arith) (omega arith) (omega arith) (omega arith) (omega arith) (omega arith) in
    sym (ap named e)
