use Rattle.std.proofs.Common.{◌≡◌, min, length, take, ap, ◌∙◌, arith}
use Rattle.std.proofs.lemmas.List.{take_min}
use Rattle.trees.proofs.lent.counted.Goals as goal

pub returns : goal.returns
returns g c =
    let e : c.min.result ≡ min c.args.limit (length c.args.cells.now) = omega (arith, c.min.ensures) in
    ap (λ n. take n c.args.cells.now) e ∙ take_min c.args.limit c.args.cells.now
