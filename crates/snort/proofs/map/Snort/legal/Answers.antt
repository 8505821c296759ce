use Rattle.std.proofs.Common.{◌*◌, ◌%◌, ◌^◌, ◌≤◌, ◌∙◌, arith, rules}
use lib.Bits.{bit_or}
use Rattle.std.proofs.lemmas.Iterator.{YieldsList-from_range}
use Rattle.std.proofs.lemmas.Iterator.Consumers.{YieldsList-from_filter, fold_from_yields_List}
use Rattle.masks.specs.Masks.{members}
use Rattle.masks.proofs.Bits.{mask_fold}
use Rattle.snort.specs.Maps.{joined}
use Rattle.snort.specs.Play.{may_colour}
use Rattle.snort.proofs.map.Snort.legal.Goals as goal

pub returns : goal.returns
unfolding members
returns c =
    let points = c.args.self.now.points in
    let p = may_colour points (joined c.args.self.now.near) c.args.colours c.args.side in
    let few : points ≤ 16 = let s = c.args.self.now.size.1 in omega arith in
    fold_from_yields_List _ (λ m k. bit_or m ((1 * 2 ^ k) % 65536)) 0 c.fold.result c.fold.ensures.ran (YieldsList-from_filter _ p (YieldsList-from_range 0 points points (cc) (omega arith)) c.filter.ensures.closure (λ x b q k. search rules)) (λ a x b q k. search rules) ∙ mask_fold p points few
