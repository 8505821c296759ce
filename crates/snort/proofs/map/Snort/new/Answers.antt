use Rattle.std.proofs.Common.{replicate, sym, refl, ◌∙◌, arith}
use Rattle.std.proofs.lemmas.Bool.Decides.{nat_tests}
use Rattle.snort.specs.Maps.{joined}
use Rattle.snort.proofs.Edges.{no_edges, fresh_within}
use Rattle.snort.specs.Codes.{by_the_rules}
use Rattle.snort.proofs.map.Snort.new.Goals as goal

pub invariant_of-result : goal.invariant_of-result
invariant_of-result c =
    record {
      size = (omega (arith, c.if-points-eq0.false), omega arith);
      within = λ k. fresh_within 12 c.args.points k;
      loopless = λ k. no_edges 12 k k;
      symmetric = λ a b. no_edges 12 a b ∙ sym (no_edges 12 b a);
    }

pub returns : goal.returns
returns c =
    (grind (arith, nat_tests), refl, (λ a b. no_edges 12 a b), by_the_rules c.args.points (joined (replicate 12 0)) (omega arith) (λ a b. no_edges 12 a b ∙ sym (no_edges 12 b a)))
