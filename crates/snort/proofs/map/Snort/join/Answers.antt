use Rattle.std.proofs.Common.{◌≡◌, false, cond, ◌&&◌, ◌||◌, length, Ok, Err, sym, refl, ap, ◌∙◌, arith, rules}
use Rattle.std.proofs.lemmas.Bool.{true≢false}
use Rattle.std.proofs.lemmas.Bool.Decides.{nat_tests}
use Rattle.terms.specs.declared.fault.Refusal.TheVariants.{WrongEdge}
use Rattle.std.proofs.Math.Bool.{or-false}
use Rattle.snort.specs.Maps.{joined, edge, edge_fits}
use Rattle.snort.proofs.Edges.{joined_fits, within_more, loopless_more, symmetric_more, fits_from}
use Rattle.snort.specs.Codes.{by_the_rules}
use Rattle.snort.proofs.map.Snort.join.Goals as goal

pub invariant_of-self : goal.invariant_of-self
invariant_of-self c =
    let old = c.args.self.now in
    let long : length c.args.self.now.near ≡ 12 = search rules in
    let ok-a = c.if-a-points.false in
    let ok-b = c.if-b-points.false in
    let ne = c.if-a-b.false in
    record {
      size = c.args.self.now.size;
      within = within_more c.args.self.now.points c.args.self.now.near c.args.a c.args.b c.args.self.now.size.1 long ok-a ok-b ne c.args.self.now.within;
      loopless = loopless_more c.args.self.now.points c.args.self.now.near c.args.a c.args.b c.args.self.now.size.1 long ok-a ok-b ne c.args.self.now.loopless;
      symmetric = symmetric_more c.args.self.now.points c.args.self.now.near c.args.a c.args.b c.args.self.now.size.1 long ok-a ok-b ne c.args.self.now.symmetric;
    }

pub returns : goal.returns
returns c =
    let long : length c.args.self.now.near ≡ 12 = search rules in
    let ok-a = c.if-a-points.false in
    let ok-b = c.if-b-points.false in
    let ne = c.if-a-b.false in
    let fits = fits_from c.args.self.now.points c.args.a c.args.b ok-a ok-b ne in
    record {
      answer = sym (ap (λ b. cond b (Ok tt) (Err WrongEdge)) fits);
      edges = joined_fits c.args.self.now.points c.args.self.now.near c.args.a c.args.b c.args.self.now.size.1 long ok-a ok-b ne;
      points = refl;
      rules = by_the_rules c.args.self.now.points _ c.args.self.now.size.1 (symmetric_more c.args.self.now.points c.args.self.now.near c.args.a c.args.b c.args.self.now.size.1 long ok-a ok-b ne c.args.self.now.symmetric);
      refused = λ e. absurd (true≢false (sym fits ∙ e));
    }

pub returns-then-a-points : goal.returns-then-a-points
returns-then-a-points c =
    let off = c.then-a-points.either in
    let fits : edge_fits c.args.self.now.points c.args.a c.args.b ≡ false = grind (arith, nat_tests) in
    record {
      answer = sym (ap (λ b. cond b (Ok tt) (Err WrongEdge)) fits);
      edges = λ x y. sym (ap (λ b. joined c.args.self.now.near x y || (b && edge c.args.a c.args.b x y)) fits ∙ or-false (joined c.args.self.now.near x y));
      points = refl;
      rules = by_the_rules c.args.self.now.points (joined c.args.self.now.near) c.args.self.now.size.1 c.args.self.now.symmetric;
      refused = λ e. refl;
    }
