use Rattle.std.proofs.Common.{ℕ, ◌≤◌, length, sym, refl, ap, ◌∙◌, subst, arith}
use lib.ListN.{length-replicate}
use Rattle.encoding.specs.Columns.{part_limit}
use Rattle.stories.proofs.Promise.{promise}
use Rattle.bank.specs.Contents.{trees}
use Rattle.play.specs.Standing.{hottest_of}
use Rattle.play.proofs.Records.{present_first}
use Rattle.game.specs.Rows.{OnRows}
use Rattle.game.proofs.Games.{first_rows}
use Rattle.game.proofs.Positions.{few_parts}
use Rattle.game.proofs.Seated.{opened, opened_storied}
use Rattle.game.proofs.game.Game.open.Goals as goal

pub invariant_of-present : goal.invariant_of-present
invariant_of-present c = record { enough = omega (arith, few_parts c.args.bank.now, length-replicate {A = ℕ} part_limit 0); on_rows = first_rows part_limit (trees c.args.bank.now) }

pub invariant_of-result : goal.invariant_of-result
invariant_of-result c =
    let b = c.args.bank.now in
    let e = c.greatest_heat-hottest.ensures ∙ ap hottest_of (present_first part_limit (trees b) (few_parts b)) in
    let wide : length (trees b) ≤ length c.open.result.rows = omega (arith, ap length c.open.ensures.rows, length-replicate {A = ℕ} part_limit 0, few_parts b) in
    record { enough = wide; on_rows = subst (OnRows (trees b)) (sym c.open.ensures.rows) (first_rows part_limit (trees b)); told = opened_storied b c.args.side c.args.first c.greatest_heat-hottest.result c.open.result c.open.ensures.game e }

pub returns : goal.returns
returns c =
    let b = c.args.bank.now in
    let e = c.greatest_heat-hottest.ensures ∙ ap hottest_of (present_first part_limit (trees b) (few_parts b)) in
    record {
      state = c.open.ensures.game (trees b) c.args.side (few_parts b) e;
      bank = refl;
      story = λ ms l q. opened (trees b) ms l c.args.side c.args.first c.greatest_heat-hottest.result c.open.result c.open.ensures.game e q;
      promise = promise;
    }
