use Rattle.std.proofs.Common.{◌≤◌, length, take, rules, tests}
use Rattle.trees.specs.Written.{row_limit, pick_limit}
use Rattle.trees.proofs.Lookups.{lawful_by}
use Rattle.trees.proofs.lent.Trees.is_lawful.Goals as goal

pub returns-then-contains : goal.returns-then-contains
returns-then-contains c =
    let rows = take row_limit c.args.self.now.rows.now in
    let picks = take pick_limit c.args.self.now.picks.now in
    let some : 1 ≤ c.args.list.count = search (rules, tests) in
    let few : c.args.list.count ≤ 16 = search (rules, tests) in
    lawful_by (length rows) c.args.own picks c.args.list c.is_some_and.result c.get.result _ c.places.result.start c.places.result.end some few c.places.ensures.start c.places.ensures.end (rw c.picks.ensures at c.get.ensures.lookup) c.is_some_and.ensures (λ x q. search rules)
