use Rattle.std.proofs.Common.{length, take, Some, ℤ, sym, ap, ◌∙◌, w16, rules}
use Rattle.std.proofs.lemmas.Int.{to_z-of_z}
use Rattle.trees.specs.declared.row.TreeRow.{TreeRow}
use Rattle.trees.specs.Written.{row_limit, pick_limit, blank, score_or_zero, open_lists}
use Rattle.trees.specs.WrittenLemmas.{answer_unknown_score, answer_open_score, answer_score}
use Rattle.trees.proofs.lent.TreesRuleSet.score.Goals as goal

pub returns-in_err-row : goal.returns-in_err-row
returns-in_err-row c =
    c.from_residual.ensures ∙ answer_unknown_score c.args.self.now.rows.now c.args.self.now.picks.now c.args.code (rw c.rows.ensures at c.in_err-row.ensures.lookup.3)

pub returns-then-is_open : goal.returns-then-is_open
returns-then-is_open c =
    let rows = take row_limit c.args.self.now.rows.now in
    let picks = take pick_limit c.args.self.now.picks.now in
    let h = rw c.rows.ensures at c.in_ok-row.ensures.lookup.3 in
    answer_open_score c.args.self.now.rows.now c.args.self.now.picks.now c.args.code h.0 (sym (c.if-is_open.ensures ∙ ap (open_lists (length rows) picks c.args.code) (h.1 blank)))

pub returns : goal.returns
returns c =
    let rows = take row_limit c.args.self.now.rows.now in
    let picks = take pick_limit c.args.self.now.picks.now in
    let h = rw c.rows.ensures at c.in_ok-row.ensures.lookup.3 in
    let a = answer_score c.args.self.now.rows.now c.args.self.now.picks.now c.args.code h.0 (sym (c.if-is_open.ensures ∙ ap (open_lists (length rows) picks c.args.code) (h.1 blank))) in
    let own = to_z-of_z w16 c.in_ok-row.row.now.score (search rules) in
    let back = to_z-of_z w16 c.lawful_score.result (search rules) in
    ap (λ (v : ℤ). Some v) (back ∙ c.lawful_score.ensures ∙ ap score_or_zero (own ∙ ap (λ (x : TreeRow). x.score) (h.1 blank))) ∙ a
