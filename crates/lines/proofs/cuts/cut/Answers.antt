use Rattle.std.proofs.Common.{◌≡◌, ◌+◌, eqb, take, Some, sym, ap, ◌∙◌, rules, tests}
use Rattle.std.specs.List.{position}
use Rattle.std.proofs.lemmas.Iterator.{YieldsList-from_slice}
use Rattle.std.proofs.lemmas.Iterator.Search.{position_from_yields_List}
use Rattle.std.proofs.lemmas.List.{take_rest}
use Rattle.lines.proofs.Finds.{halves, cut_halves}
use Rattle.lines.proofs.cuts.cut.Goals as goal

pub returns-in_err-n : goal.returns-in_err-n
returns-in_err-n c =
    let xs = c.args.text.now in
    let found : c.position.result ≡ position (λ x. eqb x c.args.b) xs = position_from_yields_List (λ x. eqb x c.args.b) _ _ c.position.result c.position.ensures.ran (YieldsList-from_slice xs c.iter.ensures.rest) (λ x t q k. search (rules, tests)) in
    rw c.from_residual.ensures (ap (halves xs) (sym c.in_err-n.was) ∙ cut_halves c.args.b xs c.position.result found)

pub returns : goal.returns
returns c =
    let xs = c.args.text.now in
    let found : c.position.result ≡ position (λ x. eqb x c.args.b) xs = position_from_yields_List (λ x. eqb x c.args.b) _ _ c.position.result c.position.ensures.ran (YieldsList-from_slice xs c.iter.ensures.rest) (λ x t q k. search (rules, tests)) in
    ap (λ p. Some (take c.in_ok-n.n xs, p)) (take_rest xs (c.in_ok-n.n + 1)) ∙ (ap (halves xs) (sym c.in_ok-n.was) ∙ cut_halves c.args.b xs c.position.result found)
