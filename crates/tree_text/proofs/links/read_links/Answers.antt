use Rattle.std.proofs.Common.{◌≡◌, length, sym, ap, ◌∙◌, arith, rules}
use Rattle.std.proofs.lemmas.Result.{err_from_is_err_and}
use Rattle.terms.specs.declared.fault.Refusal.TheVariants.{WrongForm}
use Rattle.terms.specs.Refusals.{fault}
use Rattle.numbers.specs.Numbers.{upto, judged}
use Rattle.lines.specs.Commas.{begun, all_of}
use Rattle.lines.specs.Seen.{left}
use Rattle.tree_text.specs.Rows.{few}
use Rattle.tree_text.proofs.Lists.{begun_full, few_begun}
use Rattle.tree_text.proofs.links.read_links.Goals as goal

pub returns-in_err-map_err : goal.returns-in_err-map_err
returns-in_err-map_err c =
    let xs = c.loop-piece.links.items in
    let f = upto c.args.last in
    let p = err_from_is_err_and c.from_residual-in_err-map_err.result c.from_residual-in_err-map_err.ensures.1 in
    let e : c.in_err-map_err.field-0.0 ≡ fault WrongForm c.args.text.line = search rules in
    let n : length xs ≡ 16 = search rules in
    rw (p.1, p.2, e)
    (ap (λ o. judged o c.args.text.line)
    (sym (begun_full xs f c.in-Some.piece.bytes.now (left c.next.new.self) n) ∙ (ap (λ ls. few (begun xs (all_of f ls))) (sym c.in-Some.ensures.steps.0) ∙ c.loop-piece.invariant.2)))

pub returns : goal.returns
returns c =
    let xs = c.loop-piece.links.items in
    let f = upto c.args.last in
    ap (λ o. judged o c.args.text.line)
    (sym (few_begun xs f (omega arith)) ∙ (ap (λ ls. few (begun xs (all_of f ls))) (sym c.in-None.ensures.steps.0.0) ∙ c.loop-piece.invariant.2))
