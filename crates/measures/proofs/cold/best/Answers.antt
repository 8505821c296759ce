use Rattle.std.proofs.Common.{◌≡◌, map, pos, neg_ℤ, unwrap_or, sym, ap, ◌∙◌, subst, arith, rules, tests}
use Rattle.std.proofs.lemmas.Int.{ints}
use Rattle.std.proofs.lemmas.Iterator.{YieldsList-from_map, YieldsList-from_slice}
use Rattle.std.proofs.lemmas.Iterator.Consumers.{reduce_from_yields_List, YieldsList-at}
use Rattle.terms.specs.Sides.{other}
use Rattle.theory.specs.Limits.{score_limit}
use Rattle.theory.specs.Trees.{Score}
use Rattle.measures.specs.Figures.{best_of}
use Rattle.measures.specs.Figures.{stop_for}
use Rattle.measures.specs.declared.stops.Stops.{Stops}
use Rattle.measures.proofs.StopPass.{greater, best_taken, best_score}
use Rattle.measures.proofs.cold.best.Goals as goal

taken : (c : goal.After-unwrap_or) → c.unwrap_or.result ≡ best_of (map (stop_for (other c.args.mover)) c.args.options.now)
taken c =
    let s = other c.args.mover in
    c.unwrap_or.ensures ∙ ap (λ o. unwrap_or o (neg_ℤ (pos score_limit))) (reduce_from_yields_List greater c.map.result c.max.result c.max.ensures.ran
    (YieldsList-from_map _ (λ (x : Stops). neg_ℤ (stop_for s x)) (YieldsList-at c.map.ensures.source (YieldsList-from_slice c.args.options.now cc)) c.map.ensures.closure (λ x r q k. search (rules, tests)))) ∙ best_taken s c.args.options.now

pub returns-clause-small : goal.returns-clause-small
returns-clause-small c =
    let small : Score c.unwrap_or.result = subst Score (sym (taken c)) (best_score (other c.args.mover) c.args.options.now) in
    (omega (arith, ints, small.0, small.1), omega (arith, ints, small.0, small.1))

pub returns-clause-best : goal.returns-clause-best
returns-clause-best c =
    let small : Score c.unwrap_or.result = subst Score (sym (taken c)) (best_score (other c.args.mover) c.args.options.now) in
    ◌∙◌ {b = c.unwrap_or.result} (omega (arith, ints, small.0, small.1)) (taken c)
