use Rattle.std.proofs.Common.{ℕ, min, List, ℤ, sym, refl, ◌∙◌, subst, arith, rules}
use Rattle.std.proofs.lemmas.Int.{ints}
use Rattle.thermographs.specs.Near.{best}
use Rattle.thermographs.specs.Strips.{told}
use Rattle.thermographs.specs.Sweep.{cut, Draws}
use Rattle.thermographs.proofs.Draw.{drawn_more, drawn_short, drawn_all, drawn_short_all, wrote_all, wrote_none}
use Rattle.thermographs.proofs.strip.Strip.draw.Goals as goal
use Rattle.thermographs.proofs.strip.Strip.draw.Goals.{After-split_at_mut-told}

-- what is to be drawn, by the corners as the code cuts them out
cut_out : (c : After-split_at_mut-told) (ds : List ℕ) → Draws (cut (best c.args.side (told c.args.self.now) c.args.options.now) c.args.temperature) ds
    → Draws (cut (best c.args.side c.split_at_mut-told.result.0.now c.args.options.now) c.args.temperature) ds
cut_out c ds d = subst (λ (s : List ℕ). Draws (cut (best c.args.side s c.args.options.now) c.args.temperature) ds) (sym c.split_at_mut-told.ensures.front) d

pub returns-in_err-turn-clause-wrote : goal.returns-in_err-turn-clause-wrote
returns-in_err-turn-clause-wrote c ds o d =
    let free : List ℕ = c.new-route.result.places.now in
    let f : ℕ → ℤ = best c.args.side c.split_at_mut-told.result.0.now c.args.options.now in
    let short = drawn_short f c.args.temperature free c.loop-t.route c.loop-t.t c.loop-t.invariant.drawn
    c.best_piece-piece.result (min c.best_piece-piece.result.until c.args.temperature) c.turn.new.self c.best_piece-piece.ensures.linear
    (omega (arith, c.best_piece-piece.ensures.ahead)) (omega arith) (omega arith) c.in_err-turn.ensures.trail ds o
    (cut_out (goal.at.returns-in_err-turn-clause-wrote c).After-split_at_mut-told ds d) in
    wrote_none c.args.self.now c.split_at_mut-told.result.0.now free c.split_at_mut-told.ensures.front (c.new-route.ensures.places ∙ c.split_at_mut-told.ensures.back)
    c.args.start _ _ _ refl c.from_residual.ensures ds short

pub loop-t-preserved : goal.loop-t-preserved
loop-t-preserved c = record {
  same = c.turn.ensures.same_reference ∙ c.loop-t.invariant.same;
  drawn = drawn_more (best c.args.side c.split_at_mut-told.result.0.now c.args.options.now) c.args.temperature c.new-route.result.places.now c.loop-t.route c.loop-t.t c.loop-t.invariant.drawn
      c.best_piece-piece.result c.min-t.result c.turn.new.self c.best_piece-piece.ensures.linear (omega (arith, c.best_piece-piece.ensures.ahead)) (omega arith) (omega arith)
      c.in_ok-turn.ensures.trail c.turn.ensures.places;
}

pub returns-in_err-turn-2-clause-wrote : goal.returns-in_err-turn-2-clause-wrote
returns-in_err-turn-2-clause-wrote c ds o d =
    let free : List ℕ = c.new-route.result.places.now in
    let f : ℕ → ℤ = best c.args.side c.split_at_mut-told.result.0.now c.args.options.now in
    let short = drawn_short_all f c.args.temperature free c.loop-t.route c.loop-t.t c.loop-t.invariant.drawn c.turn-2.new.self
    (omega (arith, c.loop-t.invariant.drawn.low)) c.in_err-turn-2.ensures.trail ds o (cut_out (goal.at.returns-in_err-turn-2-clause-wrote c).After-split_at_mut-told ds d) in
    wrote_none c.args.self.now c.split_at_mut-told.result.0.now free c.split_at_mut-told.ensures.front (c.new-route.ensures.places ∙ c.split_at_mut-told.ensures.back)
    c.args.start _ _ _ refl c.from_residual-in_err-turn-2.ensures ds short

pub returns-clause-wrote : goal.returns-clause-wrote
returns-clause-wrote c ds o d =
    let free : List ℕ = c.new-route.result.places.now in
    let f : ℕ → ℤ = best c.args.side c.split_at_mut-told.result.0.now c.args.options.now in
    let all = drawn_all f c.args.temperature free c.loop-t.route c.loop-t.t c.loop-t.invariant.drawn c.turn-2.new.self
    (omega (arith, c.loop-t.invariant.drawn.low)) c.in_ok-turn-2.ensures.trail c.turn-2.ensures.places ds o (cut_out (goal.at.returns-clause-wrote c).After-split_at_mut-told ds d) in
    wrote_all c.args.self.now c.split_at_mut-told.result.0.now free c.split_at_mut-told.ensures.front (c.new-route.ensures.places ∙ c.split_at_mut-told.ensures.back)
    c.args.start _ _ _ refl c.turn-2.new.self (search rules) ds all (omega (arith, ints)) refl refl refl
