use Rattle.std.proofs.Common.{◌≡◌, ℕ, ◌+◌, List, [], ◌∷◌, length, get_or, take, drop, sym, refl, ap, ◌∙◌, subst, arith}
use Rattle.std.proofs.lemmas.List.{take_at, get_or_push}
use Rattle.std.specs.List.{IsLastAndRest}
use Rattle.std.specs.Slice.Iter.{iter_rest}
use Rattle.std.specs.Iterator.Adapters.{rev_source}
use Rattle.walls.specs.Pieces.{Linear}
use Rattle.thermographs.specs.declared.figures.Figures.{Figures}
use Rattle.thermographs.specs.Figures.{blank}
use Rattle.thermographs.specs.Near.{near, best, SoundNear}
use Rattle.thermographs.proofs.Best.{best_last, best_more, last_left}
use Rattle.thermographs.proofs.near.best_piece.Goals as goal
use Rattle.thermographs.proofs.near.best_piece.Goals.{After-unwrap, In-Some}

-- the last option and the others
parted : (c : After-unwrap) → IsLastAndRest c.args.options.now c.unwrap.result.0.now c.unwrap.result.1.now
parted c = rw c.unwrap.ensures at c.split_last.ensures.cases

last_at : (c : After-unwrap) → c.unwrap.result.0.now ≡ get_or c.args.options.now (length c.unwrap.result.1.now) blank
last_at c =
    sym (ap (λ (l : List Figures). get_or l (length c.unwrap.result.1.now) blank) (parted c).0
    ∙ get_or_push c.unwrap.result.1.now c.unwrap.result.0.now blank (length c.unwrap.result.1.now) refl)

-- an option that comes before those
next_at : (c : In-Some) → (c.in-Some.option.now ≡ get_or c.args.options.now (length c.next.new.self.iter.rest.now) blank)
    × (length c.loop-option.option-iterator.iter.rest.now ≡ length c.next.new.self.iter.rest.now + 1)
    × (c.next.new.self.iter.rest.now ≡ take (length c.next.new.self.iter.rest.now) c.args.options.now)
next_at c =
    last_left c.args.options.now c.loop-option.option-iterator.iter.rest.now c.next.new.self.iter.rest.now c.in-Some.option.now (c.in-Some.ensures).steps
    c.loop-option.invariant.front c.loop-option.invariant.more

pub loop-option-init : goal.loop-option-init
loop-option-init c =
    let (e, n) = parted (goal.at.loop-option-init c).After-unwrap in
    let rest : List Figures = c.unwrap.result.1.now in
    let all : c.into_iter-option-iterator.result.iter.rest.now ≡ rest = ap iter_rest (ap rev_source c.into_iter-option-iterator.ensures.into_iter_gives ∙ c.rev-option-items.ensures.source) ∙ c.iter.ensures.rest in
    let best_at : Linear (best c.args.side c.args.corners.now (drop (length rest) c.args.options.now)) c.args.t c.near_piece-best.result =
    best_last c.args.side c.args.corners.now c.args.options.now (length rest) c.args.t c.near_piece-best.result n
    (subst (λ (f : Figures). Linear (near c.args.side c.args.corners.now f) c.args.t c.near_piece-best.result) (last_at (goal.at.loop-option-init c).After-unwrap) c.near_piece-best.ensures.linear) in
    record {
      ahead = c.near_piece-best.ensures.ahead;
      front = subst (λ (l : List Figures). l ≡ take (length l) c.args.options.now) (sym all)
          (sym (ap (take (length rest)) e ∙ take_at rest (c.unwrap.result.0.now ∷ []) (length rest) refl));
      more = omega (arith, ap length all);
      linear = subst (λ (l : List Figures). Linear (best c.args.side c.args.corners.now (drop (length l) c.args.options.now)) c.args.t c.near_piece-best.result) (sym all) best_at;
    }

pub near_piece-piece-requires-clause-sound : goal.near_piece-piece-requires-clause-sound
near_piece-piece-requires-clause-sound c =
    let (at, more, front) = next_at (goal.at.near_piece-piece-requires-clause-sound c).In-Some in
    subst (SoundNear c.args.side c.args.corners.now) (sym at) (c.requires.sound.each (length c.next.new.self.iter.rest.now) (omega (arith, c.loop-option.invariant.more)))

pub loop-option-preserved : goal.loop-option-preserved
loop-option-preserved c =
    let (at, more, front) = next_at (goal.at.loop-option-preserved c).In-Some in
    let i = length c.next.new.self.iter.rest.now in
    let old : Linear (best c.args.side c.args.corners.now (drop (i + 1) c.args.options.now)) c.args.t c.loop-option.best =
    subst (λ (n : ℕ). Linear (best c.args.side c.args.corners.now (drop n c.args.options.now)) c.args.t c.loop-option.best) more c.loop-option.invariant.linear in
    record {
      ahead = c.greater-best.ensures.ahead;
      front = front;
      more = omega (arith, c.loop-option.invariant.more);
      linear = best_more c.args.side c.args.corners.now c.args.options.now i c.args.t c.greater-best.result (omega (arith, c.loop-option.invariant.more))
          (c.greater-best.ensures.linear (near c.args.side c.args.corners.now (get_or c.args.options.now i blank))
          (best c.args.side c.args.corners.now (drop (i + 1) c.args.options.now))
          (subst (λ (f : Figures). Linear (near c.args.side c.args.corners.now f) c.args.t c.near_piece-piece.result) at c.near_piece-piece.ensures.linear) old);
    }
