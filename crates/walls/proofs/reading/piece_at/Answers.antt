use Rattle.std.proofs.Common.{◌≡◌, ℕ, suc, ◌+◌, ◌-◌, ◌%◌, ◌<◌, Bool, true, false, not, length, get_or, refl, ap, ◌∙◌, add-one, arith, below_more}
use Rattle.std.proofs.lemmas.Int.{ints}
use Rattle.theory.specs.Corners.{rise}
use Rattle.theory.proofs.Rising.{ascends}
use Rattle.walls.specs.Pieces.{bit}
use Rattle.walls.proofs.Straight.{reached, rise_low, piece_holds}
use Rattle.walls.proofs.reading.piece_at.Goals as goal
use Rattle.walls.proofs.reading.piece_at.Goals.{After-climbed, After-climbed-2}

-- the corner that comes lies above the last one
next : (c : goal.After-climbed-moved) → c.loop-c.last < get_or c.args.corners.now c.loop-c.c-index 0
next c = omega (arith, c.requires.ordered c.loop-c.c-index c.loop-c-test.true)

-- what is known of the wall at t, or at the next corner
here : (c : After-climbed) → c.loop-c.moved + c.climbed.result ≡ rise c.args.corners.now c.args.t
here c =
    let q = reached c.args.corners.now (ascends _ c.requires.ordered) c.loop-c.c-index c.loop-c.last c.args.t c.args.t
    c.loop-c.slope (omega arith) c.loop-c.invariant.4 (λ h. omega arith) c.loop-c.invariant.3 c.loop-c.invariant.0 (omega arith) in
    omega arith

there : (c : After-climbed-2) → c.loop-c.moved + c.climbed-2.result ≡ rise c.args.corners.now c.args.t
there c =
    let q = reached c.args.corners.now (ascends _ c.requires.ordered) c.loop-c.c-index c.loop-c.last c.args.t c.args.t
    c.loop-c.slope (omega arith) c.loop-c.invariant.4 (λ h. omega arith) c.loop-c.invariant.3 c.loop-c.invariant.0 (omega arith) in
    omega arith

turn : (c : goal.After-climbed-moved) → c.loop-c.moved + c.climbed-moved.result ≡ rise c.args.corners.now (get_or c.args.corners.now c.loop-c.c-index 0)
turn c =
    let n = next c in
    let q = reached c.args.corners.now (ascends _ c.requires.ordered) c.loop-c.c-index c.loop-c.last
    (get_or c.args.corners.now c.loop-c.c-index 0) (get_or c.args.corners.now c.loop-c.c-index 0)
    c.loop-c.slope (omega arith) c.loop-c.invariant.4 (λ h. omega arith) c.loop-c.invariant.3 (omega arith) (omega arith) in
    omega arith

flip : (n : ℕ) (s : Bool) → suc n % 2 ≡ bit s → n % 2 ≡ bit (not s)
flip n true e = omega arith
flip n false e = omega arith

pub overflow_add-all : goal.overflow_add-all
overflow_add-all c = let e = here c in let l = rise_low c.args.base c.args.corners.now c.requires.tame c.args.t in omega arith

pub overflow_cast-result : goal.overflow_cast-result
overflow_cast-result c = let e = here c in let l = rise_low c.args.base c.args.corners.now c.requires.tame c.args.t in omega (arith, ints)

pub overflow_add-result : goal.overflow_add-result
overflow_add-result c = let e = here c in let l = rise_low c.args.base c.args.corners.now c.requires.tame c.args.t in omega (arith, ints, c.requires.tame 0)

pub invariant_of-result : goal.invariant_of-result
invariant_of-result c =
    let e = here c in
    let l = rise_low c.args.base c.args.corners.now c.requires.tame c.args.t in
    let m = c.requires.tame c.args.t in
    let z = c.requires.tame 0 in
    record { ranged = (omega (arith, ints), omega (arith, ints)) }

pub returns-then-c-t-clause-linear : goal.returns-then-c-t-clause-linear
returns-then-c-t-clause-linear c =
    let e = here (goal.at.returns-then-c-t-clause-linear c).After-climbed in
    let l = rise_low c.args.base c.args.corners.now c.requires.tame c.args.t in
    let m = c.requires.tame c.args.t in
    let z = c.requires.tame 0 in
    piece_holds c.args.base c.args.corners.now (ascends _ c.requires.ordered) c.loop-c.c-index c.args.t _ _ c.loop-c.slope
    (omega arith) (λ i h. omega (arith, c.loop-c.invariant.4 i h)) (λ _. omega arith) c.loop-c.invariant.3 (omega (arith, ints))

pub overflow_add-moved : goal.overflow_add-moved
overflow_add-moved c = let e = turn c in let l = rise_low c.args.base c.args.corners.now c.requires.tame (get_or c.args.corners.now c.loop-c.c-index 0) in omega arith

pub loop-c-preserved : goal.loop-c-preserved
loop-c-preserved c =
    let n = next c in
    let t = c.loop-c-test.true in (
      c.if-c-t.false,
      rw add-one refl,
      turn c,
      flip _ _ (let e : suc (length c.args.corners.now - (c.loop-c.c-index + 1)) ≡ length c.args.corners.now - c.loop-c.c-index = omega arith in
          ap (λ (m : ℕ). m % 2) e ∙ c.loop-c.invariant.3),
      below_more _ _ (λ k h. omega (arith, c.loop-c.invariant.4 k h)) (omega arith),
    )

pub overflow_cast-result-2 : goal.overflow_cast-result-2
overflow_cast-result-2 c = let e = there c in let l = rise_low c.args.base c.args.corners.now c.requires.tame c.args.t in omega (arith, ints)

pub overflow_add-result-2 : goal.overflow_add-result-2
overflow_add-result-2 c = let e = there c in let l = rise_low c.args.base c.args.corners.now c.requires.tame c.args.t in omega (arith, ints, c.requires.tame 0)

pub returns-clause-linear : goal.returns-clause-linear
returns-clause-linear c =
    let e = there (goal.at.returns-clause-linear c).After-climbed-2 in
    let l = rise_low c.args.base c.args.corners.now c.requires.tame c.args.t in
    let m = c.requires.tame c.args.t in
    let z = c.requires.tame 0 in
    piece_holds c.args.base c.args.corners.now (ascends _ c.requires.ordered) c.loop-c.c-index c.args.t _ _ c.loop-c.slope
    (omega arith) (λ i h. omega (arith, c.loop-c.invariant.4 i h)) (λ g. absurd (omega arith)) c.loop-c.invariant.3 (omega (arith, ints))
