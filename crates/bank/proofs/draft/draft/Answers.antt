use Rattle.std.proofs.Common.{◌≡◌, false, ltb, length, take, None, Some, Err, sym, ap, ◌∙◌, subst, arith}
use Rattle.std.specs.Option.{ok_or}
use Rattle.std.proofs.lemmas.Result.{err_from_is_err_and}
use Rattle.terms.specs.declared.fault.Refusal.TheVariants.{RowsFull, CornersFull}
use Rattle.theory.specs.Fair.{Fair}
use Rattle.theory.specs.Limits.{greatest_height}
use Rattle.theory.specs.Stops.{cold}
use Rattle.theory.specs.Trees.{Tree, Lawful, height}
use Rattle.spreading.specs.Shapes.{shapes_of, SpreadInto}
use Rattle.spreading.proofs.Taken.{known_tree, taken_rows, taken_sound}
use Rattle.thermographs.specs.Figures.{Figured, FigureInto}
use Rattle.bank.proofs.Causes.{lacks_rows, lacks_height, lacks_warmth, lacks_corners, lawful_of, fair_of}
use Rattle.bank.proofs.Drafting.{drafted}
use Rattle.bank.proofs.draft.draft.Given.{Over}
use Rattle.bank.proofs.draft.draft.Goals as goal
use Rattle.bank.proofs.draft.draft.Goals.{In_ok-rows, Else-any_cold, In_ok-turns}

-- the rows of the code's tree have been spread
spread_rows : (g : Over) (c : In_ok-rows g) (t : Tree) → g.R.RuleSet.tree c.args.rules.now c.args.code ≡ Some t → SpreadInto t c.args.shapes.now (Some c.in_ok-rows.rows) c.spread.new.free
spread_rows g c t e = subst (λ q. SpreadInto t c.args.shapes.now q c.spread.new.free) {y = Some c.in_ok-rows.rows} c.in_ok-rows.ensures.ok_part (c.spread.ensures.rows t e)

-- and it is lawful, low and warm
record Sound (t : Tree) : Type 0 where
  lawful : Lawful t
  low : ltb greatest_height (height t) ≡ false
  warm : cold t ≡ false
  fair : Fair t

sound : (g : Over) (c : Else-any_cold g) (t : Tree) → g.R.RuleSet.tree c.args.rules.now c.args.code ≡ Some t → take c.in_ok-rows.rows c.spread.new.free ≡ shapes_of t → Sound t
sound g c t e is =
    let l = lawful_of (g.R.RuleSet.tree c.args.rules.now c.args.code) t e (g.met.R.RuleSet.lawful c.args.rules.now c.args.code) in
    let low = sym (c.if-too_high.ensures t is) in
    let warm = sym (c.if-any_cold.ensures t is) in
    record { lawful = l; low = low; warm = warm; fair = fair_of t l low warm }

pub returns-in_err-rows : goal.returns-in_err-rows
returns-in_err-rows g c t e =
    let none = c.in_err-rows.ensures.ok_part in
    let s = subst (λ o. SpreadInto t c.args.shapes.now o c.spread.new.free) {y = None} none (c.spread.ensures.rows t e) in
    let p = err_from_is_err_and c.from_residual.result c.from_residual.ensures.1 in
    let q : Err c.in_err-rows.field-0.0 ≡ Err RowsFull = c.in_err-rows.ensures.value ∙ ap (λ o. ok_or o RowsFull) {y = None} none in
    let is : RowsFull ≡ c.in_err-rows.field-0.0 = cc in
    rw (p.1, p.2) (lacks_rows (length c.args.shapes.now) (length c.args.corners.now) t s ∙ ap Some is)

pub too_high-requires-clause-sound : goal.too_high-requires-clause-sound
too_high-requires-clause-sound g c =
    taken_sound (g.R.RuleSet.tree c.args.rules.now c.args.code) c.requires.known (g.met.R.RuleSet.lawful c.args.rules.now c.args.code) c.args.shapes.now c.spread.new.free c.in_ok-rows.rows
    (spread_rows g c)

pub returns-then-too_high : goal.returns-then-too_high
returns-then-too_high g c t e =
    let s = spread_rows g (goal.at.returns-then-too_high g c).In_ok-rows t e in
    let is = taken_rows t c.args.shapes.now c.spread.new.free c.in_ok-rows.rows s in
    lacks_height (length c.args.shapes.now) (length c.args.corners.now) t (omega (arith, s.0, s.1)) (sym (c.if-too_high.ensures t is))

pub any_cold-requires-clause-sound : goal.any_cold-requires-clause-sound
any_cold-requires-clause-sound g c =
    taken_sound (g.R.RuleSet.tree c.args.rules.now c.args.code) c.requires.known (g.met.R.RuleSet.lawful c.args.rules.now c.args.code) c.args.shapes.now c.spread.new.free c.in_ok-rows.rows
    (spread_rows g (goal.at.any_cold-requires-clause-sound g c).In_ok-rows)

pub returns-then-any_cold : goal.returns-then-any_cold
returns-then-any_cold g c t e =
    let s = spread_rows g (goal.at.returns-then-any_cold g c).In_ok-rows t e in
    let is = taken_rows t c.args.shapes.now c.spread.new.free c.in_ok-rows.rows s in
    lacks_warmth (length c.args.shapes.now) (length c.args.corners.now) t (omega (arith, s.0, s.1)) (sym (c.if-too_high.ensures t is)) (sym (c.if-any_cold.ensures t is))

pub figure_rows-requires-clause-seated : goal.figure_rows-requires-clause-seated
figure_rows-requires-clause-seated g c =
    let k = known_tree (g.R.RuleSet.tree c.args.rules.now c.args.code) c.requires.known in
    let at = goal.at.figure_rows-requires-clause-seated g c in
    let is = taken_rows k.0 c.args.shapes.now c.spread.new.free c.in_ok-rows.rows (spread_rows g at.In_ok-rows k.0 k.1) in
    (k.0, (sound g at.Else-any_cold k.0 k.1 is).fair, is)

pub returns-in_err-turns : goal.returns-in_err-turns
returns-in_err-turns g c t e =
    let at = goal.at.returns-in_err-turns g c in
    let s = spread_rows g at.In_ok-rows t e in
    let is = taken_rows t c.args.shapes.now c.spread.new.free c.in_ok-rows.rows s in
    let k = sound g at.Else-any_cold t e is in
    let none = c.in_err-turns.ensures.ok_part in
    let f = subst (λ q. FigureInto t 0 c.args.figures.now c.args.corners.now q c.figure_rows.new.figures c.figure_rows.new.corners) {y = None} none (c.figure_rows.ensures t k.fair is) in
    let p = err_from_is_err_and c.from_residual-in_err-turns.result c.from_residual-in_err-turns.ensures.1 in
    let q : Err c.in_err-turns.field-0.0 ≡ Err CornersFull = c.in_err-turns.ensures.value ∙ ap (λ o. ok_or o CornersFull) {y = None} none in
    let full : CornersFull ≡ c.in_err-turns.field-0.0 = cc in
    rw (p.1, p.2) (lacks_corners (length c.args.shapes.now) (length c.args.corners.now) t (omega (arith, s.0, s.1)) k.low k.warm (omega (arith, f.many)) ∙ ap Some full)

-- its figures have been written
figured : (g : Over) (c : In_ok-turns g) (t : Tree) → Fair t → take c.in_ok-rows.rows c.spread.new.free ≡ shapes_of t
    → Figured t 0 c.in_ok-turns.turns c.args.figures.now c.figure_rows.new.figures c.args.corners.now c.figure_rows.new.corners
figured g c t fit is =
    subst (λ q. FigureInto t 0 c.args.figures.now c.args.corners.now q c.figure_rows.new.figures c.figure_rows.new.corners) {y = Some c.in_ok-turns.turns} c.in_ok-turns.ensures.ok_part (c.figure_rows.ensures t fit is)

pub overflow_cast-result-2 : goal.overflow_cast-result-2
overflow_cast-result-2 g c =
    let k = known_tree (g.R.RuleSet.tree c.args.rules.now c.args.code) c.requires.known in
    let at = goal.at.overflow_cast-result-2 g c in
    let is = taken_rows k.0 c.args.shapes.now c.spread.new.free c.in_ok-rows.rows (spread_rows g at.In_ok-rows k.0 k.1) in
    omega (arith, (figured g at.In_ok-turns k.0 (sound g at.Else-any_cold k.0 k.1 is).fair is).room, c.requires.corners)

pub returns : goal.returns
returns g c t e =
    let at = goal.at.returns g c in
    let s = spread_rows g at.In_ok-rows t e in
    let is = taken_rows t c.args.shapes.now c.spread.new.free c.in_ok-rows.rows s in
    let k = sound g at.Else-any_cold t e is in
    drafted t c.in_ok-rows.rows c.in_ok-turns.turns c.args.shapes.now c.spread.new.free c.args.figures.now c.figure_rows.new.figures c.args.corners.now c.figure_rows.new.corners k.lawful k.low k.warm s
    (figured g at.In_ok-turns t k.fair is)
