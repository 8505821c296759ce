use Rattle.std.proofs.Common.{◌≡◌, List, Some, Ok, Err, Option, sym, refl, rules, arith}
use Rattle.std.proofs.lemmas.Result.{err_from_is_err_and}
use Rattle.terms.specs.declared.fault.Refusal.{Refusal}
use Rattle.terms.specs.declared.fault.Refusal.TheVariants.{PartsFull, UnknownCode}
use Rattle.theory.specs.Trees.{Tree}
use Rattle.spreading.proofs.Taken.{known_tree}
use Rattle.bank.specs.Held.{Held, Within}
use Rattle.bank.proofs.Placing.{Judged, Placed}
use Rattle.bank.specs.declared.columns.Columns.{Columns}
use Rattle.bank.proofs.Places.{Full, FreeFill, after_fill, after_place, refused, unchanged, accepted, gained, within_after}
use Rattle.bank.proofs.Trees.{still_filled, seated_by_trees}
use Rattle.bank.proofs.bank.Bank.seat.Given.{Over}
use Rattle.bank.proofs.bank.Bank.seat.Goals as goal
use Rattle.bank.proofs.bank.Bank.seat.Goals.{After-fill, In_ok-extent}

-- a refusal by the filling of the free rows and corners leaves the columns as they were
record Refused (c c' : Columns) (o : Option Tree) (r : Refusal) : Type 0 where
  judged : Judged c o (Err r)
  placed : (ts : List Tree) → Held c ts → Placed ts o (Err r) c c'

refusal : (g : Over) (c : After-fill g) (r : Refusal)
    → ((t : Tree) → g.R.RuleSet.tree c.args.rules.now c.args.code ≡ Some t → FreeFill c.args.self.now.columns t (Err r) c.fill.new.shapes c.fill.new.figures c.fill.new.corners)
    → Refused c.args.self.now.columns (after_fill c.args.self.now.columns c.fill.new.shapes c.fill.new.figures c.fill.new.corners) (g.R.RuleSet.tree c.args.rules.now c.args.code) r
refusal g c r e =
    let b = c.args.self.now in
    let f = c.fill.new in
    let o = g.R.RuleSet.tree c.args.rules.now c.args.code in
    let k = known_tree o (sym c.if-not-known.ensures) in
    let full : Full b.columns = record { shapes = omega arith; figures = omega arith; corners = omega arith; starts = omega arith } in
    record {
      judged = refused b.columns o k.0 r f.shapes f.figures f.corners b.within full (omega arith) k.1 (e k.0 k.1);
      placed = λ ts h. unchanged b.columns ts k.0 r f.shapes f.figures f.corners b.within full h (e k.0 k.1);
    }

-- and what has been filled is one part more
record Accepted (c c' : Columns) (o : Option Tree) : Type 0 where
  within : Within c'
  judged : Judged c o (Ok c.parts)
  placed : (ts : List Tree) → Held c ts → Placed ts o (Ok c.parts) c c'

acceptance : (g : Over) (c : In_ok-extent g)
    → Accepted c.args.self.now.columns (after_place c.args.self.now.columns c.in_ok-extent.extent c.fill.new.shapes c.fill.new.figures c.fill.new.corners) (g.R.RuleSet.tree c.args.rules.now c.args.code)
acceptance g c =
    let b = c.args.self.now in
    let f = c.fill.new in
    let o = g.R.RuleSet.tree c.args.rules.now c.args.code in
    let k = known_tree o (sym c.if-not-known.ensures) in
    let full : Full b.columns = record { shapes = omega arith; figures = omega arith; corners = omega arith; starts = omega arith } in
    let q = c.in_ok-extent.ensures k.0 k.1 in
    let x = c.in_ok-extent.extent in
    record {
      within = within_after b.columns k.0 x f.shapes f.figures f.corners b.within full (omega arith) q;
      judged = accepted b.columns o k.0 x f.shapes f.figures f.corners b.within full (omega arith) k.1 q;
      placed = λ ts h. gained b.columns ts o k.0 x f.shapes f.figures f.corners b.within full h (omega arith) k.1 q;
    }

pub returns-then-part-eq-PART_LIMIT : goal.returns-then-part-eq-PART_LIMIT
returns-then-part-eq-PART_LIMIT g c =
    let b = c.args.self.now in
    seated_by_trees b b (g.R.RuleSet.tree c.args.rules.now c.args.code) (Err PartsFull) (search rules) (λ ts h. refl)

pub returns-then-not-known : goal.returns-then-not-known
returns-then-not-known g c =
    let b = c.args.self.now in
    seated_by_trees b b (g.R.RuleSet.tree c.args.rules.now c.args.code) (Err UnknownCode) (search rules) (λ ts h. refl)

pub invariant_of-self : goal.invariant_of-self
invariant_of-self g c =
    let b = c.args.self.now in
    let R = refusal g (goal.at.invariant_of-self g c).After-fill c.in_err-extent.field-0.0 (λ t e. c.in_err-extent.ensures t e) in
    record {
      within = b.within;
      filled = still_filled b.columns (after_fill b.columns c.fill.new.shapes c.fill.new.figures c.fill.new.corners) (g.R.RuleSet.tree c.args.rules.now c.args.code) (Err c.in_err-extent.field-0.0) R.judged R.placed b.filled;
    }

pub returns-in_err-extent : goal.returns-in_err-extent
returns-in_err-extent g c =
    let R = refusal g (goal.at.returns-in_err-extent g c).After-fill c.in_err-extent.field-0.0 (λ t e. c.in_err-extent.ensures t e) in
    let p = err_from_is_err_and c.from_residual.result c.from_residual.ensures.1 in
    rw (p.1, p.2) (seated_by_trees c.args.self.now _ (g.R.RuleSet.tree c.args.rules.now c.args.code) (Err c.in_err-extent.field-0.0) R.judged R.placed)

pub invariant_of-self-2 : goal.invariant_of-self-2
invariant_of-self-2 g c =
    let b = c.args.self.now in
    let A = acceptance g (goal.at.invariant_of-self-2 g c).In_ok-extent in
    record {
      within = A.within;
      filled = still_filled b.columns (after_place b.columns c.in_ok-extent.extent c.fill.new.shapes c.fill.new.figures c.fill.new.corners) (g.R.RuleSet.tree c.args.rules.now c.args.code) (Ok b.columns.parts) A.judged A.placed b.filled;
    }

pub returns : goal.returns
returns g c =
    let A = acceptance g (goal.at.returns g c).In_ok-extent in
    seated_by_trees c.args.self.now _ (g.R.RuleSet.tree c.args.rules.now c.args.code) (Ok c.args.self.now.columns.parts) A.judged A.placed
