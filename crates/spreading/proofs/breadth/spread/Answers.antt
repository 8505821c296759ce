use Rattle.std.proofs.Common.{◌≡◌, ℕ, replicate, ◌+◌, ◌-◌, ◌≤◌, length, sym, refl, ◌∙◌, arith, length-set}
use Rattle.std.proofs.lemmas.List.{set-get_or}
use lib.ListN.{length-replicate}
use borrow.Rule.Slice.PartMut.{put_mid, same_len_mid}
use Rattle.terms.specs.declared.side.Side.TheVariants.{Left, Right}
use Rattle.theory.specs.Trees.{options}
use Rattle.spreading.specs.Shapes.{row_limit, count_of}
use Rattle.spreading.proofs.Rows.{size_children}
use Rattle.spreading.proofs.Spreads.{part_length, stand_behind, grown_start, grown_step, grown_over, grown_end, same_behind}
use Rattle.spreading.proofs.breadth.spread.Goals as goal

pub returns-then-is_empty : goal.returns-then-is_empty
returns-then-is_empty g c =
    let none = c.if-is_empty.ensures in
    record { taken = tt; rows = λ t e. grind (arith, size_children t) }

pub loop-i-init : goal.loop-i-init
loop-i-init g c =
    let some = c.if-is_empty.ensures in
    let wide : length {A = ℕ} (replicate row_limit 0) ≡ row_limit = length-replicate {A = ℕ} row_limit 0 in
    (grind arith, omega arith, length-set (replicate row_limit 0) 0 c.args.code ∙ wide, refl, λ t e. grown_start (g.R.RuleSet.tree c.args.rules.now) t (replicate row_limit 0) c.args.code _ (omega arith) e)

pub loop-i-preserved : goal.loop-i-preserved
loop-i-preserved g c =
    let tree = g.R.RuleSet.tree c.args.rules.now in
    let n = c.loop-i.n in
    let mid = n + c.count.result in
    let to = mid + c.count-in-loop-i.result in
    let room : to ≤ length c.loop-i.codes = omega (arith, c.if-room-end.false, c.requires.few, c.loop-i.invariant.2) in
    let left = part_length c.loop-i.codes n mid (omega arith) in
    let next = put_mid n (mid - n) c.loop-i.codes c.append.new.places in
    let same : length next ≡ length c.loop-i.codes = same_len_mid n (mid - n) c.loop-i.codes c.append.new.places c.append.auto.places in
    let right = part_length next mid to (omega arith) in
    let shape = c.shape_of-shape.result in
    let lefts : count_of shape Left ≡ c.count.result = sym c.count.ensures in
    let rights : count_of shape Right ≡ c.count-in-loop-i.result = sym c.count-in-loop-i.ensures in
    let found : to ≡ n + count_of shape Left + count_of shape Right = omega (arith, lefts, rights) in (
      omega arith,
      omega arith,
      same_len_mid mid (to - mid) next c.append-in-loop-i.new.places c.append-in-loop-i.auto.places ∙ same ∙ c.loop-i.invariant.2,
      same_behind c.args.free.now c.loop-i.free c.loop-i.i _ c.loop-i.invariant.3,
      λ t e.
          grown_step tree t c.loop-i.i n to c.loop-i.codes next _ c.loop-i.free shape
          (omega arith) (omega arith) found (c.loop-i.invariant.4 t e) c.shape_of-shape.ensures
          (λ x xs is many at h. stand_behind tree c.loop-i.codes c.append.new.places xs (options x Left) n (mid - n) at (omega arith)
          (omega (arith, c.append.auto.places, left, many, lefts)) h (c.append.ensures x is (omega (arith, left, many, lefts))))
          (λ x xs is many at h. stand_behind tree next c.append-in-loop-i.new.places xs (options x Right) mid (to - mid) (omega (arith, at, lefts)) (omega arith)
          (omega (arith, c.append-in-loop-i.auto.places, right, many, rights)) h (c.append-in-loop-i.ensures x is (omega (arith, right, many, rights)))),
    )

pub returns-then-room-end : goal.returns-then-room-end
returns-then-room-end g c = record {
  taken = tt;
  rows = λ t e.
      grown_over (g.R.RuleSet.tree c.args.rules.now) t c.loop-i.i c.loop-i.n _ c.loop-i.codes c.loop-i.free c.shape_of-shape.result
      (omega arith) (c.loop-i.invariant.4 t e) c.shape_of-shape.ensures (omega (arith, c.if-room-end.true, c.count.ensures, c.count-in-loop-i.ensures));
}

pub returns-then-i-n : goal.returns-then-i-n
returns-then-i-n g c =
    rw (set-get_or c.loop-i.free c.loop-i.i _) (record {
      taken = c.loop-i.invariant.0;
      rows = λ t e.
          grown_end (g.R.RuleSet.tree c.args.rules.now) t c.loop-i.i c.loop-i.n c.loop-i.codes c.args.free.now c.loop-i.free
          (omega arith) c.loop-i.invariant.0 (omega arith) (c.loop-i.invariant.4 t e) c.loop-i.invariant.3;
    })

pub returns-after-loop-i : goal.returns-after-loop-i
returns-after-loop-i g c = record {
  taken = c.loop-i.invariant.0;
  rows = λ t e.
      grown_end (g.R.RuleSet.tree c.args.rules.now) t c.loop-i.i c.loop-i.n c.loop-i.codes c.args.free.now c.loop-i.free
      (omega arith) c.loop-i.invariant.0 (omega arith) (c.loop-i.invariant.4 t e) c.loop-i.invariant.3;
}
