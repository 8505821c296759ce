-- What the sweep finds over the options' figures is the thermograph of the tree.
use Rattle.std.proofs.Common.{◌≡◌, ℕ, suc, ◌<◌, ◌≤◌, min, List, [], ◌∷◌, length, get_or, ℤ, pos, ◌+ℤ◌, ◌-ℤ◌, neg_ℤ, sym, refl, ap, ◌∙◌, subst, arith}
use Rattle.std.proofs.lemmas.Int.{ints, clamps}
use Rattle.std.specs.Int.{int_max}
use Rattle.terms.specs.declared.side.Side.{Side}
use Rattle.terms.specs.declared.side.Side.TheVariants.{Left, Right}
use Rattle.terms.specs.Sides.{other, own}
use Rattle.theory.specs.Limits.{greatest_height}
use Rattle.theory.specs.Trees.{Tree, Forest, branch, one, more, trees, height_f, WithinF}
use Rattle.theory.specs.Stops.{WarmF}
use Rattle.theory.specs.Fair.{Fair}
use Rattle.theory.specs.Walls.{wall, scaffold, temperature, mean}
use Rattle.theory.specs.Corners.{Ordered, rising, falling, corners_of}
use Rattle.theory.proofs.Clauses.{open_wall}
use Rattle.theory.proofs.Corners.{steps_draw, wall_steps, wall_corners}
use Rattle.theory.proofs.Meet.{branch_height, one_height, more_height, temperature_is, mean_is}
use Rattle.theory.proofs.Range.{wall_bound}
use Rattle.spreading.specs.Order.{none}
use Rattle.spreading.proofs.Everywhere.{Each, each_one, each_cons}
use Rattle.thermographs.specs.declared.figures.Figures.{Figures}
use Rattle.thermographs.specs.declared.sweep.Meeting.{Meeting}
use Rattle.thermographs.specs.Figures.{blank, wall_of, run, Tells}
use Rattle.thermographs.specs.Near.{near, best, SoundNear, Sound}
use Rattle.thermographs.specs.Rows.{Tell, OpenReady}
use Rattle.thermographs.specs.Sweep.{Meets, cut, Draws}
use Rattle.thermographs.proofs.Best.{best_one, best_cons}

-- ---- the options of a fair position are fair
forest_fair : (F : Forest) → height_f F ≤ greatest_height → WarmF F → WithinF F → Each Fair (trees F)
forest_fair (one x) h w b = each_one Fair x (record { shallow = omega (arith, one_height x); warm = w; scores = b })
forest_fair (more x F) h w b =
    each_cons Fair x (trees F) (record { shallow = omega (arith, more_height x F); warm = w.0; scores = b.0 })
    (forest_fair F (omega (arith, more_height x F)) w.1 b.1)

pub left_fair : (L R : Forest) → Fair (branch L R) → Each Fair (trees L)
left_fair L R f = forest_fair L (omega (arith, branch_height L R, f.shallow)) f.warm.1 f.scores.0

pub right_fair : (L R : Forest) → Fair (branch L R) → Each Fair (trees R)
right_fair L R f = forest_fair R (omega (arith, branch_height L R, f.shallow)) f.warm.2 f.scores.1

-- ---- near walls
own_other : (s : Side) (v : ℤ) → own s (own (other s) v) ≡ neg_ℤ v
own_other Left v = refl
own_other Right v = refl

turned : (v w : ℤ) (cs : List ℕ) (u : ℕ) → w ≡ falling v cs u → rising (neg_ℤ v) cs u ≡ neg_ℤ w
turned v w cs u h = omega (arith, ints)

-- an option's near wall is the other side's wall, turned
pub near_is : (s : Side) (corners : List ℕ) (f : Figures) (x : Tree) → Tells corners f x → Fair x → (u : ℕ) → near s corners f u ≡ neg_ℤ (wall x (other s) u)
near_is s corners f x h fair u =
    let r = other s in
    let start : own s (wall_of f r).start ≡ neg_ℤ (wall x r 0) = ap (own s) (h.start r) ∙ own_other s (wall x r 0) in
    ap (λ (v : ℤ). rising v (run (wall_of f r) corners) u) start ∙ ap (λ (cs : List ℕ). rising (neg_ℤ (wall x r 0)) cs u) (h.turns r)
    ∙ turned (wall x r 0) (wall x r u) (corners_of x r) u (steps_draw (wall x r) (corners_of x r) (wall_steps x r fair) u)

pub sound_near : (s : Side) (corners : List ℕ) (f : Figures) (x : Tree) → Tells corners f x → Fair x → SoundNear s corners f
sound_near s corners f x h fair = record {
  inside = h.inside (other s);
  ordered = subst Ordered (sym (h.turns (other s))) (wall_corners x (other s)).ordered;
  tame = λ u. let e = near_is s corners f x h fair u in let b = wall_bound x fair (other s) u in (omega (arith, ints), omega (arith, ints));
}

-- ---- the best near wall, less the tax, is the scaffold
scaffold_one : (x : Tree) (s : Side) (u : ℕ) → scaffold (one x) s u ≡ (neg_ℤ (wall x (other s) u) -ℤ pos u)
unfolding wall
scaffold_one x s u = refl

scaffold_more : (x : Tree) (F : Forest) (s : Side) (u : ℕ) → scaffold (more x F) s u ≡ int_max (neg_ℤ (wall x (other s) u) -ℤ pos u) (scaffold F s u)
unfolding wall
scaffold_more x F s u = refl

some_tree : (F : Forest) → 0 < length (trees F)
some_tree (one x) = omega arith
some_tree (more x F) = omega arith

pub best_is : (F : Forest) (s : Side) (corners : List ℕ) (fs : List Figures) → Tell corners fs (trees F) → Each Fair (trees F) → (u : ℕ)
    → best s corners fs u ≡ (scaffold F s u +ℤ pos u)
best_is (one x) s corners [] h fair u = absurd (omega (arith, h.many))
best_is (one x) s corners (f ∷ []) h fair u =
    let e = near_is s corners f x (h.each 0 (omega arith)) (fair 0 (omega arith)) u in
    let k = scaffold_one x s u in
    ap (λ (g : ℕ → ℤ). g u) (best_one s corners f) ∙ omega (arith, ints)
best_is (one x) s corners (f ∷ g ∷ fs) h fair u = absurd (omega (arith, h.many))
best_is (more x F) s corners [] h fair u = absurd (omega (arith, h.many))
best_is (more x F) s corners (f ∷ fs) h fair u =
    let some : 0 < length fs = omega (arith, h.many, some_tree F) in
    let rest : Tell corners fs (trees F) = record { many = omega (arith, h.many); each = λ k l. h.each (suc k) (omega arith) } in
    let e = near_is s corners f x (h.each 0 (omega arith)) (fair 0 (omega arith)) u in
    let r = best_is F s corners fs rest (λ k l. fair (suc k) (omega arith)) u in
    let k = scaffold_more x F s u in
    ap (λ (g : ℕ → ℤ). g u) (best_cons s corners f fs some) ∙ omega (arith, ints, clamps)

-- ---- an open position
module _ (corners : List ℕ) (lefts rights : List Figures) (L R : Forest) (O : OpenReady corners lefts rights L R) where
  left_near : (k : ℕ) → k < length lefts → SoundNear Left corners (get_or lefts k blank)
  left_near k l = let m : k < length (trees L) = omega (arith, O.left.many) in sound_near Left corners (get_or lefts k blank) (get_or (trees L) k none) (O.left.each k m) (left_fair L R O.fair k m)

  right_near : (k : ℕ) → k < length rights → SoundNear Right corners (get_or rights k blank)
  right_near k l = let m : k < length (trees R) = omega (arith, O.right.many) in sound_near Right corners (get_or rights k blank) (get_or (trees R) k none) (O.right.each k m) (right_fair L R O.fair k m)

  pub left_sound : Sound Left corners lefts
  left_sound = record { some = omega (arith, O.left.many, some_tree L); each = left_near }

  pub right_sound : Sound Right corners rights
  right_sound = record { some = omega (arith, O.right.many, some_tree R); each = right_near }

  left_best : (u : ℕ) → best Left corners lefts u ≡ (scaffold L Left u +ℤ pos u)
  left_best u = best_is L Left corners lefts O.left (left_fair L R O.fair) u

  right_best : (u : ℕ) → best Right corners rights u ≡ (scaffold R Right u +ℤ pos u)
  right_best u = best_is R Right corners rights O.right (right_fair L R O.fair) u

  -- the walls are the scaffolds, cut at the temperature
  module _ (m : ℕ) (heat : temperature (branch L R) ≡ m) where
    left_cut : (u : ℕ) → cut (best Left corners lefts) m u ≡ wall (branch L R) Left u
    left_cut u =
        let a = left_best (min u m) in
        let w : wall (branch L R) Left u ≡ scaffold L Left (min u m) = open_wall L R Left u ∙ ap (λ (k : ℕ). scaffold L Left (min u k)) heat in
        omega (arith, ints)

    right_cut : (u : ℕ) → cut (best Right corners rights) m u ≡ wall (branch L R) Right u
    right_cut u =
        let a = right_best (min u m) in
        let w : wall (branch L R) Right u ≡ scaffold R Right (min u m) = open_wall L R Right u ∙ ap (λ (k : ℕ). scaffold R Right (min u k)) heat in
        omega (arith, ints)

    pub left_draws : Draws (cut (best Left corners lefts) m) (corners_of (branch L R) Left)
    left_draws u =
        let d = steps_draw (wall (branch L R) Left) (corners_of (branch L R) Left) (wall_steps (branch L R) Left O.fair) u in
        let a = left_cut u in
        let z = left_cut 0 in
        omega (arith, ints)

    pub right_draws : Draws (cut (best Right corners rights) m) (corners_of (branch L R) Right)
    right_draws u =
        let d = steps_draw (wall (branch L R) Right) (corners_of (branch L R) Right) (wall_steps (branch L R) Right O.fair) u in
        let a = right_cut u in
        let z = right_cut 0 in
        omega (arith, ints)

  module _ (r : Meeting) (M : Meets (best Left corners lefts) (best Right corners rights) r) where
    pub heat_is : temperature (branch L R) ≡ r.temperature
    heat_is =
        temperature_is L R r.temperature O.fair (let a = left_best r.temperature in let b = right_best r.temperature in let m = M.met in omega (arith, ints))
        (λ u l. let a = left_best u in let b = right_best u in let m = M.apart u l in omega (arith, ints))

    pub mean_here : r.mean ≡ mean (branch L R)
    mean_here =
        let a = left_best r.temperature in
        let m = M.mean in
        let e : scaffold L Left r.temperature ≡ mean (branch L R) = sym (mean_is L R ∙ ap (scaffold L Left) heat_is) in
        omega (arith, ints)

    pub left_start : r.left ≡ wall (branch L R) Left 0
    left_start =
        let z = left_cut r.temperature heat_is 0 in
        let p : min 0 r.temperature ≡ 0 = omega arith in
        let q : cut (best Left corners lefts) r.temperature 0 ≡ (best Left corners lefts 0 -ℤ pos 0) = ap (λ (v : ℕ). best Left corners lefts v -ℤ pos v) p in
        let m = M.left in
        omega (arith, ints)

    pub right_start : r.right ≡ neg_ℤ (wall (branch L R) Right 0)
    right_start =
        let z = right_cut r.temperature heat_is 0 in
        let p : min 0 r.temperature ≡ 0 = omega arith in
        let q : cut (best Right corners rights) r.temperature 0 ≡ (best Right corners rights 0 -ℤ pos 0) = ap (λ (v : ℕ). best Right corners rights v -ℤ pos v) p in
        let m = M.right in
        omega (arith, ints)
