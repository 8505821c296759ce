-- Stops and cold positions, from the options' to the row's and from the last row up.
use Rattle.std.proofs.Common.{◌≡◌, ℕ, zero, suc, ◌+◌, ◌-◌, ◌<◌, ◌≤◌, Bool, true, false, ◌||◌, ◌≢◌, List, [], ◌∷◌, ◌++◌, map, length, get_or, take, drop, set, ℤ, pos, negsuc, ◌+ℤ◌, neg_ℤ, ◌≤ℤ◌, ◌<ℤ◌, unwrap_or, sym, refl, ap, ◌∙◌, subst, arith, length-append}
use lib.Signed.{lt_z}
use Rattle.std.specs.Int.{int_max}
use Rattle.std.specs.Cmp.{int_ranks}
use Rattle.std.specs.List.{fold, reduce}
use Rattle.std.specs.Ordering.{int_cmp, max_by_ordering, MatchOrdering}
use Rattle.std.specs.declared.cmp.Ordering.{Ordering}
use Rattle.std.specs.declared.cmp.Ordering.TheVariants.{Less, Equal, Greater}
use Rattle.std.proofs.lemmas.List.{take_more, map-set, take-map, drop-map, length-map, get_or_append_left, get_or-append-add, get_or-set_same, get_or-set_other}
use Rattle.std.proofs.lemmas.Int.{ints, clamps}
use Rattle.std.proofs.lemmas.Bool.{or_from, or_parts}
use Rattle.terms.specs.declared.side.Side.{Side}
use Rattle.terms.specs.declared.side.Side.TheVariants.{Left, Right}
use Rattle.terms.specs.Sides.{other, own, pick}
use Rattle.theory.specs.Limits.{score_limit}
use Rattle.theory.specs.Trees.{Tree, Forest, ended, branch, one, more, trees, size, Score}
use Rattle.theory.specs.Stops.{stop, stop_f, cold, cold_f}
use Rattle.spreading.specs.Order.{children, none, row, first}
use Rattle.spreading.specs.Shapes.{shape_at, start_of, count_of}
use Rattle.spreading.specs.declared.shape.Shape.{Shape}
use Rattle.spreading.specs.declared.shape.Shape.TheVariants.{Ended, Open}
use Rattle.spreading.specs.declared.shape.Fork.{Fork}
use Rattle.spreading.proofs.Everywhere.{Each, each_none, each_one, each_cons, each_append, everywhere}
use Rattle.spreading.proofs.Shapes.{count_is}
use Rattle.spreading.proofs.Passes.{Noted, noted_more, children_noted, options_noted}
use Rattle.measures.specs.Figures.{best_of, stop_for, StopOf}
use Rattle.measures.specs.declared.stops.Stops.{Stops}
use Rattle.measures.proofs.Entries.{part_is}

-- the stops of a position are scores
pub stop_score : (s : Side) (x : Stops) → Score (stop_for s x)
stop_score Left x = x.left_score
stop_score Right x = x.right_score

pub stops_scores : (s : Side) (stops : List Stops) (k : ℕ) → Score (get_or (map (stop_for s) stops) k (pos 0))
stops_scores s [] k = (omega (arith, ints), omega (arith, ints))
stops_scores s (x ∷ xs) zero = stop_score s x
stops_scores s (x ∷ xs) (suc k) = stops_scores s xs k

-- the best, as the code takes it
abbrev pub greater : ℤ → ℤ → ℤ
greater a b = max_by_ordering (int_cmp a b) a b

greater_is : (a b : ℤ) → greater a b ≡ int_max a b
greater_is a b = go (int_cmp a b) (int_ranks a b)
  where
    go : (o : Ordering) → MatchOrdering o (a <ℤ b) (a ≡ b) (b <ℤ a) → max_by_ordering o a b ≡ int_max a b
    go Less h = omega (arith, ints, clamps)
    go Equal h = omega (arith, ints, clamps)
    go Greater h = omega (arith, ints, clamps)

best_after : (s : Side) (xs : List Stops) (a : ℤ) → neg_ℤ (pos score_limit) ≤ℤ a → fold greater a (map (λ x. neg_ℤ (stop_for s x)) xs) ≡ int_max a (best_of (map (stop_for s) xs))
unfolding best_of
best_after s [] a low = omega (arith, ints, clamps)
best_after s (x ∷ xs) a low =
    let v = neg_ℤ (stop_for s x) in
    let next : greater a v ≡ int_max a v = greater_is a v in
    best_after s xs (greater a v) (omega (arith, ints, clamps)) ∙ omega (arith, ints, clamps)

pub best_taken : (s : Side) (xs : List Stops) → unwrap_or (reduce greater (map (λ x. neg_ℤ (stop_for s x)) xs)) (neg_ℤ (pos score_limit)) ≡ best_of (map (stop_for s) xs)
unfolding best_of
best_taken s [] = refl
best_taken s (x ∷ xs) = best_after s xs (neg_ℤ (stop_for s x)) (omega (arith, ints, (stop_score s x).1))

pub best_score : (s : Side) (xs : List Stops) → Score (best_of (map (stop_for s) xs))
unfolding best_of
best_score s [] = (omega (arith, ints), omega (arith, ints))
best_score s (x ∷ xs) =
    let h = stop_score s x in
    let r = best_score s xs in
    (omega (arith, ints, clamps), omega (arith, ints, clamps))

-- the best of one more
best_push : (vs : List ℤ) (v : ℤ) → best_of (vs ++ (v ∷ [])) ≡ int_max (best_of vs) (neg_ℤ v)
unfolding best_of
best_push [] v = omega (arith, ints, clamps)
best_push (w ∷ vs) v = let r = best_push vs v in ap (int_max (neg_ℤ w)) r ∙ omega (arith, ints, clamps)

pub best_more : (vs : List ℤ) (i : ℕ) → i < length vs → best_of (take (i + 1) vs) ≡ int_max (best_of (take i vs)) (neg_ℤ (get_or vs i (pos 0)))
best_more vs i lt = ap best_of (take_more vs i (pos 0) lt) ∙ best_push (take i vs) (get_or vs i (pos 0))

-- a side's own score is a score
pub own_score : (s : Side) (v : ℤ) → Score v → Score (own s v)
own_score Left v h = h
own_score Right v h = (omega (arith, ints), omega (arith, ints))

-- where no option leaves less than the lowest score, it is the mover's stop
best_forest : (F : Forest) (s : Side) → Each (λ x. Score (stop x (other s))) (trees F) → best_of (map (λ x. stop x (other s)) (trees F)) ≡ stop_f F s
unfolding best_of stop_f
best_forest (one x) s h = let a = h 0 (omega arith) in omega (arith, ints, clamps)
best_forest (more x F) s h = ap (int_max (neg_ℤ (stop x (other s)))) (best_forest F s (λ k lt. h (suc k) (omega arith)))

stop_open : (L R : Forest) (s : Side) → stop_f (pick s L R) s ≡ stop (branch L R) s
unfolding stop
stop_open L R Left = refl
stop_open L R Right = refl

stop_ended : (v : ℤ) (s : Side) → own s v ≡ stop (ended v) s
unfolding stop
stop_ended v s = refl

-- as the code reads it off a shape
pub open_stop : (x : Fork) (s : Side) (stops : List Stops) (from to : ℕ) (v : ℤ) → from ≡ start_of (Open x) s → to ≡ from + count_of (Open x) s → to ≤ length stops
    → v ≡ best_of (map (stop_for (other s)) (take (to - from) (drop from stops))) → StopOf (Open x) s (map (stop_for (other s)) stops) v
open_stop x s stops from to v begins ends inside e f (ended w) is noted = let z : ◌≡◌ {A = ℕ} 0 1 = cc in absurd (omega arith)
open_stop x s stops from to v begins ends inside e f (branch L R) is noted =
    let F = pick s L R in
    let others = map (stop_for (other s)) stops in
    let many : count_of (Open x) s ≡ length (trees F) = ap (λ (z : Shape). count_of z s) is ∙ count_is f (branch L R) s in
    let there : (k : ℕ) → k < length (trees F) → get_or others (from + k) (pos 0) ≡ stop (get_or (trees F) k none) (other s) =
    λ k lt. ap (λ n. get_or others (n + k) (pos 0)) begins ∙ noted k lt in
    let part : take (to - from) (drop from others) ≡ map (λ x. stop x (other s)) (trees F) =
    part_is (λ x. stop x (other s)) (pos 0) others from to (trees F) (omega arith) (omega (arith, length-map stops (stop_for (other s)))) there in
    let cut : map (stop_for (other s)) (take (to - from) (drop from stops)) ≡ take (to - from) (drop from others) =
    sym (ap (take (to - from)) (drop-map (stop_for (other s)) from stops) ∙ take-map (stop_for (other s)) (to - from) (drop from stops)) in
    e ∙ ap best_of (cut ∙ part) ∙ best_forest F s (λ k lt. subst Score (there k lt) (stops_scores (other s) stops (from + k))) ∙ stop_open L R s

pub ended_stop : (w : ℤ) (s : Side) (others : List ℤ) → StopOf (Ended w) s others (own s w)
ended_stop w s others f (ended v) is noted = let q : w ≡ v = cc in ap (own s) q ∙ stop_ended v s
ended_stop w s others f (branch L R) is noted = let z : ◌≡◌ {A = ℕ} 0 1 = cc in absurd (omega arith)

-- a position is not cold where it is not so itself and none of its options is
trees_warm : (F : Forest) → cold_f F ≡ false → Each (λ x. cold x ≡ false) (trees F)
unfolding cold_f
trees_warm (one x) e = each_one (λ x. cold x ≡ false) x e
trees_warm (more x F) e = let p = or_parts (cold x) (cold_f F) e in each_cons (λ x. cold x ≡ false) x (trees F) p.0 (trees_warm F p.1)

children_warm : (x : Tree) → cold x ≡ false → Each (λ x. cold x ≡ false) (children x)
unfolding cold
children_warm (ended v) e = each_none (λ x. cold x ≡ false)
children_warm (branch L R) e =
    let p = or_parts (lt_z (stop_f L Left +ℤ stop_f R Right) (pos 0)) (cold_f L || cold_f R) e in
    let q = or_parts (cold_f L) (cold_f R) p.1 in
    each_append (λ x. cold x ≡ false) (trees L) (trees R) (trees_warm L q.0) (trees_warm R q.1)

none_warm : cold none ≡ false
unfolding cold
none_warm = refl

rows_warm : (t : Tree) → cold t ≡ false → (k : ℕ) → k < size t → cold (row t k) ≡ false
rows_warm t e k lt = everywhere (λ x. cold x ≡ false) children_warm none_warm t e k lt

warm_here : (x : Tree) → cold x ≡ false → pos 0 ≤ℤ (stop x Left +ℤ stop x Right)
unfolding cold stop
warm_here (ended v) e = omega (arith, ints)
warm_here (branch L R) e = let p = or_parts (lt_z (stop_f L Left +ℤ stop_f R Right) (pos 0)) (cold_f L || cold_f R) e in omega (arith, ints, p.0)

forest_warm : (F : Forest) → Each (λ x. cold x ≡ false) (trees F) → cold_f F ≡ false
unfolding cold_f
forest_warm (one x) h = h 0 (omega arith)
forest_warm (more x F) h = or_from (cold x) (cold_f F) (h 0 (omega arith)) (forest_warm F (λ k lt. h (suc k) (omega arith)))

warm_row : (x : Tree) → pos 0 ≤ℤ (stop x Left +ℤ stop x Right) → Each (λ y. cold y ≡ false) (children x) → cold x ≡ false
unfolding cold stop
warm_row (ended v) w h = refl
warm_row (branch L R) w h =
    let wide = length-append (trees L) (trees R) in
    let here : false ≡ lt_z (stop_f L Left +ℤ stop_f R Right) (pos 0) = omega (arith, ints) in
    or_from (lt_z (stop_f L Left +ℤ stop_f R Right) (pos 0)) (cold_f L || cold_f R) (sym here)
    (or_from (cold_f L) (cold_f R)
    (forest_warm L (λ k lt. subst (λ y. cold y ≡ false) (get_or_append_left (trees L) (trees R) none k lt) (h k (omega arith))))
    (forest_warm R (λ k lt. subst (λ y. cold y ≡ false) (get_or-append-add (trees L) (trees R) k none) (h (length (trees L) + k) (omega arith)))))

-- what is noted of a row: its stops, and that it is not cold
pub record Seen (stops : List Stops) (k : ℕ) (x : Tree) : Type 0 where
  pub told : (s : Side) → get_or (map (stop_for s) stops) k (pos 0) ≡ stop x s
  pub warm : cold x ≡ false

-- a side's stop of row i, once those behind it are noted
pub stop_read : (t : Tree) (i : ℕ) (x : Shape) (stops : List Stops) (s : Side) (v : ℤ) → i < size t → x ≡ shape_at t i
    → StopOf x s (map (stop_for (other s)) stops) v → Noted (Seen stops) t (suc i) → v ≡ stop (row t i) s
stop_read t i x stops s v lt here is old =
    is (first t i) (row t i) here (λ k few.
    ap (λ z. get_or (map (stop_for (other s)) stops) (start_of z s + k) (pos 0)) here ∙ (options_noted (Seen stops) t i lt old s k few).told (other s))

-- one row more, which is not cold itself
pub seen_more : (t : Tree) (i j : ℕ) (stops : List Stops) (a : Stops) → i ≡ j → i < size t → i < length stops → a.left ≡ stop (row t i) Left → a.right ≡ stop (row t i) Right → pos 0 ≤ℤ (a.left +ℤ a.right)
    → Noted (Seen stops) t (suc i) → Noted (Seen (set stops i a)) t j
seen_more t i j stops a at lt room left right warm old =
    let is : (s : Side) → stop_for s a ≡ stop (row t i) s = λ s. elim s as (λ s. stop_for s a ≡ stop (row t i) s) [ Left ↦ left | Right ↦ right ] in
    let wide : (s : Side) → i < length (map (stop_for s) stops) = λ s. omega (arith, length-map stops (stop_for s)) in
    subst (λ n. Noted (Seen (set stops i a)) t n) at
    (noted_more (Seen stops) (Seen (set stops i a)) t i
    (λ k x behind h.
    let ne : k ≢ i = omega arith in
    record {
      told = λ s. ap (λ l. get_or l k (pos 0)) (map-set (stop_for s) stops i a) ∙ get_or-set_other (map (stop_for s) stops) i k (stop_for s a) (pos 0) ne ∙ h.told s;
      warm = h.warm;
    })
    (record {
      told = λ s. ap (λ l. get_or l i (pos 0)) (map-set (stop_for s) stops i a) ∙ get_or-set_same (map (stop_for s) stops) i (stop_for s a) (pos 0) (wide s) ∙ is s;
      warm = warm_row (row t i) (subst (λ v. pos 0 ≤ℤ (v +ℤ stop (row t i) Right)) left (subst (λ v. pos 0 ≤ℤ (a.left +ℤ v)) right warm)) (λ k few. (children_noted (Seen stops) t i lt old k few).warm);
    }) old)

-- a cold row makes the tree cold
pub seen_cold : (t : Tree) (i : ℕ) (l r : ℤ) → i < size t → l ≡ stop (row t i) Left → r ≡ stop (row t i) Right → (l +ℤ r) ≤ℤ negsuc 0 → true ≡ cold t
seen_cold t i l r lt lIs rIs under = go (cold t) refl
  where
    go : (b : Bool) → cold t ≡ b → true ≡ cold t
    go true e = sym e
    go false e = absurd (let here = warm_here (row t i) (rows_warm t e i lt) in omega (arith, ints))
