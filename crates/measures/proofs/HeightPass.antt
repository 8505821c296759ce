-- Heights, from the options' to the row's and from the last row up.
use Rattle.std.proofs.Common.{◌≡◌, ℕ, zero, suc, Some, None, Option, MatchOption, unwrap_or, ◌+◌, ◌-◌, ◌<◌, ◌≤◌, max, List, [], ◌∷◌, ◌++◌, map, length, get_or, take, drop, ℤ, refl, ap, ◌∙◌, arith, length-append}
use Rattle.std.proofs.lemmas.List.{map-append}
use Rattle.terms.specs.declared.side.Side.TheVariants.{Left}
use Rattle.theory.specs.Trees.{Tree, Forest, ended, branch, one, more, trees, size, height, height_f}
use Rattle.spreading.specs.Order.{children, none, row, first}
use Rattle.spreading.specs.Shapes.{shape_at, start_of, end_of}
use Rattle.spreading.specs.declared.shape.Shape.{Shape}
use Rattle.spreading.specs.declared.shape.Shape.TheVariants.{Open}
use Rattle.spreading.specs.declared.shape.Fork.{Fork}
use Rattle.spreading.proofs.Everywhere.{Each, each_none, each_one, each_cons, each_append, everywhere}
use Rattle.spreading.proofs.Passes.{Noted, Kept, children_noted}
use Rattle.measures.specs.Figures.{greatest, HeightOf}
use Rattle.measures.proofs.Entries.{part_is}

greatest_append : (xs ys : List ℕ) → greatest (xs ++ ys) ≡ max (greatest xs) (greatest ys)
unfolding greatest
greatest_append [] ys = omega arith
greatest_append (x ∷ xs) ys = omega (arith, greatest_append xs ys)

greatest_over : (xs : List ℕ) (k : ℕ) → get_or xs k 0 ≤ greatest xs
unfolding greatest
greatest_over [] k = omega arith
greatest_over (x ∷ xs) zero = omega arith
greatest_over (x ∷ xs) (suc k) = omega (arith, greatest_over xs k)

pub greatest_most : (m : ℕ) (xs : List ℕ) → ((k : ℕ) → k < length xs → get_or xs k 0 ≤ m) → greatest xs ≤ m
unfolding greatest
greatest_most m [] h = omega arith
greatest_most m (x ∷ xs) h = omega (arith, h 0 (omega arith), greatest_most m xs (λ k lt. h (suc k) (omega arith)))

-- the greatest is one of them, and none is over it; or there are none
pub greatest_is : (xs : List ℕ) (m : Option ℕ) → MatchOption m (length xs ≡ 0) (λ v. ((k : ℕ) × (k < length xs) × (get_or xs k 0 ≡ v)) × ((k : ℕ) → k < length xs → get_or xs k 0 ≤ v)) → unwrap_or m 0 ≡ greatest xs
unfolding greatest
greatest_is [] None h = refl
greatest_is (x ∷ xs) None h = absurd (omega arith)
greatest_is xs (Some v) h = omega (arith, h.0.2, greatest_over xs h.0.0, greatest_most v xs h.1)

-- the height of a position from those of its options
greatest_forest : (F : Forest) → greatest (map height (trees F)) ≡ height_f F
unfolding greatest height_f
greatest_forest (one x) = omega arith
greatest_forest (more x F) = ap (max (height x)) (greatest_forest F)

height_children : (L R : Forest) → suc (greatest (map height (children (branch L R)))) ≡ height (branch L R)
unfolding height
height_children L R =
    ap (λ l. suc (greatest l)) (map-append height (trees L) (trees R))
    ∙ omega (arith, greatest_append (map height (trees L)) (map height (trees R)), greatest_forest L, greatest_forest R)

height_ended : (v : ℤ) → 0 ≡ height (ended v)
unfolding height
height_ended v = refl

-- as the code reads it off a shape
pub open_height : (x : Fork) (heights : List ℕ) (from to h : ℕ) → from ≡ x.first → to ≡ end_of (Open x) → to ≤ length heights
    → h ≡ 1 + greatest (take (to - from) (drop from heights)) → HeightOf (Open x) heights h
open_height x heights from to h begins ends inside e f (ended v) is noted = let z : ◌≡◌ {A = ℕ} 0 1 = cc in absurd (omega arith)
open_height x heights from to h begins ends inside e f (branch L R) is noted =
    let same : x.first ≡ f = ap (λ (z : Shape). start_of z Left) is in
    let many : f + length (children (branch L R)) ≡ to = omega (arith, ap end_of is, length-append (trees L) (trees R)) in
    let part : take (to - f) (drop f heights) ≡ map height (children (branch L R)) = part_is height 0 heights f to (children (branch L R)) many inside noted in
    let cut : greatest (take (to - from) (drop from heights)) ≡ greatest (map height (children (branch L R))) = ap (λ n. greatest (take (to - n) (drop n heights))) (begins ∙ same) ∙ ap greatest part in
    omega (arith, height_children L R)

pub other_height : (shape : Shape) (heights : List ℕ) → ((x : Fork) → shape ≡ Open x → ⊥) → HeightOf shape heights 0
other_height shape heights not-open f (ended v) is noted = height_ended v
other_height shape heights not-open f (branch L R) is noted = absurd (not-open _ is)

-- the height of row i, once those behind it are noted
pub height_read : (t : Tree) (i : ℕ) (x : Shape) (heights : List ℕ) (h : ℕ) → i < size t → x ≡ shape_at t i
    → HeightOf x heights h → Noted (Kept height 0 heights) t (suc i) → h ≡ height (row t i)
height_read t i x heights h lt here is old =
    is (first t i) (row t i) here (children_noted (Kept height 0 heights) t i lt old)

-- no row is higher than the tree
trees_lower : (F : Forest) (h : ℕ) → height_f F ≤ h → Each (λ x. height x ≤ h) (trees F)
unfolding height_f
trees_lower (one x) h l = each_one (λ x. height x ≤ h) x l
trees_lower (more x F) h l = each_cons (λ x. height x ≤ h) x (trees F) (omega arith) (trees_lower F h (omega arith))

children_lower : (h : ℕ) (x : Tree) → height x ≤ h → Each (λ x. height x ≤ h) (children x)
unfolding height
children_lower h (ended v) l = each_none (λ x. height x ≤ h)
children_lower h (branch L R) l = each_append (λ x. height x ≤ h) (trees L) (trees R) (trees_lower L h (omega arith)) (trees_lower R h (omega arith))

none_low : (h : ℕ) → height none ≤ h
unfolding height
none_low h = omega arith

pub rows_lower : (t : Tree) (k : ℕ) → k < size t → height (row t k) ≤ height t
rows_lower t k h = everywhere (λ x. height x ≤ height t) (children_lower (height t)) (none_low (height t)) t (omega arith) k h
