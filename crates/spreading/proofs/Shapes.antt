-- The shapes of a tree's rows, as a list and one by one.
use Rattle.std.proofs.Common.{◌≡◌, ℕ, ◌+◌, ◌<◌, ◌≤◌, List, ◌++◌, length, get_or, take, drop, sym, refl, ap, ◌∙◌, subst, arith, length-append}
use Rattle.std.proofs.lemmas.List.FromFn.{length-map-range_with_len, get_or-map-range_with_len, fill_by_all}
use Rattle.std.proofs.lemmas.List.{get_or_append_left, get_or-append-add, get_or-take, length-take-le, take-append-drop}
use Rattle.terms.specs.declared.side.Side.{Side}
use Rattle.terms.specs.declared.side.Side.TheVariants.{Left, Right}
use Rattle.theory.specs.Trees.{Tree, ended, branch, trees, options, size, Lawful}
use Rattle.spreading.specs.Order.{children, none, row, first}
use Rattle.spreading.specs.Shapes.{blank, shape_of, shape_at, shapes_of, start_of, count_of, end_of, Sound, SoundRow}
use Rattle.spreading.specs.declared.shape.Shape.{Shape}
use Rattle.spreading.specs.declared.shape.Shape.TheVariants.{Unused, Ended, Open}
use Rattle.spreading.specs.declared.shape.Fork.{Fork}
use Rattle.spreading.proofs.Rows.{children_inside}
use Rattle.spreading.proofs.Everywhere.{rows_lawful}

pub length_shapes : (t : Tree) → length (shapes_of t) ≡ size t
unfolding shapes_of
length_shapes t = length-map-range_with_len (shape_at t) 0 (size t)

pub get_d_shapes : (t : Tree) (k : ℕ) (d : Shape) → k < size t → get_or (shapes_of t) k d ≡ shape_at t k
unfolding shapes_of
get_d_shapes t k d lt = get_or-map-range_with_len (shape_at t) 0 (size t) k k d lt (omega arith)

-- the first n rows are those of t
abbrev pub RowsOf : Tree → ℕ → List Shape → Type 0
RowsOf t n shapes = (k : ℕ) → k < n → get_or shapes k blank ≡ shape_at t k

-- as many as t has: then these are all of them, and what follows is the rest
pub all_rows : (t : Tree) (n : ℕ) (shapes : List Shape) → n ≡ size t → n ≤ length shapes → RowsOf t n shapes → shapes ≡ shapes_of t ++ drop n shapes
unfolding shapes_of
all_rows t n shapes whole room h =
    let front : take n shapes ≡ shapes_of t = fill_by_all (shape_at t) (take n shapes) (size t) blank (length-take-le n shapes room ∙ whole) (λ k lt. get_or-take n shapes k blank (omega arith) ∙ h k (omega arith)) in
    sym (take-append-drop n shapes) ∙ ap (λ l. l ++ drop n shapes) front

-- what stands at a place where a list is the shapes of t
pub read_shape : (t : Tree) (shapes : List Shape) (k : ℕ) (d : Shape) → shapes ≡ shapes_of t → k < size t → get_or shapes k d ≡ shape_at t k
read_shape t shapes k d e lt = ap (λ l. get_or l k d) e ∙ get_d_shapes t k d lt

-- an ended position has no options and an open one has those that its shape counts
pub count_is : (f : ℕ) (x : Tree) (s : Side) → count_of (shape_of f x) s ≡ length (options x s)
count_is f (ended v) Left = refl
count_is f (ended v) Right = refl
count_is f (branch L R) Left = refl
count_is f (branch L R) Right = refl

-- a sound row has its options among the rows: each side's of an open one
pub side_inside : (n : ℕ) (x : Fork) (s : Side) → end_of (Open x) ≤ n → start_of (Open x) s + count_of (Open x) s ≤ n
side_inside n x Left h = omega arith
side_inside n x Right h = omega arith

-- and all of them
pub sound_inside : (n : ℕ) (x : Shape) → SoundRow n x → end_of x ≤ n
sound_inside n Unused h = omega arith
sound_inside n (Ended v) h = omega arith
sound_inside n (Open x) h = h

pub shape_inside : (n f : ℕ) (x : Tree) → (f + length (children x)) ≤ n → end_of (shape_of f x) ≤ n
shape_inside n f (ended v) h = omega arith
shape_inside n f (branch L R) h = omega (arith, length-append (trees L) (trees R))

-- each side's options, among those of both
pub child_of : (f : ℕ) (x : Tree) (s : Side) (k : ℕ) → k < length (options x s)
    → (j : ℕ) × (start_of (shape_of f x) s + k ≡ f + j) × (j < length (children x)) × (get_or (children x) j none ≡ get_or (options x s) k none)
child_of f (ended v) s k lt = absurd (omega arith)
child_of f (branch L R) Left k lt = (k, refl, omega (arith, length-append (trees L) (trees R)), get_or_append_left (trees L) (trees R) none k lt)
child_of f (branch L R) Right k lt = (
  length (trees L) + k,
  omega arith,
  omega (arith, length-append (trees L) (trees R)),
  get_or-append-add (trees L) (trees R) k none,
)

sound_of : (n f : ℕ) (x : Tree) → Lawful x → (f + length (children x)) ≤ n → SoundRow n (shape_of f x)
sound_of n f (ended v) g h = g
sound_of n f (branch L R) g h = shape_inside n f (branch L R) h

-- the rows of a lawful tree are sound
pub sound_shapes : (t : Tree) → Lawful t → Sound (shapes_of t)
sound_shapes t g k lt =
    let many = length_shapes t in
    let here : k < size t = omega arith in
    subst (λ x. SoundRow (length (shapes_of t)) x) (sym (get_d_shapes t k blank here))
    (sound_of (length (shapes_of t)) (first t k) (row t k) (rows_lawful t g k here) (omega (arith, children_inside t k here)))
