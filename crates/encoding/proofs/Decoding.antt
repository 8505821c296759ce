-- Rows tell trees: a part's rows read back are those of one tree only.
use Rattle.std.proofs.Common.{◌≡◌, ℕ, zero, suc, ◌+◌, ◌<◌, ◌≤◌, List, ◌++◌, length, get_or, take, sym, ap, ◌∙◌, arith, length-append}
use native.Mathlib.Decide.{dec_lt}
use Rattle.std.specs.List.{flat_map}
use Rattle.std.proofs.lemmas.List.{get_or_append_left, get_or-append-add, ext_get_or, take_all}
use Rattle.terms.specs.declared.side.Side.TheVariants.{Left, Right}
use Rattle.theory.specs.Trees.{Tree, Forest, ended, branch, one, more, trees, size}
use Rattle.spreading.specs.Order.{children, none, row, first}
use Rattle.spreading.specs.Shapes.{blank, shape_of, shape_at, shapes_of, start_of, count_of}
use Rattle.spreading.specs.declared.shape.Shape.{Shape}
use Rattle.spreading.proofs.Rows.{row_zero, size_children, child_row, children_inside, first_behind}
use Rattle.spreading.proofs.Shapes.{length_shapes, get_d_shapes}
use Rattle.encoding.specs.Columns.{Column}
use Rattle.encoding.specs.Laws.{RowsTellTrees}
use Rattle.encoding.proofs.Columns.{next_part, column_start, column_entry}

some_tree : (F : Forest) → 0 < length (trees F)
some_tree (one x) = omega arith
some_tree (more x F) = omega arith

one_forest : (F G : Forest) → trees F ≡ trees G → F ≡ G
one_forest (one x) (one y) e = let q : x ≡ y = cc in ap one q
one_forest (one x) (more y G) e = absurd (omega (arith, ap length e, some_tree G))
one_forest (more x F) (one y) e = absurd (omega (arith, ap length e, some_tree F))
one_forest (more x F) (more y G) e =
    let q : x ≡ y = cc in
    let r : trees F ≡ trees G = cc in
    let s = one_forest F G r in
    cc

-- a shape and the options give the position
position : (f g : ℕ) (x y : Tree) → shape_of f x ≡ shape_of g y
    → (f ≡ g → (k : ℕ) → k < length (children x) → k < length (children y) → get_or (children x) k none ≡ get_or (children y) k none) → x ≡ y
position f g (ended v) (ended w) e h = let q : v ≡ w = cc in ap ended q
position f g (ended v) (branch L R) e h = let z : ◌≡◌ {A = ℕ} 0 1 = cc in absurd (omega arith)
position f g (branch L R) (ended w) e h = let z : ◌≡◌ {A = ℕ} 0 1 = cc in absurd (omega arith)
position f g (branch L R) (branch L' R') e h =
    let from : f ≡ g = ap (λ (z : Shape). start_of z Left) e in
    let ls : length (trees L) ≡ length (trees L') = ap (λ (z : Shape). count_of z Left) e in
    let rs : length (trees R) ≡ length (trees R') = ap (λ (z : Shape). count_of z Right) e in
    let wide = length-append (trees L) (trees R) in
    let wide' = length-append (trees L') (trees R') in
    let left : trees L ≡ trees L' = ext_get_or none (trees L) (trees L') ls (λ k lt.
    sym (get_or_append_left (trees L) (trees R) none k lt) ∙ h from k (omega arith) (omega arith) ∙ get_or_append_left (trees L') (trees R') none k (omega arith)) in
    let right : trees R ≡ trees R' = ext_get_or none (trees R) (trees R') rs (λ k lt.
    sym (get_or-append-add (trees L) (trees R) k none) ∙ h from (length (trees L) + k) (omega arith) (omega arith)
    ∙ ap (λ n. get_or (trees L' ++ trees R') (n + k) none) ls ∙ get_or-append-add (trees L') (trees R') k none) in
    let l = one_forest L L' left in
    let r = one_forest R R' right in
    cc

-- from the last row up: m is how many rows may still follow row k
from_last : (t u : Tree) → size t ≡ size u → ((k : ℕ) → k < size t → shape_at t k ≡ shape_at u k) → (m k : ℕ) → size t ≤ k + m → k < size t → row t k ≡ row u k
from_last t u many same zero k under lt = absurd (omega arith)
from_last t u many same (suc m) k under lt =
    position (first t k) (first u k) (row t k) (row u k) (same k lt) (λ e j fewT fewU.
    sym (child_row t k j lt fewT)
    ∙ from_last t u many same m (first t k + j) (omega (arith, first_behind t k lt)) (omega (arith, children_inside t k lt))
    ∙ ap (λ n. row u (n + j)) e ∙ child_row u k j (omega arith) fewU)

pub one_tree : (t u : Tree) → shapes_of t ≡ shapes_of u → t ≡ u
one_tree t u e =
    let many : size t ≡ size u = sym (length_shapes t) ∙ ap length e ∙ length_shapes u in
    let same : (k : ℕ) → k < size t → shape_at t k ≡ shape_at u k = λ k lt. sym (get_d_shapes t k blank lt) ∙ ap (λ l. get_or l k blank) e ∙ get_d_shapes u k blank (omega arith) in
    sym (row_zero t) ∙ from_last t u many same (size t) 0 (omega arith) (omega (arith, size_children t)) ∙ row_zero u

ends_at : {shapes : List Shape} {starts : List ℕ} {used : ℕ} {ts us : List Tree} → length ts ≡ length us → Column shapes_of blank shapes starts used ts → Column shapes_of blank shapes starts used us
    → (p : ℕ) → p ≤ length ts → length (flat_map shapes_of (take p ts)) ≡ length (flat_map shapes_of (take p us))
ends_at {ts = ts} {us = us} many h g p le =
    elim (dec_lt p (length ts)) [
      | yes lt ↦ sym (column_start h p lt) ∙ column_start g p (omega arith)
      | no ge ↦
          ap (λ l. length (flat_map shapes_of l)) (take_all p ts (omega arith)) ∙ sym h.filled ∙ g.filled ∙ sym (ap (λ l. length (flat_map shapes_of l)) (take_all p us (omega arith)))
    ]

-- what a column of shapes holds is given by it, by its starts and by the number of parts
pub one_list : (shapes : List Shape) (starts : List ℕ) (used : ℕ) (ts us : List Tree) → length ts ≡ length us
    → Column shapes_of blank shapes starts used ts → Column shapes_of blank shapes starts used us → ts ≡ us
one_list shapes starts used ts us many h g =
    ext_get_or none ts us many (λ p lt.
    let in-us : p < length us = omega arith in
    let wide : length (shapes_of (get_or ts p none)) ≡ length (shapes_of (get_or us p none)) =
    omega (arith, next_part shapes_of ts p lt, next_part shapes_of us p in-us, ends_at many h g p (omega arith), ends_at many h g (suc p) lt) in
    one_tree (get_or ts p none) (get_or us p none)
    (ext_get_or blank (shapes_of (get_or ts p none)) (shapes_of (get_or us p none)) wide (λ k few. sym (column_entry h p k lt few) ∙ column_entry g p k in-us (omega arith))))

pub rows_tell_trees_lem : RowsTellTrees
rows_tell_trees_lem shapes starts count used ts us h g = one_list shapes starts used ts us (sym h.many ∙ g.many) h.rows g.rows
