-- The rows of a tree in breadth-first order: how many there are at each time, and which stands where.
use Rattle.std.proofs.Common.{◌≡◌, ℕ, zero, suc, ◌+◌, ◌-◌, ◌<◌, ◌≤◌, List, [], ◌∷◌, ◌++◌, length, get_or, drop, sym, refl, ap, ◌∙◌, subst, add-zero, add-suc, arith, length-append, length-drop, drop-cons, get_or-append-add}
use native.Mathlib.Decide.{dec_lt}
use lib.Seq.{drop-append-le}
use Rattle.std.proofs.lemmas.List.{get_or_append_left, get_or_past, drop_all}
use Rattle.theory.specs.Trees.{Tree, Forest, ended, branch, one, more, trees, size, size_f}
use Rattle.spreading.specs.Order.{sizes, children, none, grown, positions, row, first}

pub sizes_append : (xs ys : List Tree) → sizes (xs ++ ys) ≡ sizes xs + sizes ys
sizes_append [] ys = omega arith
sizes_append (x ∷ xs) ys = omega (arith, sizes_append xs ys)

sizes_trees : (f : Forest) → sizes (trees f) ≡ size_f f
unfolding size_f
sizes_trees (one t) = omega arith
sizes_trees (more t ts) = omega (arith, sizes_trees ts)

-- a tree is one position and those of its children
pub size_children : (t : Tree) → size t ≡ suc (sizes (children t))
unfolding size size_f
size_children (ended s) = refl
size_children (branch ls rs) = omega (arith, sizes_append (trees ls) (trees rs), sizes_trees ls, sizes_trees rs)

pub lengths_sizes : (ts : List Tree) → length ts ≤ sizes ts
lengths_sizes [] = omega arith
lengths_sizes (t ∷ ts) = omega (arith, lengths_sizes ts, size_children t)

pub grown_next : (t : Tree) (i : ℕ) → grown t (suc i) ≡ grown t i ++ children (get_or (grown t i) i none)
unfolding grown
grown_next t i = refl

pub first_next : (t : Tree) (i : ℕ) → first t (suc i) ≡ first t i + length (children (get_or (grown t i) i none))
first_next t i = ap length (grown_next t i) ∙ length-append (grown t i) (children (get_or (grown t i) i none))

-- rows once written stay
pub stays : (t : Tree) (i d k : ℕ) → k < first t i → get_or (grown t (i + d)) k none ≡ get_or (grown t i) k none
stays t i zero k h = ap (λ n. get_or (grown t n) k none) (add-zero i)
stays t i (suc d) k h =
    let wide : k < length (grown t (i + d)) = more_rows t i d k h in
    ap (λ n. get_or (grown t n) k none) (add-suc i d) ∙ ap (λ l. get_or l k none) (grown_next t (i + d))
    ∙ get_or_append_left (grown t (i + d)) (children (get_or (grown t (i + d)) (i + d) none)) none k wide ∙ stays t i d k h
  where
    more_rows : (t : Tree) (i d k : ℕ) → k < first t i → k < first t (i + d)
    more_rows t i zero k h = subst (λ n. k < first t n) (sym (add-zero i)) h
    more_rows t i (suc d) k h = subst (λ n. k < first t n) (sym (add-suc i d)) (omega (arith, first_next t (i + d), more_rows t i d k h))

-- a row past the last has no children
idle_row : (t : Tree) (i : ℕ) → first t i ≤ i → first t (suc i) ≡ first t i
idle_row t i h =
    first_next t i ∙ ap (λ x. first t i + length (children x)) (get_or_past (grown t i) i none h) ∙ omega arith

pub open_row : (t : Tree) (i : ℕ) → suc i ≤ first t (suc i) → i < first t i
open_row t i h = elim (dec_lt i (first t i)) [ yes p ↦ p | no q ↦ absurd (let k : first t i ≤ i = omega arith in omega (arith, idle_row t i k)) ]

waiting_none : (t : Tree) → size t ≡ 0 + sizes (drop 0 (grown t 0))
unfolding grown
waiting_none t = omega arith

-- as long as no row is missing, the tree is the rows that are done and the positions of those that wait
pub waiting : (t : Tree) (i : ℕ) → i ≤ first t i → size t ≡ i + sizes (drop i (grown t i))
waiting t zero h = waiting_none t
waiting t (suc i) h =
    let g = grown t i in
    let x = get_or g i none in
    let here : i < length g = open_row t i h in
    let before : size t ≡ i + sizes (drop i g) = waiting t i (omega arith) in
    let cut : sizes (drop i g) ≡ size x + sizes (drop (suc i) g) = ap sizes (drop-cons g i none here) in
    let now-is : sizes (drop (suc i) (grown t (suc i))) ≡ sizes (drop (suc i) g) + sizes (children x) =
    ap (λ l. sizes (drop (suc i) l)) (grown_next t i) ∙ ap sizes (drop-append-le (suc i) g (children x) here) ∙ sizes_append (drop (suc i) g) (children x) in
    omega (arith, size_children x)

pub first_zero : (t : Tree) → first t 0 ≡ 1
unfolding grown
first_zero t = refl

-- never more rows than positions
pub within : (t : Tree) (i : ℕ) → i ≤ first t i → first t i ≤ size t
within t i h = omega (arith, waiting t i h, lengths_sizes (drop i (grown t i)), length-drop i (grown t i))

-- a row that is missing grown_root it: then there are as many as positions
pub finished : (t : Tree) (i : ℕ) → first t i ≡ i → size t ≡ i
finished t i h = waiting t i (omega arith) ∙ ap (λ l. i + sizes l) (drop_all i (grown t i) (omega arith)) ∙ omega arith

-- until the tree's positions are all done, a row waits
pub first_behind : (t : Tree) (i : ℕ) → i < size t → i < first t i
first_behind t zero h = omega (arith, first_zero t)
first_behind t (suc i) h =
    let here = first_behind t i (omega arith) in
    let most : i < first t (suc i) = omega (arith, first_next t i) in
    elim (dec_lt (suc i) (first t (suc i))) [ yes p ↦ p | no q ↦ absurd (let e : first t (suc i) ≡ suc i = omega arith in omega (arith, finished t (suc i) e)) ]

pub length_positions : (t : Tree) → length (positions t) ≡ size t
length_positions t = go (size t) refl
  where
    go : (n : ℕ) → size t ≡ n → first t n ≡ n
    go zero e = omega (arith, e, size_children t)
    go (suc n) e =
        let a = first_behind t n (omega arith) in
        let b : suc n ≤ first t (suc n) = omega (arith, first_next t n) in
        omega (arith, within t (suc n) b)

-- what child_row at k once row i is done child_row there in the end
pub kept : (t : Tree) (i k : ℕ) → i ≤ size t → k < first t i → row t k ≡ get_or (grown t i) k none
kept t i k h lt = ap (λ n. get_or (grown t n) k none) (omega arith) ∙ stays t i (size t - i) k lt

pub grown_root : (t : Tree) → get_or (grown t 0) 0 none ≡ t
unfolding grown
grown_root t = refl

pub row_zero : (t : Tree) → row t 0 ≡ t
row_zero t = kept t 0 0 (omega arith) (omega (arith, first_zero t)) ∙ grown_root t

-- where the children of row i begin, in terms of rows
pub first_suc : (t : Tree) (i : ℕ) → i < size t → first t (suc i) ≡ first t i + length (children (row t i))
first_suc t i h = first_next t i ∙ ap (λ x. first t i + length (children x)) (sym (kept t i i (omega arith) (first_behind t i h)))

-- and there they stand
pub child_row : (t : Tree) (i k : ℕ) → i < size t → k < length (children (row t i)) → row t (first t i + k) ≡ get_or (children (row t i)) k none
child_row t i k h lt =
    let same : row t i ≡ get_or (grown t i) i none = kept t i i (omega arith) (first_behind t i h) in
    let f = first_suc t i h in
    kept t (suc i) (first t i + k) (omega arith) (omega arith)
    ∙ ap (λ l. get_or l (first t i + k) none) (grown_next t i)
    ∙ get_or-append-add (grown t i) (children (get_or (grown t i) i none)) k none
    ∙ ap (λ x. get_or (children x) k none) (sym same)

pub children_inside : (t : Tree) (i : ℕ) → i < size t → first t i + length (children (row t i)) ≤ size t
children_inside t i h =
    let a = first_behind t i h in
    let f = first_suc t i h in
    let w : suc i ≤ first t (suc i) = omega arith in
    omega (arith, within t (suc i) w)
