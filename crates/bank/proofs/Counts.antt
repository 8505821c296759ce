-- The corners of a tree's rows are as many as the refusal table counts.
use Rattle.std.proofs.Common.{◌≡◌, ℕ, zero, suc, ◌+◌, ◌<◌, ◌≤◌, List, [], ◌∷◌, ◌++◌, length, get_or, take, drop, refl, ap, ◌∙◌, arith, length-append, drop-cons}
use lib.Seq.{drop-append-le}
use Rattle.std.specs.List.{flat_map}
use Rattle.std.proofs.lemmas.List.{drop_all, take_all, take_more, take-append-le}
use Rattle.terms.specs.declared.side.Side.TheVariants.{Left, Right}
use Rattle.theory.specs.Trees.{Tree, Forest, ended, branch, one, more, trees, size}
use Rattle.theory.specs.Corners.{corners_of}
use Rattle.spreading.specs.Order.{children, none, grown, positions, first}
use Rattle.spreading.proofs.Rows.{grown_next, open_row, length_positions}
use Rattle.thermographs.specs.Figures.{both_corners, strip, strip_of}
use Rattle.stories.specs.Seatings.{turns, corner_count, corner_count_f, corner_counts}

counts_append : (xs ys : List Tree) → corner_counts (xs ++ ys) ≡ corner_counts xs + corner_counts ys
counts_append [] ys = omega arith
counts_append (x ∷ xs) ys = omega (arith, counts_append xs ys)

counts_trees : (F : Forest) → corner_counts (trees F) ≡ corner_count_f F
unfolding corner_count_f
counts_trees (one x) = omega arith
counts_trees (more x F) = omega (arith, counts_trees F)

counts_children : (x : Tree) → corner_count x ≡ turns x + corner_counts (children x)
unfolding corner_count corner_count_f
counts_children (ended v) = omega arith
counts_children (branch L R) = omega (arith, counts_append (trees L) (trees R), counts_trees L, counts_trees R)

length_strip : (x : Tree) (xs : List Tree) → length (strip (x ∷ xs)) ≡ length (strip xs) + turns x
unfolding strip both_corners
length_strip x xs = omega (arith, length-append (strip xs) (corners_of x Left ++ corners_of x Right), length-append (corners_of x Left) (corners_of x Right))

length_no_strip : length (strip []) ≡ 0
unfolding strip
length_no_strip = refl

strip_append : (xs ys : List Tree) → length (strip (xs ++ ys)) ≡ length (strip xs) + length (strip ys)
strip_append [] ys = omega (arith, length_no_strip)
strip_append (x ∷ xs) ys = omega (arith, length_strip x (xs ++ ys), length_strip x xs, strip_append xs ys)

waiting_none : (t : Tree) → corner_count t ≡ length (strip (take 0 (grown t 0))) + corner_counts (drop 0 (grown t 0))
unfolding grown
waiting_none t = omega (arith, length_no_strip)

-- as long as no row is missing, the tree has the corners of the rows that are done and of those that wait
waiting : (t : Tree) (i : ℕ) → i ≤ first t i → corner_count t ≡ length (strip (take i (grown t i))) + corner_counts (drop i (grown t i))
waiting t zero h = waiting_none t
waiting t (suc i) h =
    let g = grown t i in
    let x = get_or g i none in
    let here : i < length g = open_row t i h in
    let old : corner_count t ≡ length (strip (take i g)) + corner_counts (drop i g) = waiting t i (omega arith) in
    let cut : corner_counts (drop i g) ≡ corner_count x + corner_counts (drop (suc i) g) = ap corner_counts (drop-cons g i none here) in
    let up : suc i ≡ i + 1 = omega arith in
    let done : take (suc i) (grown t (suc i)) ≡ take i g ++ (x ∷ []) =
    ap (take (suc i)) (grown_next t i) ∙ take-append-le (suc i) g (children x) here ∙ ap (λ n. take n g) up ∙ take_more g i none here in
    let wait : corner_counts (drop (suc i) (grown t (suc i))) ≡ corner_counts (drop (suc i) g) + corner_counts (children x) =
    ap (λ l. corner_counts (drop (suc i) l)) (grown_next t i) ∙ ap corner_counts (drop-append-le (suc i) g (children x) here) ∙ counts_append (drop (suc i) g) (children x) in
    omega (arith, counts_children x, ap (λ l. length (strip l)) done, strip_append (take i g) (x ∷ []), length_strip x [], length_no_strip)

pub length_strip_of : (t : Tree) → corner_count t ≡ length (strip_of t)
length_strip_of t =
    let many = length_positions t in
    waiting t (size t) (omega arith)
    ∙ omega (arith, ap (λ l. length (strip l)) (take_all (size t) (positions t) (omega arith)), ap corner_counts (drop_all (size t) (positions t) (omega arith)))

pub length_strips : (ts : List Tree) → corner_counts ts ≡ length (flat_map strip_of ts)
length_strips [] = omega arith
length_strips (t ∷ ts) = omega (arith, length-append (strip_of t) (flat_map strip_of ts), length_strip_of t, length_strips ts)
