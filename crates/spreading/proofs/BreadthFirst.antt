-- The order of the rows is breadth first, and that alone.
use Rattle.std.proofs.Common.{◌≡◌, ℕ, zero, suc, ◌+◌, ◌-◌, ◌<◌, ◌≤◌, List, [], ◌∷◌, ◌++◌, length, get_or, take, drop, sym, ap, ◌∙◌, subst, append_assoc, arith, take_all, drop-cons, take-suc, get_or-append-add}
use native.Mathlib.Decide.{dec_lt}
use lib.Seq.{drop-append-le, take-append-le}
use Rattle.std.proofs.lemmas.List.{get_or_append_left, append-nil, ext_get_or}
use Rattle.theory.specs.Trees.{Tree, size}
use Rattle.spreading.specs.Order.{children, none, grown, positions, row, first, served}
use Rattle.spreading.specs.Laws.{counted, BreadthFirst, RowsInOrder}
use Rattle.spreading.proofs.Rows.{grown_next, first_next, first_zero, first_suc, first_behind, length_positions, row_zero, child_row, grown_root}

counted_positions : (t : Tree) (i : ℕ) → i ≤ size t → suc (counted (positions t) i) ≡ first t i
unfolding counted
counted_positions t zero h = sym (first_zero t)
counted_positions t (suc i) h = omega (arith, counted_positions t i (omega arith), first_suc t i h)

is_order : (t : Tree) → BreadthFirst t (positions t)
is_order t = record {
  many = length_positions t;
  root = row_zero t;
  next = λ i k lt few. ap (λ n. row t (n + k)) (counted_positions t i (omega arith)) ∙ child_row t i k lt few;
}

agree : (t : Tree) (ts : List Tree) → BreadthFirst t ts → (i : ℕ) → i ≤ size t → (suc (counted ts i) ≡ first t i) × ((k : ℕ) → k < first t i → get_or ts k none ≡ get_or (grown t i) k none)
unfolding counted
agree t ts b zero h = (
  sym (first_zero t),
  λ k lt.
      let same : 0 ≡ k = omega (arith, first_zero t) in
      subst (λ j. get_or ts j none ≡ get_or (grown t 0) j none) same (b.root ∙ sym (grown_root t)),
)
agree t ts b (suc i) h =
    let old = agree t ts b i (omega arith) in
    let g = grown t i in
    let x = get_or g i none in
    let same : get_or ts i none ≡ x = old.1 i (first_behind t i h) in
    let wide : length (children (get_or ts i none)) ≡ length (children x) = ap (λ y. length (children y)) same in
    let f = first_next t i in (
      omega (arith, old.0),
      λ k lt.
          elim (dec_lt k (length g)) [
            | yes p ↦ old.1 k p ∙ sym (ap (λ l. get_or l k none) (grown_next t i) ∙ get_or_append_left g (children x) none k p)
            | no q ↦
                let j = k - length g in
                let place : k ≡ length g + j = omega arith in
                let few : j < length (children (get_or ts i none)) = omega arith in
                let there : suc (counted ts i) + j ≡ k = omega (arith, old.0) in
                ap (λ n. get_or ts n none) (sym there) ∙ b.next i j h few ∙ ap (λ y. get_or (children y) j none) same
                ∙ sym (ap (λ l. get_or l k none) (grown_next t i) ∙ ap (λ n. get_or (g ++ children x) n none) place ∙ get_or-append-add g (children x) j none)
          ],
    )

only_order : (t : Tree) (ts : List Tree) → BreadthFirst t ts → ts ≡ positions t
only_order t ts b =
    ext_get_or none ts (positions t) (b.many ∙ sym (length_positions t)) (λ k lt. (agree t ts b (size t) (omega arith)).1 k (omega (arith, length_positions t, b.many)))

-- a queue: what is served after i rows
serving : (t : Tree) (m i : ℕ) → i + m ≡ size t → take i (grown t i) ++ served m (drop i (grown t i)) ≡ positions t
unfolding served
serving t zero i e =
    let all : i ≡ size t = omega arith in
    append-nil (take i (grown t i)) ∙ ap (λ n. take n (grown t n)) all ∙ take_all (size t) (positions t) (omega (arith, length_positions t))
serving t (suc m) i e =
    let g = grown t i in
    let x = get_or g i none in
    let here : i < length g = first_behind t i (omega arith) in
    let back : drop (suc i) g ++ children x ≡ drop (suc i) (grown t (suc i)) = sym (drop-append-le (suc i) g (children x) here) ∙ ap (drop (suc i)) (sym (grown_next t i)) in
    let front : take (suc i) (grown t (suc i)) ≡ take i g ++ (x ∷ []) = ap (take (suc i)) (grown_next t i) ∙ take-append-le (suc i) g (children x) here ∙ take-suc g i none here in
    ap (λ q. take i g ++ served (suc m) q) (drop-cons g i none here)
    ∙ ap (λ q. take i g ++ (x ∷ served m q)) back
    ∙ sym (append_assoc (take i g) (x ∷ []) (served m (drop (suc i) (grown t (suc i)))))
    ∙ ap (λ l. l ++ served m (drop (suc i) (grown t (suc i)))) (sym front)
    ∙ serving t m (suc i) (omega arith)

queue_order : (t : Tree) → served (size t) (t ∷ []) ≡ positions t
unfolding grown
queue_order t = serving t (size t) 0 (omega arith)

pub rows_in_order_lem : RowsInOrder
rows_in_order_lem t = record { is = is_order t; only = only_order t; queue = queue_order t }
