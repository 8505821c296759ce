-- What options inherit from their position holds in every row.
use Rattle.std.proofs.Common.{ℕ, zero, suc, ◌-◌, ◌<◌, ◌≤◌, List, [], ◌∷◌, ◌++◌, length, get_or, sym, refl, subst, le_of_suc-le-suc, not-suc-le-zero, arith, length-append}
use native.Mathlib.Decide.{dec_lt}
use Rattle.std.proofs.lemmas.Int.{ints}
use Rattle.std.proofs.lemmas.List.{get_or_append_left, get_or-append_right, get_or_past}
use Rattle.theory.specs.Trees.{Tree, Forest, ended, branch, one, more, trees, size, Lawful, LawfulF}
use Rattle.spreading.specs.Order.{children, none, grown, row}
use Rattle.spreading.proofs.Rows.{length_positions}

-- P of each tree of a list
abbrev pub Each : (Tree → Type 0) → List Tree → Type 0
Each P ts = (k : ℕ) → k < length ts → P (get_or ts k none)

pub each_none : (P : Tree → Type 0) → Each P []
each_none P k h = absurd (not-suc-le-zero h)

pub each_one : (P : Tree → Type 0) (t : Tree) → P t → Each P (t ∷ [])
each_one P t p zero h = p
each_one P t p (suc k) h = absurd (not-suc-le-zero (le_of_suc-le-suc h))

pub each_cons : (P : Tree → Type 0) (t : Tree) (ts : List Tree) → P t → Each P ts → Each P (t ∷ ts)
each_cons P t ts p ps zero h = p
each_cons P t ts p ps (suc k) h = ps k (le_of_suc-le-suc h)

pub each_append : (P : Tree → Type 0) (xs ys : List Tree) → Each P xs → Each P ys → Each P (xs ++ ys)
each_append P xs ys p q k h =
    elim (dec_lt k (length xs)) [
      | yes lt ↦ subst P (sym (get_or_append_left xs ys none k lt)) (p k lt)
      | no ge ↦
          let le : length xs ≤ k = omega arith in
          subst P (sym (get_or-append_right xs ys (length xs) k none refl le)) (q (k - length xs) (omega (arith, length-append xs ys)))
    ]

grown_each : (P : Tree → Type 0) → ((x : Tree) → P x → Each P (children x)) → P none → (t : Tree) → P t → (i : ℕ) → Each P (grown t i)
unfolding grown
grown_each P step idle t p zero = each_one P t p
grown_each P step idle t p (suc i) =
    let before = grown_each P step idle t p i in
    each_append P (grown t i) (children (get_or (grown t i) i none)) before
    (elim (dec_lt i (length (grown t i))) as (λ d. Each P (children (get_or (grown t i) i none))) [
      | yes lt ↦ step (get_or (grown t i) i none) (before i lt)
      | no ge ↦ step (get_or (grown t i) i none) (subst P (sym (get_or_past (grown t i) i none (omega arith))) idle)
    ])

-- a tree has it, a position hands it on to its options: so every row has it
pub everywhere : (P : Tree → Type 0) → ((x : Tree) → P x → Each P (children x)) → P none → (t : Tree) → P t → (k : ℕ) → k < size t → P (row t k)
everywhere P step idle t p k h = grown_each P step idle t p (size t) k (omega (arith, length_positions t))

-- lawful trees have lawful rows
trees_lawful : (f : Forest) → LawfulF f → Each Lawful (trees f)
trees_lawful (one t) w = each_one Lawful t w
trees_lawful (more t ts) w = each_cons Lawful t (trees ts) w.0 (trees_lawful ts w.1)

children_lawful : (x : Tree) → Lawful x → Each Lawful (children x)
children_lawful (ended s) w = each_none Lawful
children_lawful (branch ls rs) w = each_append Lawful (trees ls) (trees rs) (trees_lawful ls w.2) (trees_lawful rs w.3)

pub rows_lawful : (t : Tree) → Lawful t → (k : ℕ) → k < size t → Lawful (row t k)
rows_lawful t w k h = everywhere Lawful children_lawful (omega (arith, ints), omega (arith, ints)) t w k h
