-- A pass over the rows of a tree from the last one up. A row's options stand behind it, so what a pass keeps of them is at hand when it comes to the row.
--
-- A pass says by N k x that what it keeps for row k is right for the position x. Its loop goes from the last row to the first with the invariant Noted N t i, and it has to supply
-- · that a turn at row i keeps what N says of the rows behind it (behind, in noted_more),
-- · that after it N holds of row i, from what options_noted gives of each side's options.
-- The invariant then begins with noted_none and ends with noted_root.
use Rattle.std.proofs.Common.{◌≡◌, ℕ, suc, ◌+◌, ◌<◌, ◌≤◌, ◌≢◌, List, [], ◌∷◌, ◌++◌, length, get_or, set, sym, refl, ap, ◌∙◌, subst, append_assoc, arith, length-append}
use native.Mathlib.Decide.{dec_lt}
use Rattle.std.proofs.lemmas.List.{get_or-set_same, get_or-set_other, get_or_at, append-nil, length_push}
use Rattle.terms.specs.declared.side.Side.{Side}
use Rattle.theory.specs.Trees.{Tree, options, size}
use Rattle.spreading.specs.Order.{children, none, row, first}
use Rattle.spreading.specs.Shapes.{blank, shape_at, shapes_of, start_of}
use Rattle.spreading.specs.declared.shape.Shape.{Shape}
use Rattle.spreading.proofs.Rows.{child_row, children_inside, first_behind, row_zero, size_children}
use Rattle.spreading.proofs.Shapes.{length_shapes, read_shape, child_of}

-- rows i and later have been noted
abbrev pub Noted : (ℕ → Tree → Type 0) → Tree → ℕ → Type 0
Noted N t i = (k : ℕ) → i ≤ k → k < size t → N k (row t k)

pub noted_none : (N : ℕ → Tree → Type 0) (t : Tree) (i : ℕ) → size t ≤ i → Noted N t i
noted_none N t i h k ge lt = absurd (omega arith)

-- the options of row i, of both sides
pub children_noted : (N : ℕ → Tree → Type 0) (t : Tree) (i : ℕ) → i < size t → Noted N t (suc i)
    → (j : ℕ) → j < length (children (row t i)) → N (first t i + j) (get_or (children (row t i)) j none)
children_noted N t i lt h j few =
    subst (N (first t i + j)) (child_row t i j lt few) (h (first t i + j) (omega (arith, first_behind t i lt)) (omega (arith, children_inside t i lt)))

-- the options of row i, of one side
pub options_noted : (N : ℕ → Tree → Type 0) (t : Tree) (i : ℕ) → i < size t → Noted N t (suc i)
    → (s : Side) (k : ℕ) → k < length (options (row t i) s) → N (start_of (shape_at t i) s + k) (get_or (options (row t i) s) k none)
options_noted N t i lt h s k few =
    let c = child_of (first t i) (row t i) s k few in
    subst (λ n. N n (get_or (options (row t i) s) k none)) (sym c.1) (subst (N (first t i + c.0)) c.3 (children_noted N t i lt h c.0 c.2))

-- one row more
pub noted_more : (N N' : ℕ → Tree → Type 0) (t : Tree) (i : ℕ) → ((k : ℕ) (x : Tree) → i < k → N k x → N' k x) → N' i (row t i) → Noted N t (suc i) → Noted N' t i
noted_more N N' t i behind here h k ge lt =
    elim (dec_lt i k) [
      | yes p ↦ behind k (row t k) p (h k p lt)
      | no q ↦ let same : i ≡ k = omega arith in subst (λ j. N' j (row t j)) same here
    ]

pub noted_root : (N : ℕ → Tree → Type 0) (t : Tree) → Noted N t 0 → N 0 t
noted_root N t h = subst (N 0) (row_zero t) (h 0 (omega arith) (omega (arith, size_children t)))

-- A pass that keeps a figure of each row in a list.
abbrev pub Kept : {A : Type 0} → (Tree → A) → A → List A → ℕ → Tree → Type 0
Kept figure d kept k x = get_or kept k d ≡ figure x

-- one figure more is written at its row
pub kept_more : {A : Type 0} (figure : Tree → A) (d : A) (t : Tree) (i : ℕ) (kept : List A) (a : A) → i < length kept → a ≡ figure (row t i)
    → Noted (Kept figure d kept) t (suc i) → Noted (Kept figure d (set kept i a)) t i
kept_more figure d t i kept a room is h =
    noted_more (Kept figure d kept) (Kept figure d (set kept i a)) t i
    (λ k x lt e. let ne : k ≢ i = omega arith in get_or-set_other kept i k a d ne ∙ e)
    (get_or-set_same kept i a d room ∙ is) h

-- A loop over the rows with their numbers from the last up: what its iterator has left is the front of the list, and its last item is the row at hand.
abbrev pub Front : {A : Type 0} → List A → List A → Type 0
Front {A = A} xs rest = (later : List A) × (xs ≡ rest ++ later)

pub front_all : {A : Type 0} (xs : List A) → Front xs xs
front_all xs = ([], sym (append-nil xs))

pub front_turn : {A : Type 0} (xs rest rest' : List A) (x : A) → Front xs rest → rest ≡ rest' ++ (x ∷ [])
    → Front xs rest' × (length rest ≡ suc (length rest')) × (length rest' < length xs) × ((d : A) → get_or xs (length rest') d ≡ x)
front_turn xs rest rest' x front last =
    let later = front.0 in
    let cut : xs ≡ rest' ++ (x ∷ later) = front.1 ∙ ap (λ l. l ++ later) last ∙ append_assoc rest' (x ∷ []) later in (
      (x ∷ later, cut),
      omega (arith, ap length last, length_push rest' x),
      omega (arith, ap length cut, length-append rest' (x ∷ later)),
      λ d. ap (λ l. get_or l (length rest') d) cut ∙ get_or_at rest' x later d (length rest') refl,
    )

-- the turn at row i: it is a row of the tree, its shape is at hand, and the rows behind it are noted
pub row_turn : (N : ℕ → Tree → Type 0) (t : Tree) (i : ℕ) (shapes rest rest' : List Shape) (x : Shape)
    → Front shapes rest → rest ≡ rest' ++ (x ∷ []) → i ≡ length rest' → shapes ≡ shapes_of t → Noted N t (length rest)
    → (i < size t) × (x ≡ shape_at t i) × Noted N t (suc i)
row_turn N t i shapes rest rest' x front last at rows old =
    let turn = front_turn shapes rest rest' x front last in
    let here : i < size t = omega (arith, turn.2, ap length rows, length_shapes t) in (
      here,
      sym (turn.3 blank) ∙ ap (λ n. get_or shapes n blank) (sym at) ∙ read_shape t shapes i blank rows here,
      subst (λ n. Noted N t n) (omega (arith, turn.1)) old,
    )
