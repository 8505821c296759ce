-- The trees of the rows of a good tree: what they are, that no others agree with the rows, and that they are lawful.
use Rattle.std.proofs.Common.{◌≡◌, ℕ, zero, suc, ◌+◌, ◌-◌, ◌<◌, ◌≤◌, List, [], ◌∷◌, map, length, pos, Some, sym, refl, ap, ◌∙◌, ap₂, arith}
use Rattle.std.specs.List.{AllByRecursion}
use Rattle.std.proofs.lemmas.List.{length-map}
use Rattle.std.proofs.lemmas.Int.{ints}
use Rattle.terms.specs.declared.side.Side.{Side}
use Rattle.terms.specs.declared.side.Side.TheVariants.{Left, Right}
use Rattle.terms.specs.Sides.{pick}
use Rattle.theory.specs.Limits.{option_limit}
use Rattle.theory.specs.Trees.{Tree, options, at, Score, Lawful}
use Rattle.rules.specs.Positions.{position}
use Rattle.rules.proofs.Options.{map_same, all_map, same_tree}
use Rattle.rules.proofs.Positions.{options_open, lawful_position}
use Rattle.trees.specs.WrittenLemmas.{Above}
use Rattle.lines.specs.Reading.{Along}
use Rattle.tree_text.specs.Rows.{Place, Row, leaf, fork, behind, after_row, top, GoodLinks, GoodRow, GoodTree}
use Rattle.meanings.specs.Meaning.{row_of, row_tree, tree_within, tree_of}
use Rattle.meanings.specs.Laws.{Says, Agrees, RowsAsSaid}

-- what is asked of a row's list: some rows, not too many, and each after the row
abbrev pub Listed : ℕ → ℕ → List ℕ → Type 0
Listed own end xs = (0 < length xs) × (length xs ≤ option_limit) × AllByRecursion (Above own end) xs

abbrev pub Fits : ℕ → ℕ → Row → Type 0
Fits own end (leaf z) = Score z
Fits own end (fork left right) = Listed own end left × Listed own end right

above_from : (own last end : ℕ) (xs : List ℕ) → last < end → AllByRecursion (λ x. x ≤ last) xs → AllByRecursion (λ x. own < x) xs → AllByRecursion (Above own end) xs
above_from own last end [] h a b = tt
above_from own last end (x ∷ xs) h a b =
    let p = a.0 in let q = b.0 in ((q, omega arith), above_from own last end xs h a.1 b.1)

listed : (last room end own : ℕ) (p : Place) (xs : List ℕ) → last < end → p.row ≡ own → GoodLinks last room p xs → Listed own end xs
listed last room end own p xs h e g =
    (g.0, g.1, rw (sym e) (above_from p.row last end xs h g.2 g.3))

fits_first : (last room end own : ℕ) (p : Place) (r : Row) → last < end → p.row ≡ own → GoodRow last room p r → Fits own end r
fits_first last room end own p (leaf z) h e g = g
fits_first last room end own p (fork left right) h e g =
    (listed last room end own p left h e g.0, listed last room end own (behind p left) right h e g.1)

fits_from : (last room end own : ℕ) (p : Place) (rows : List Row) (i : ℕ) → last < end → p.row + i ≡ own → Along (GoodRow last room) after_row p rows → Fits own end (row_of rows i)
fits_from last room end own p [] i h e g = (omega (arith, ints), omega (arith, ints))
fits_from last room end own p (r ∷ rows) zero h e g = fits_first last room end own p r h (omega arith) g.0
fits_from last room end own p (r ∷ rows) (suc i) h e g = fits_from last room end own (after_row p r) rows i h (omega arith) g.1

pub fits : (lent room : ℕ) (rows : List Row) → GoodTree lent room rows → (i : ℕ) → Fits i (length rows) (row_of rows i)
fits lent room rows g i =
    let some = g.0.0 in
    fits_from (length rows - 1) room (length rows) i top rows i (omega arith) (omega arith) g.1

-- what stands at a place
at_within : (rows : List Row) (i : ℕ) → i < length rows → at rows i ≡ Some (row_of rows i)
at_within [] i h = absurd (omega arith)
at_within (r ∷ rows) zero h = refl
at_within (r ∷ rows) (suc i) h = at_within rows i (omega arith)

at_is : (rows : List Row) (i : ℕ) (r : Row) → at rows i ≡ Some r → row_of rows i ≡ r
at_is [] i r e = let z : ◌≡◌ {A = ℕ} 0 1 = cc in absurd (omega arith)
at_is (x ∷ rows) zero r e = cc
at_is (x ∷ rows) (suc i) r e = at_is rows i r e

-- one row, given the trees of the rows
module _ (own end : ℕ) where
  same_row : (f g : ℕ → Tree) (r : Row) → Fits own end r → ((k : ℕ) → Above own end k → f k ≡ g k) → row_tree f r ≡ row_tree g r
  same_row f g (leaf z) h same = refl
  same_row f g (fork left right) h same =
      ap₂ (position (pos 0)) (map_same f g (Above own end) same left h.0.2) (map_same f g (Above own end) same right h.1.2)

  some_mapped : (f : ℕ → Tree) (xs : List ℕ) → Listed own end xs → 0 < length (map f xs)
  some_mapped f xs h = let some = h.0 in omega (arith, length-map xs f)

  pick_map : (f : ℕ → Tree) (left right : List ℕ) (s : Side) → pick s (map f left) (map f right) ≡ map f (pick s left right)
  pick_map f left right Left = refl
  pick_map f left right Right = refl

  row_options : (f : ℕ → Tree) (left right : List ℕ) (s : Side) → Fits own end (fork left right) → options (row_tree f (fork left right)) s ≡ map f (pick s left right)
  row_options f left right s h =
      options_open (pos 0) (map f left) (map f right) s (some_mapped f left h.0) (some_mapped f right h.1) ∙ pick_map f left right s

  row_says : (f : ℕ → Tree) (x : Tree) (r : Row) → Fits own end r → x ≡ row_tree f r → Says f x r
  row_says f x (leaf z) h e = e
  row_says f x (fork left right) h e = λ s. ap (λ t. options t s) e ∙ row_options f left right s h

  row_said : (f : ℕ → Tree) (x : Tree) (r : Row) → Fits own end r → Says f x r → x ≡ row_tree f r
  row_said f x (leaf z) h e = e
  row_said f x (fork left right) h e =
      let y = row_tree f (fork left right) in
      let by : (s : Side) → options x s ≡ options y s = λ s. e s ∙ sym (row_options f left right s h) in
      let some : 0 < length (options y Left) = rw (row_options f left right Left h) (some_mapped f left h.0) in
      same_tree x y (by Left) (by Right) some

  row_lawful : (f : ℕ → Tree) (r : Row) → Fits own end r → ((k : ℕ) → Lawful (f k)) → Lawful (row_tree f r)
  row_lawful f (leaf z) h l = h
  row_lawful f (fork left right) h l =
      let a = h.0.1 in
      let b = h.1.1 in
      lawful_position (pos 0) (map f left) (map f right) (omega (arith, ints), omega (arith, ints)) (omega (arith, length-map left f)) (omega (arith, length-map right f)) (all_map Lawful f l left) (all_map Lawful f l right)

-- all rows
module _ (rows : List Row) (fit : (i : ℕ) → Fits i (length rows) (row_of rows i)) where
  abbrev within : ℕ → ℕ → Tree
  within n = tree_within n rows

  step : (n i : ℕ) → within (suc n) i ≡ row_tree (within n) (row_of rows i)
  unfolding tree_within
  step n i = refl

  -- looking deeper than there are rows changes nothing
  deeper : (m n i : ℕ) → i < length rows → length rows ≤ m + i → length rows ≤ n + i → within m i ≡ within n i
  deeper zero n i h p q = absurd (omega arith)
  deeper (suc m) zero i h p q = absurd (omega arith)
  deeper (suc m) (suc n) i h p q =
      step m i ∙ same_row i (length rows) (within m) (within n) (row_of rows i) (fit i) (λ k a. deeper m n k a.1 (omega arith) (omega arith)) ∙ sym (step n i)

  unfold_by : (n i : ℕ) → 0 < n → length rows ≤ n → within n i ≡ row_tree (within n) (row_of rows i)
  unfold_by zero i some h = absurd (omega arith)
  unfold_by (suc n) i some h =
      step n i ∙ same_row i (length rows) (within n) (within (suc n)) (row_of rows i) (fit i) (λ k a. deeper n (suc n) k a.1 (omega arith) (omega arith))

  -- the tree of a row is what the row says
  pub unfold_row : 0 < length rows → (i : ℕ) → tree_of rows i ≡ row_tree (tree_of rows) (row_of rows i)
  unfold_row some i = unfold_by (length rows) i some (omega arith)

  pub says : 0 < length rows → (i : ℕ) → Says (tree_of rows) (tree_of rows i) (row_of rows i)
  says some i = row_says i (length rows) (tree_of rows) (tree_of rows i) (row_of rows i) (fit i) (unfold_row some i)

  only : 0 < length rows → (trees : ℕ → Tree) → Agrees rows trees → (n i : ℕ) → length rows ≤ n + i → i < length rows → trees i ≡ tree_of rows i
  only some trees agrees zero i p h = absurd (omega arith)
  only some trees agrees (suc n) i p h =
      row_said i (length rows) trees (trees i) (row_of rows i) (fit i) (agrees i (row_of rows i) (at_within rows i h))
      ∙ same_row i (length rows) trees (tree_of rows) (row_of rows i) (fit i) (λ k a. only some trees agrees n k (omega arith) a.1)
      ∙ sym (unfold_row some i)

  lawful_within : (n i : ℕ) → Lawful (within n i)
  lawful_within zero i = unfold tree_within in (omega (arith, ints), omega (arith, ints))
  lawful_within (suc n) i = rw (step n i) (row_lawful i (length rows) (within n) (row_of rows i) (fit i) (lawful_within n))

  pub lawful : (i : ℕ) → Lawful (tree_of rows i)
  lawful i = lawful_within (length rows) i

pub rows_as_said_lem : RowsAsSaid
rows_as_said_lem lent room rows good = (
  λ i r e. rw (sym (at_is rows i r e)) (says rows (fits lent room rows good) good.0.0 i),
  λ trees agrees i h. only rows (fits lent room rows good) good.0.0 trees agrees (length rows) i (omega arith) h,
)
