-- How the rows grow: the codes of the positions found so far, and the rows that are written.
use Rattle.std.proofs.Common.{◌≡◌, ℕ, zero, suc, ◌+◌, ◌-◌, ◌<◌, ◌≤◌, ◌≢◌, List, [], ◌∷◌, ◌++◌, length, get_or, take, drop, set, Some, None, Option, sym, refl, ap, ◌∙◌, subst, append_assoc, le_of_suc-le-suc, not-suc-le-zero, arith, length-append, length-drop}
use native.Mathlib.Decide.{dec_lt}
use borrow.Rule.Slice.PartMut.{put_mid, post_of}
use Rattle.std.proofs.lemmas.List.{get_or-append_right, get_or-take, length-take, get_or_append_left, get_or_at, get_or-set_same, get_or-set_other, take_more, length-take-le, length_push, drop-drop, drop-set-lt}
use Rattle.terms.specs.declared.side.Side.{Side}
use Rattle.terms.specs.declared.side.Side.TheVariants.{Left, Right}
use Rattle.theory.specs.Trees.{Tree, options, at, size}
use Rattle.rules.specs.Meaning.{options_in}
use Rattle.spreading.specs.Order.{none, grown, row, first}
use Rattle.spreading.specs.Shapes.{blank, shape_of, shape_at, shapes_of, count_of, Stand, SpreadInto}
use Rattle.spreading.specs.declared.shape.Shape.{Shape}
use Rattle.spreading.proofs.Rows.{kept, within, grown_next, first_next, finished}
use Rattle.spreading.proofs.Shapes.{RowsOf, all_rows, count_is}

pub stand_push : (tree : ℕ → Option Tree) (codes : List ℕ) (xs : List Tree) (n c : ℕ) (x : Tree) → length xs ≡ n → n < length codes → tree c ≡ Some x → Stand tree codes xs → Stand tree (set codes n c) (xs ++ (x ∷ []))
stand_push tree codes xs n c x len room e h k lt =
    elim (dec_lt k n) [
      | yes p ↦
          let ne : k ≢ n = omega arith in
          ap tree (get_or-set_other codes n k c 0 ne) ∙ h k (omega arith) ∙ ap (λ z. Some z) (sym (get_or_append_left xs (x ∷ []) none k (omega arith)))
      | no q ↦
          let same : n ≡ k = omega (arith, length_push xs x) in
          subst (λ j. tree (get_or (set codes n c) j 0) ≡ Some (get_or (xs ++ (x ∷ [])) j none)) same
          (ap tree (get_or-set_same codes n c 0 room) ∙ e ∙ ap (λ z. Some z) (sym (get_or_at xs x [] none n len)))
    ]

at_there : (ms : List Tree) (k : ℕ) → k < length ms → at ms k ≡ Some (get_or ms k none)
at_there [] k h = absurd (not-suc-le-zero h)
at_there (m ∷ ms) zero h = refl
at_there (m ∷ ms) (suc k) h = at_there ms k (le_of_suc-le-suc h)

-- option k is there, so its code is given
pub not_missing : (tree : ℕ → Option Tree) (code : ℕ) (x : Tree) (s : Side) (k : ℕ) → tree code ≡ Some x → k < length (options x s) → at (options_in (tree code) s) k ≡ None → ⊥
not_missing tree code x s k is lt e =
    let asked = ap (λ o. at (options_in o s) k) is in
    let there = at_there (options x s) k lt in
    let z : ◌≡◌ {A = ℕ} 0 1 = cc in
    omega arith

-- one more option's code behind those that stand
pub stand_more : (tree : ℕ → Option Tree) (code : ℕ) (codes : List ℕ) (x : Tree) (s : Side) (k c : ℕ)
    → tree code ≡ Some x → k < length (options x s) → k < length codes → tree c ≡ at (options_in (tree code) s) k
    → Stand tree codes (take k (options x s)) → Stand tree (set codes k c) (take (k + 1) (options x s))
stand_more tree code codes x s k c is lt room e h =
    let ms = options x s in
    let named : tree c ≡ Some (get_or ms k none) = e ∙ ap (λ o. at (options_in o s) k) is ∙ at_there ms k lt in
    subst (λ l. Stand tree (set codes k c) l) (sym (take_more ms k none lt))
    (stand_push tree codes (take k ms) k c (get_or ms k none) (length-take-le k ms (omega arith)) room named h)

-- a part of the scratch, and the codes written in it, behind those that stand
pub part_length : (codes : List ℕ) (n to : ℕ) → to ≤ length codes → length (take (to - n) (drop n codes)) ≡ to - n
part_length codes n to room = omega (arith, length-take (to - n) (drop n codes), length-drop n codes)

pub stand_behind : (tree : ℕ → Option Tree) (codes places : List ℕ) (xs ys : List Tree) (n k : ℕ) → length xs ≡ n → n ≤ length codes → length places ≡ length ys
    → Stand tree codes xs → Stand tree places ys → Stand tree (put_mid n k codes places) (xs ++ ys)
stand_behind tree codes places xs ys n k at room many h g j lt =
    let front : length (take n codes) ≡ n = length-take-le n codes room in
    let rest = post_of n k codes in
    elim (dec_lt j n) [
      | yes p ↦
          ap tree (get_or_append_left (take n codes) (places ++ rest) 0 j (omega arith) ∙ get_or-take n codes j 0 p) ∙ h j (omega arith)
          ∙ ap (λ z. Some z) (sym (get_or_append_left xs ys none j (omega arith)))
      | no q ↦
          let few : j - n < length ys = omega (arith, length-append xs ys) in
          ap tree (get_or-append_right (take n codes) (places ++ rest) n j 0 front (omega arith) ∙ get_or_append_left places rest 0 (j - n) (omega arith)) ∙ g (j - n) few
          ∙ ap (λ z. Some z) (sym (get_or-append_right xs ys n j none at (omega arith)))
    ]

-- midway: i rows are written, and n positions are found
pub record Growing (tree : ℕ → Option Tree) (t : Tree) (i n : ℕ) (codes : List ℕ) (rows : List Shape) : Type 0 where
  pub begun : i ≤ n
  pub there : n ≡ first t i
  pub standing : Stand tree codes (grown t i)
  pub done : RowsOf t i rows

pub grown_start : (tree : ℕ → Option Tree) (t : Tree) (codes : List ℕ) (c : ℕ) (rows : List Shape) → 0 < length codes → tree c ≡ Some t → Growing tree t 0 1 (set codes 0 c) rows
unfolding grown
grown_start tree t codes c rows room e = record {
  begun = omega arith;
  there = refl;
  standing = stand_push tree codes [] 0 c t refl room e (λ k h. absurd (not-suc-le-zero h));
  done = λ k h. absurd (not-suc-le-zero h);
}

one_more : (t : Tree) (i n : ℕ) (rows : List Shape) (new : Shape) (x : Tree) → i < length rows → row t i ≡ x → n ≡ first t i → new ≡ shape_of n x → RowsOf t i rows → RowsOf t (i + 1) (set rows i new)
one_more t i n rows new x room same there is old k h =
    elim (dec_lt k i) [
      | yes p ↦ let ne : k ≢ i = omega arith in get_or-set_other rows i k new blank ne ∙ old k p
      | no q ↦
          let at_i : i ≡ k = omega arith in
          subst (λ j. get_or (set rows i new) j blank ≡ shape_at t j) at_i
          (get_or-set_same rows i new blank room ∙ is ∙ ap (λ m. shape_of m x) there ∙ ap (λ y. shape_of (first t i) y) (sym same))
    ]

-- what row i, whose code is c and whose shape is given, says of the positions found after it
pub record Next (tree : ℕ → Option Tree) (t : Tree) (i n c : ℕ) (new : Shape) : Type 0 where
  pub here : i < first t i
  pub is : tree c ≡ Some (get_or (grown t i) i none)
  pub shape : new ≡ shape_of n (get_or (grown t i) i none)
  pub lefts : count_of new Left ≡ length (options (get_or (grown t i) i none) Left)
  pub rights : count_of new Right ≡ length (options (get_or (grown t i) i none) Right)
  pub wide : n + count_of new Left + count_of new Right ≡ first t (suc i)

pub next_row : (tree : ℕ → Option Tree) (t : Tree) (i n : ℕ) (codes : List ℕ) (rows : List Shape) (new : Shape)
    → i < n → Growing tree t i n codes rows
    → ((x : Tree) → tree (get_or codes i 0) ≡ Some x → new ≡ shape_of n x)
    → Next tree t i n (get_or codes i 0) new
next_row tree t i n codes rows new lt old answer =
    let x = get_or (grown t i) i none in
    let here : i < first t i = omega (arith, old.there) in
    let is : tree (get_or codes i 0) ≡ Some x = old.standing i here in
    let shape : new ≡ shape_of n x = answer x is in
    let lefts : count_of new Left ≡ length (options x Left) = ap (λ (z : Shape). count_of z Left) shape ∙ count_is n x Left in
    let rights : count_of new Right ≡ length (options x Right) = ap (λ (z : Shape). count_of z Right) shape ∙ count_is n x Right in
    record {
      here = here;
      is = is;
      shape = shape;
      lefts = lefts;
      rights = rights;
      wide = omega (arith, first_next t i, length-append (options x Left) (options x Right), old.there);
    }

-- one row done: the codes of its options stand behind the others, and its shape is written
pub grown_step : (tree : ℕ → Option Tree) (t : Tree) (i n to : ℕ) (codes codes' codes'' : List ℕ) (rows : List Shape) (new : Shape)
    → i < n → i < length rows → to ≡ n + count_of new Left + count_of new Right → Growing tree t i n codes rows
    → ((x : Tree) → tree (get_or codes i 0) ≡ Some x → new ≡ shape_of n x)
    → ((x : Tree) (xs : List Tree) → tree (get_or codes i 0) ≡ Some x → count_of new Left ≡ length (options x Left) → length xs ≡ n → Stand tree codes xs → Stand tree codes' (xs ++ options x Left))
    → ((x : Tree) (xs : List Tree) → tree (get_or codes i 0) ≡ Some x → count_of new Right ≡ length (options x Right) → length xs ≡ n + count_of new Left → Stand tree codes' xs → Stand tree codes'' (xs ++ options x Right))
    → Growing tree t (i + 1) to codes'' (set rows i new)
grown_step tree t i n to codes codes' codes'' rows new lt room found old answer left right =
    let x = get_or (grown t i) i none in
    let next = next_row tree t i n codes rows new lt old answer in
    let in_tree : first t i ≤ size t = within t i (omega (arith, next.here)) in
    let one_side = left x (grown t i) next.is next.lefts (sym old.there) old.standing in
    let wide : length (grown t i ++ options x Left) ≡ n + count_of new Left = length-append (grown t i) (options x Left) ∙ omega (arith, old.there, next.lefts) in
    let both = right x (grown t i ++ options x Left) next.is next.rights wide one_side in
    let all : (grown t i ++ options x Left) ++ options x Right ≡ grown t (suc i) = append_assoc (grown t i) (options x Left) (options x Right) ∙ sym (grown_next t i) in
    let up : suc i ≡ i + 1 = omega arith in
    record {
      begun = omega (arith, found, old.begun);
      there = found ∙ subst (λ j. n + count_of new Left + count_of new Right ≡ first t j) up next.wide;
      standing = subst (λ j. Stand tree codes'' (grown t j)) up (subst (λ xs. Stand tree codes'' xs) all both);
      done = one_more t i n rows new x room (kept t i i (omega (arith, next.here)) next.here) old.there next.shape old.done;
    }

-- more rows than are free: the tree has more positions
pub grown_over : (tree : ℕ → Option Tree) (t : Tree) (i n free : ℕ) (codes : List ℕ) (rows : List Shape) (new : Shape)
    → i < n → Growing tree t i n codes rows
    → ((x : Tree) → tree (get_or codes i 0) ≡ Some x → new ≡ shape_of n x)
    → free < n + count_of new Left + count_of new Right → free < size t
grown_over tree t i n free codes rows new lt old answer over =
    let next = next_row tree t i n codes rows new lt old answer in
    let most : first t (suc i) ≤ size t = within t (suc i) (omega (arith, next.wide)) in
    omega (arith, next.wide)

-- each row found is written: these are all
pub grown_end : (tree : ℕ → Option Tree) (t : Tree) (i n : ℕ) (codes : List ℕ) (free rows : List Shape)
    → n ≤ i → n ≤ length free → length rows ≡ length free → Growing tree t i n codes rows → drop i rows ≡ drop i free → SpreadInto t free (Some n) rows
grown_end tree t i n codes free rows all few long old same =
    let there : i ≡ n = omega (arith, old.begun) in
    let whole : size t ≡ i = finished t i (omega (arith, old.there)) in
    let kept : drop n rows ≡ drop n free = subst (λ j. drop j rows ≡ drop j free) there same in
    (omega arith, few, all_rows t n rows (omega arith) (omega arith) (λ k h. old.done k (omega arith)) ∙ ap (λ l. shapes_of t ++ l) kept)

-- a write at row i leaves what is behind it
pub same_behind : (free rows : List Shape) (i : ℕ) (new : Shape) → drop i rows ≡ drop i free → drop (i + 1) (set rows i new) ≡ drop (i + 1) free
same_behind free rows i new h =
    drop-set-lt (i + 1) rows i new (omega arith) ∙ sym (drop-drop 1 i rows) ∙ ap (drop 1) h ∙ drop-drop 1 i free
