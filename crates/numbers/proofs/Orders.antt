-- Texts of numbers stand in the order of their numbers.
use Rattle.std.proofs.Common.{◌≡◌, ℕ, ◌+◌, ◌-◌, ◌*◌, ◌<◌, ◌≤◌, Bool, true, false, cond, ◌&&◌, ◌||◌, eqb, ltb, ◌⊎◌, List, [], ◌∷◌, length, Some, None, sym, refl, ap, ◌∙◌, subst, inl, inr, arith}
use Rattle.std.proofs.lemmas.Bool.{cases_order, lt-ltb, le-ltb, eqb-true, eqb-false, ne_eqb, eq-eqb}
use Rattle.std.specs.Cmp.{Some-then}
use Rattle.std.specs.Ordering.{is_some_and, is_lt, nat_cmp, ordering_then, partial_ordering_then}
use Rattle.std.specs.declared.cmp.Ordering.TheVariants.{Less, Equal, Greater}
use Rattle.std.specs.declared.cmp.Ordering.{Ordering}
use Rattle.std.specs.Cmp.Lexicographic.{slice_cmp, slice_partial_cmp, lists_agrees}
use Rattle.numbers.specs.Numbers.{digit, after, natural, lower, less_text}
use Rattle.numbers.specs.Laws.{Ordered}
use Rattle.numbers.proofs.Written.{none_some, digit_true}

-- the first digit and the rest
after_first : (n b : ℕ) (bs : List ℕ) (m : ℕ) → after n (b ∷ bs) ≡ Some m → (48 ≤ b) × (b ≤ 57) × (after (n * 10 + (b - 48)) bs ≡ Some m)
after_first n b bs m e = go (digit b) refl e
  where
    go : (t : Bool) → digit b ≡ t → cond t (after (n * 10 + (b - 48)) bs) None ≡ Some m → (48 ≤ b) × (b ≤ 57) × (after (n * 10 + (b - 48)) bs ≡ Some m)
    go true t e = let d = digit_true b t in (d.0, d.1, e)
    go false t e = none_some e

after_ge : (n : ℕ) (bs : List ℕ) (m : ℕ) → after n bs ≡ Some m → n ≤ m
after_ge n [] m e = let q : n ≡ m = cc in omega arith
after_ge n (b ∷ bs) m e = let f = after_first n b bs m e in omega (arith, after_ge (n * 10 + (b - 48)) bs m f.2)

-- what is behind stays behind, where no more digits follow it
after_less : (i j : ℕ) (xs ys : List ℕ) (m n : ℕ) → i < j → length xs ≤ length ys → after i xs ≡ Some m → after j ys ≡ Some n → m < n
after_less i j [] ys m n h l e f = let q : i ≡ m = cc in omega (arith, after_ge j ys n f)
after_less i j (x ∷ xs) [] m n h l e f = absurd (omega arith)
after_less i j (x ∷ xs) (y ∷ ys) m n h l e f =
    let a = after_first i x xs m e in
    let b = after_first j y ys n f in
    after_less (i * 10 + (x - 48)) (j * 10 + (y - 48)) xs ys m n (omega arith) (omega arith) a.2 b.2

same : (x y : ℕ) (b : Bool) → x ≡ y → (ltb x y || (eqb x y && b)) ≡ b
same x y b q = (λ i. le-ltb x y (omega arith) i || (eq-eqb x y q i && b))

first : (x y : ℕ) (b : Bool) → x < y → (ltb x y || (eqb x y && b)) ≡ true
first x y b q = ap (λ t. t || (eqb x y && b)) (lt-ltb x y q)

second : (x y : ℕ) (b : Bool) → y < x → (ltb x y || (eqb x y && b)) ≡ false
second x y b q = (λ i. le-ltb x y (omega arith) i || (ne_eqb x y (λ e. omega arith) i && b))

lower_is : (i : ℕ) (xs ys : List ℕ) (m n : ℕ) → length xs ≡ length ys → after i xs ≡ Some m → after i ys ≡ Some n → lower xs ys ≡ ltb m n
lower_is i [] [] m n l e f = let p : i ≡ m = cc in let q : i ≡ n = cc in sym (le-ltb m n (omega arith))
lower_is i [] (y ∷ ys) m n l e f = absurd (omega arith)
lower_is i (x ∷ xs) [] m n l e f = absurd (omega arith)
lower_is i (x ∷ xs) (y ∷ ys) m n l e f = go (cases_order x y) (after_first i x xs m e) (after_first i y ys n f) (λ a b. lower_is (i * 10 + (x - 48)) xs ys m n (omega arith) a b)
  where
    go : (x ≡ y) ⊎ ((x < y) ⊎ (y < x)) → (48 ≤ x) × (x ≤ 57) × (after (i * 10 + (x - 48)) xs ≡ Some m) → (48 ≤ y) × (y ≤ 57) × (after (i * 10 + (y - 48)) ys ≡ Some n) → (after (i * 10 + (x - 48)) xs ≡ Some m → after (i * 10 + (x - 48)) ys ≡ Some n → lower xs ys ≡ ltb m n) → (ltb x y || (eqb x y && lower xs ys)) ≡ ltb m n
    go (inl q) a b ih = let h = ih a.2 (subst (λ z. after (i * 10 + (z - 48)) ys ≡ Some n) (sym q) b.2) in same x y (lower xs ys) q ∙ h
    go (inr (inl q)) a b ih = first x y (lower xs ys) q ∙ sym (lt-ltb m n (after_less (i * 10 + (x - 48)) (i * 10 + (y - 48)) xs ys m n (omega arith) (omega arith) a.2 b.2))
    go (inr (inr q)) a b ih = second x y (lower xs ys) q ∙ sym (le-ltb m n (let k = after_less (i * 10 + (y - 48)) (i * 10 + (x - 48)) ys xs n m (omega arith) (omega arith) b.2 a.2 in omega arith))

natural_after : (xs : List ℕ) (m : ℕ) → natural xs ≡ Some m → after 0 xs ≡ Some m
natural_after [] m e = none_some e
natural_after (b ∷ []) m e = e
natural_after (b ∷ (c ∷ cs)) m e = go (eqb b 48) e
  where
    go : (t : Bool) → cond t None (after 0 (b ∷ (c ∷ cs))) ≡ Some m → after 0 (b ∷ (c ∷ cs)) ≡ Some m
    go true e = none_some e
    go false e = e

natural_some : (xs : List ℕ) (m : ℕ) → natural xs ≡ Some m → 0 < length xs
natural_some [] m e = none_some e
natural_some (x ∷ xs) m e = omega arith

shorter_less : (xs ys : List ℕ) (m n : ℕ) → natural xs ≡ Some m → natural ys ≡ Some n → length xs < length ys → m < n
shorter_less xs [] m n e f l = none_some f
shorter_less xs (y ∷ []) m n e f l = absurd (omega (arith, natural_some xs m e))
shorter_less xs (y ∷ (c ∷ cs)) m n e f l = go (eqb y 48) refl f
  where
    go : (t : Bool) → eqb y 48 ≡ t → cond t None (after 0 (y ∷ (c ∷ cs))) ≡ Some n → m < n
    go true t f = none_some f
    go false t f =
        let a = after_first 0 y (c ∷ cs) n f in
        let d = eqb-false y 48 t in
        let h : 48 < y = grind arith in
        after_less 0 (0 * 10 + (y - 48)) xs (c ∷ cs) m n (omega arith) (omega arith) (natural_after xs m e) a.2

pub ordered : Ordered
ordered xs ys m n e f = go (cases_order (length xs) (length ys))
  where
    go : (length xs ≡ length ys) ⊎ ((length xs < length ys) ⊎ (length ys < length xs)) → less_text xs ys ≡ ltb m n
    go (inl q) = same (length xs) (length ys) (lower xs ys) q ∙ lower_is 0 xs ys m n q (natural_after xs m e) (natural_after ys n f)
    go (inr (inl q)) = first (length xs) (length ys) (lower xs ys) q ∙ sym (lt-ltb m n (shorter_less xs ys m n e f q))
    go (inr (inr q)) = second (length xs) (length ys) (lower xs ys) q ∙ sym (le-ltb m n (let k = shorter_less ys xs n m f e q in omega arith))

-- what the library says of two pairs, by what it says of their seconds where their firsts are the same
then_first : (a b : Bool) (o : Ordering) (l : Bool) → (b ≡ true → is_lt o ≡ l) → is_lt (ordering_then (cond a Less (cond b Equal Greater)) o) ≡ (a || (b && l))
then_first true b o l h = refl
then_first false true o l h = h refl
then_first false false o l h = refl

-- of two texts as long as one another, the lower one stands first in the library's order of lists
lower_first : (xs ys : List ℕ) → length xs ≡ length ys → is_lt (slice_cmp nat_cmp xs ys) ≡ lower xs ys
lower_first [] [] e = refl
lower_first [] (y ∷ ys) e = absurd (omega arith)
lower_first (x ∷ xs) [] e = absurd (omega arith)
lower_first (x ∷ xs) (y ∷ ys) e = then_first (ltb x y) (eqb x y) (slice_cmp nat_cmp xs ys) (lower xs ys) (λ h. lower_first xs ys (omega arith))

-- the shorter text, or the lower of two as long, stands first in the library's order of pairs
pub lower_is_before : (xs ys : List ℕ) → is_lt (ordering_then (nat_cmp (length xs) (length ys)) (slice_cmp nat_cmp xs ys)) ≡ less_text xs ys
lower_is_before xs ys = then_first (ltb (length xs) (length ys)) (eqb (length xs) (length ys)) (slice_cmp nat_cmp xs ys) (lower xs ys) (λ h. lower_first xs ys (eqb-true (length xs) (length ys) h))

-- and by `<` as by `cmp`
pub lower_is_less : (xs ys : List ℕ) → is_some_and is_lt (partial_ordering_then (Some (nat_cmp (length xs) (length ys))) (slice_partial_cmp (λ x y. Some (nat_cmp x y)) xs ys)) ≡ less_text xs ys
lower_is_less xs ys = ap (λ o. is_some_and is_lt (partial_ordering_then (Some (nat_cmp (length xs) (length ys))) o)) (lists_agrees {R = nat_cmp} (λ x y. refl) xs ys) ∙ ap (is_some_and is_lt) (Some-then (nat_cmp (length xs) (length ys)) (slice_cmp nat_cmp xs ys)) ∙ lower_is_before xs ys
