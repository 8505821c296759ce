-- Lists: places, moves, sums and the greatest of a list.
use Rattle.std.proofs.Common.{◌≡◌, ◌+◌, ◌⊎◌, List, [], ◌∷◌, ◌++◌, map, ℤ, ◌+ℤ◌, ◌≤ℤ◌, refl, ap, ◌∙◌, inl, inr, arith}
use borrow.Author.Differences.{ints}
use Rattle.std.proofs.lemmas.Int.{clamps}
use Rattle.terms.specs.declared.side.Side.{Side}
use Rattle.theory.specs.Trees.{Tree, height, options}
use Rattle.theory.specs.Sums.{Part, here, there, put, moves, sum_of, greatest, span, All}

pub sum_put : {x : Tree} {xs : List Tree} (f : Tree → ℤ) (p : Part x xs) (o : Tree)
    → (sum_of f (put p o) +ℤ f x) ≡ (sum_of f xs +ℤ f o)
sum_put {x} f (here {xs = xs}) o = omega (arith, ints)
sum_put f (there {y = y} p) o = omega (arith, ints, sum_put f p o)

pub span_put : {x : Tree} {xs : List Tree} (p : Part x xs) (o : Tree) → span (put p o) + height x ≡ span xs + height o
span_put {x} (here {xs = xs}) o = omega arith
span_put (there {y = y} p) o = omega (arith, span_put p o)

pub all_put : (P : Tree → Type 0) {x : Tree} {xs : List Tree} (p : Part x xs) (o : Tree) → P o → All P xs → All P (put p o)
all_put P here o q h = (q, h.1)
all_put P (there p) o q h = (h.0, all_put P p o q h.1)

pub all_at : (P : Tree → Type 0) {x : Tree} {xs : List Tree} → Part x xs → All P xs → P x
all_at P here h = h.0
all_at P (there p) h = all_at P p h.1

-- ---- the greatest
pub greatest_over : {A : Type 0} (f : A → ℤ) (x : A) (xs : List A) (y : A) → Part y (x ∷ xs) → f y ≤ℤ greatest f x xs
greatest_over f x [] y here = omega (arith, ints)
greatest_over f x [] y (there p) = elim p [ ]
greatest_over f x (z ∷ zs) y here = omega (arith, ints, clamps)
greatest_over f x (z ∷ zs) y (there p) = omega (arith, ints, clamps, greatest_over f z zs y p)

-- ---- moves
part_map : {A B : Type 0} (f : A → B) {x : A} {xs : List A} → Part x xs → Part (f x) (map f xs)
part_map f here = here
part_map f (there p) = there (part_map f p)

part_left : {A : Type 0} {x : A} {xs : List A} (ys : List A) → Part x xs → Part x (xs ++ ys)
part_left ys here = here
part_left ys (there p) = there (part_left ys p)

part_right : {A : Type 0} {x : A} {ys : List A} (xs : List A) → Part x ys → Part x (xs ++ ys)
part_right [] p = p
part_right (y ∷ xs) p = there (part_right xs p)

part_split : {A : Type 0} (xs ys : List A) {x : A} → Part x (xs ++ ys) → Part x xs ⊎ Part x ys
part_split [] ys p = inr p
part_split (y ∷ xs) ys here = inl here
part_split (y ∷ xs) ys (there p) = elim (part_split xs ys p) [ inl q ↦ inl (there q) | inr q ↦ inr q ]

unmap : {A B : Type 0} (f : A → B) (xs : List A) {y : B} → Part y (map f xs) → (x : A) × Part x xs × (y ≡ f x)
unmap f [] p = elim p [ ]
unmap f (x ∷ xs) here = (x, here, refl)
unmap f (x ∷ xs) (there p) = let (z, q, e) = unmap f xs p in (z, there q, e)

pub move : {x o : Tree} {xs : List Tree} (s : Side) (p : Part x xs) → Part o (options x s) → Part (put p o) (moves s xs)
move {x} s (here {xs = xs}) q = part_left (map (λ ys. x ∷ ys) (moves s xs)) (part_map (λ o. o ∷ xs) q)
move s (there {y = y} {xs = xs} p) q = part_right (map (λ o. o ∷ xs) (options y s)) (part_map (λ ys. y ∷ ys) (move s p q))

pub record Move (s : Side) (xs ys : List Tree) : Type 0 where
  pub from : Tree
  pub at : Part from xs
  pub to : Tree
  pub legal : Part to (options from s)
  pub gives : ys ≡ put at to

pub moved : (s : Side) (xs ys : List Tree) → Part ys (moves s xs) → Move s xs ys
moved s [] ys p = elim p [ ]
moved s (x ∷ xs) ys p =
    elim (part_split (map (λ o. o ∷ xs) (options x s)) (map (λ zs. x ∷ zs) (moves s xs)) p) [
      | inl q ↦ let (o, l, e) = unmap (λ o. o ∷ xs) (options x s) q in record { from = x; at = here; to = o; legal = l; gives = e }
      | inr q ↦
          let (zs, l, e) = unmap (λ zs. x ∷ zs) (moves s xs) q in
          let m = moved s xs zs l in
          record { from = m.from; at = there m.at; to = m.to; legal = m.legal; gives = e ∙ ap (λ zs. x ∷ zs) m.gives }
    ]
