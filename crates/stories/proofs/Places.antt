-- Lists by number, and the first of the greatest.
use Rattle.std.proofs.Common.{◌≡◌, ℕ, zero, suc, ◌<◌, ◌⊎◌, List, [], ◌∷◌, set, ℤ, ◌≤ℤ◌, ◌<ℤ◌, Some, None, Ok, Err, Option, Result, sym, refl, ap, subst, inl, inr, arith}
use borrow.Author.Differences.{ints}
use Rattle.std.proofs.lemmas.Int.{by_lt_z}
use Rattle.theory.specs.Trees.{at}
use Rattle.theory.specs.Sums.{Part, here, there, put}
use Rattle.stories.specs.Game.{First}

-- ---- constructors apart
abbrev Full : {A : Type 0} → Option A → Type 0
Full None = ⊥
Full (Some x) = Unit {0}

pub none_some : {A : Type 0} {P : Type 0} (x : A) → None ≡ Some x → P
none_some x e = absurd (subst Full (sym e) tt)

abbrev or : {A : Type 0} → A → Option A → A
or z None = z
or z (Some x) = x

pub some_same : {A : Type 0} (x y : A) → Some x ≡ Some y → x ≡ y
some_same x y e = ap (or x) e

abbrev Good : {A E : Type 0} → Result A E → Type 0
Good (Err n) = ⊥
Good (Ok x) = Unit {0}

pub err_ok : {A E : Type 0} {P : Type 0} (n : E) (x : A) → ◌≡◌ {A = Result A E} (Err n) (Ok x) → P
err_ok n x e = absurd (subst Good (sym e) tt)

abbrev ok_or : {A E : Type 0} → A → Result A E → A
ok_or z (Err n) = z
ok_or z (Ok x) = x

pub ok_same : {A E : Type 0} (x y : A) → ◌≡◌ {A = Result A E} (Ok x) (Ok y) → x ≡ y
ok_same x y e = ap (ok_or x) e

-- ---- places
pub record Place {A : Type 0} (xs : List A) (p : ℕ) (x : A) : Type 0 where
  pub part : Part x xs
  pub sets : (o : A) → put part o ≡ set xs p o

pub place : {A : Type 0} (xs : List A) (p : ℕ) (x : A) → at xs p ≡ Some x → Place xs p x
place [] p x e = none_some x e
place (y ∷ xs) zero x e = subst (λ z. Place (y ∷ xs) zero z) (some_same y x e) (record { part = here; sets = λ o. refl })
place (y ∷ xs) (suc p) x e =
    let r = place xs p x e in record { part = there r.part; sets = λ o. ap (λ zs. y ∷ zs) (r.sets o) }

pub number : {A : Type 0} {x : A} {xs : List A} → Part x xs → (j : ℕ) × (at xs j ≡ Some x)
number here = (zero, refl)
number (there q) = let (j, e) = number q in (suc j, e)

pub at_set : {A : Type 0} (xs : List A) (p : ℕ) (x o : A) → at xs p ≡ Some x → at (set xs p o) p ≡ Some o
at_set [] p x o e = none_some x e
at_set (y ∷ xs) zero x o e = refl
at_set (y ∷ xs) (suc p) x o e = at_set xs p x o e

-- ---- the first of the greatest
module _ {A : Type 0} (C : A → Type 0) (f : A → ℤ) where
  head_most : (x : A) (xs : List A) → ((q : ℕ) (y : A) → at xs q ≡ Some y → C y → f y ≤ℤ f x)
      → (q : ℕ) (y : A) → at (x ∷ xs) q ≡ Some y → C y → f y ≤ℤ f x
  head_most x xs h zero y e c = subst (λ z. f z ≤ℤ f x) (some_same x y e) (omega (arith, ints))
  head_most x xs h (suc q) y e c = h q y e c

  pub head_first : (x : A) (xs : List A) → C x → ((q : ℕ) (y : A) → at xs q ≡ Some y → C y → f y ≤ℤ f x) → First C f (x ∷ xs) zero
  head_first x xs c h = record {
    item = x;
    there = refl;
    counts = c;
    most = head_most x xs h;
    lowest = λ q y e d l. absurd (omega arith);
  }

  tail_most : (x : A) (xs : List A) (p : ℕ) (F : First C f xs p) → (C x → f x <ℤ f F.item)
      → (q : ℕ) (y : A) → at (x ∷ xs) q ≡ Some y → C y → f y ≤ℤ f F.item
  tail_most x xs p F h zero y e c =
      let l : f y <ℤ f F.item = subst (λ z. C z → f z <ℤ f F.item) (some_same x y e) h c in omega (arith, ints)
  tail_most x xs p F h (suc q) y e c = F.most q y e c

  tail_lowest : (x : A) (xs : List A) (p : ℕ) (F : First C f xs p) → (C x → f x <ℤ f F.item)
      → (q : ℕ) (y : A) → at (x ∷ xs) q ≡ Some y → C y → q < suc p → f y <ℤ f F.item
  tail_lowest x xs p F h zero y e c l = subst (λ z. C z → f z <ℤ f F.item) (some_same x y e) h c
  tail_lowest x xs p F h (suc q) y e c l = F.lowest q y e c (omega arith)

  tail_first : (x : A) (xs : List A) (p : ℕ) (F : First C f xs p) → (C x → f x <ℤ f F.item) → First C f (x ∷ xs) (suc p)
  tail_first x xs p F h = record {
    item = F.item;
    there = F.there;
    counts = F.counts;
    most = tail_most x xs p F h;
    lowest = tail_lowest x xs p F h;
  }

  abbrev Nothing : List A → Type 0
  Nothing xs = (y : A) → Part y xs → C y → ⊥

  lead : (x : A) (xs : List A) → C x ⊎ (C x → ⊥) → Nothing xs ⊎ ((p : ℕ) × First C f xs p)
      → Nothing (x ∷ xs) ⊎ ((p : ℕ) × First C f (x ∷ xs) p)
  lead x xs (inl c) (inl n) = inr (zero, head_first x xs c (λ q y e d. absurd (n y (place xs q y e).part d)))
  lead x xs (inl c) (inr (p, F)) =
      by_lt_z (f x) (f F.item) (λ h. inr (suc p, tail_first x xs p F (λ _. h)))
      (λ h. inr (zero, head_first x xs c (λ q y e d. omega (arith, ints, F.most q y e d))))
  lead x xs (inr n) (inl m) = inl (nothing n m)
    where
      nothing : (C x → ⊥) → Nothing xs → (y : A) → Part y (x ∷ xs) → C y → ⊥
      nothing n m y here c = n c
      nothing n m y (there q) c = m y q c
  lead x xs (inr n) (inr (p, F)) = inr (suc p, tail_first x xs p F (λ c. absurd (n c)))

  pub leader : ((x : A) → C x ⊎ (C x → ⊥)) → (xs : List A) → Nothing xs ⊎ ((p : ℕ) × First C f xs p)
  leader dec [] = inl (λ y q c. elim q [ ])
  leader dec (x ∷ xs) = lead x xs (dec x) (leader dec xs)

  -- some counts
  pub leads : ((x : A) → C x ⊎ (C x → ⊥)) → (xs : List A) (x : A) → Part x xs → C x → (p : ℕ) × First C f xs p
  leads dec xs x q c = elim (leader dec xs) [ inl n ↦ absurd (n x q c) | inr r ↦ r ]
