-- The one list of trees that a bank holds, as a function of the bank, though its fields keep only that there is such a list.
-- H ts says that the columns are those of ts: rows alone (Holds), or rows with figures and corners beside them; Only H is what rows_tell_trees_lem gives.
use Rattle.std.proofs.Common.{◌≡◌, ℕ, List, refl, ap, arith}
use mathlib.Core.List.{is_set}
use mathlib.Core.Logic.{∥∥₁_elim, ∥∥₁_prop}
use mathlib.Core.HLevel.{Σ_prop_path, hedberg}
use lib.IntN.{ℤ_set, ℤ_discrete}
use native.Mathlib.Decide.{ℕ_discrete}
use Rattle.theory.specs.Trees.{Tree, Tree-set}
use Rattle.spreading.specs.declared.shape.Shape.{Shape}
use Rattle.spreading.specs.declared.shape.Shape.TheVariants.{Unused, Ended, Open}
use Rattle.spreading.specs.declared.shape.Fork.{Fork}

pub lists_set : IsSet (List Tree)
lists_set = is_set (Tree-set ℤ_set)

abbrev pub Only : (List Tree → Type 0) → Type 0
Only H = (ts us : List Tree) → H ts → H us → ts ≡ us

abbrev pub Content : (List Tree → Type 0) → Type 0
Content H = (ts : List Tree) × ∥ H ts ∥₁

one_content : (H : List Tree → Type 0) → Only H → IsProp (Content H)
one_content H only x y =
    Σ_prop_path {B = λ ts. ∥ H ts ∥₁} (λ ts. ∥∥₁_prop) {u = x} {v = y}
    (∥∥₁_elim x.1 (lists_set x.0 y.0) (λ h. ∥∥₁_elim y.1 (lists_set x.0 y.0) (λ g. only x.0 y.0 h g)))

pub content : (H : List Tree → Type 0) → Only H → ∥ ((ts : List Tree) × H ts) ∥₁ → Content H
content H only some = ∥∥₁_elim some (one_content H only) (λ p. (p.0, ∣ p.1 ∣₁))

pub content_is : (H : List Tree → Type 0) (only : Only H) (some : ∥ ((ts : List Tree) × H ts) ∥₁) (ts : List Tree) → H ts → (content H only some).0 ≡ ts
content_is H only some ts h =
    let c = content H only some in
    ∥∥₁_elim c.1 (lists_set c.0 ts) (λ g. only c.0 ts g h)

-- shapes are a set, so that equations between them follow from what a bank holds though only its existence is kept
same_fork : (x y : Fork) → Dec (x ≡ y)
same_fork x y =
    elim (ℕ_discrete x.first y.first) [
      | no n ↦ no (λ e. n (ap (λ (z : Fork). z.first) e))
      | yes p ↦
          elim (ℕ_discrete x.lefts y.lefts) [
            | no n ↦ no (λ e. n (ap (λ (z : Fork). z.lefts) e))
            | yes q ↦ elim (ℕ_discrete x.rights y.rights) [ no n ↦ no (λ e. n (ap (λ (z : Fork). z.rights) e)) | yes r ↦ yes (λ i. record { first = p i; lefts = q i; rights = r i }) ]
          ]
    ]

same_shape : (x y : Shape) → Dec (x ≡ y)
same_shape Unused Unused = yes refl
same_shape Unused (Ended w) = no (λ e. let z : ◌≡◌ {A = ℕ} 0 1 = cc in omega arith)
same_shape Unused (Open y) = no (λ e. let z : ◌≡◌ {A = ℕ} 0 1 = cc in omega arith)
same_shape (Ended v) Unused = no (λ e. let z : ◌≡◌ {A = ℕ} 0 1 = cc in omega arith)
same_shape (Ended v) (Ended w) = elim (ℤ_discrete v w) [ yes p ↦ yes (ap Ended p) | no n ↦ no (λ e. n cc) ]
same_shape (Ended v) (Open y) = no (λ e. let z : ◌≡◌ {A = ℕ} 0 1 = cc in omega arith)
same_shape (Open x) Unused = no (λ e. let z : ◌≡◌ {A = ℕ} 0 1 = cc in omega arith)
same_shape (Open x) (Ended w) = no (λ e. let z : ◌≡◌ {A = ℕ} 0 1 = cc in omega arith)
same_shape (Open x) (Open y) = elim (same_fork x y) [ yes p ↦ yes (ap Open p) | no n ↦ no (λ e. n cc) ]

pub shape_set : IsSet Shape
shape_set = hedberg same_shape

pub shapes_set : IsSet (List Shape)
shapes_set = is_set shape_set
