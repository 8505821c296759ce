-- Facts on lists of options: which stands where, maps over them, and that they determine an open tree.
use Rattle.std.proofs.Common.{◌≡◌, ℕ, zero, suc, ◌<◌, ◌≤◌, List, [], ◌∷◌, map, length, get_or, Some, None, refl, ap, arith}
use Rattle.std.specs.List.{AllByRecursion}
use Rattle.terms.specs.declared.side.Side.TheVariants.{Left, Right}
use Rattle.theory.specs.Trees.{Tree, Forest, ended, branch, one, more, trees, options, at}

pub at_past : {A : Type 0} (xs : List A) (k : ℕ) → length xs ≤ k → at xs k ≡ None
at_past [] k h = refl
at_past (x ∷ xs) zero h = absurd (omega arith)
at_past (x ∷ xs) (suc k) h = at_past xs k (omega arith)

pub at_map : {A : Type 0} (f : ℕ → A) (ks : List ℕ) (k : ℕ) → k < length ks → at (map f ks) k ≡ Some (f (get_or ks k 0))
at_map f [] k h = absurd (omega arith)
at_map f (x ∷ ks) zero h = refl
at_map f (x ∷ ks) (suc k) h = at_map f ks k (omega arith)

pub at_some : {A : Type 0} (f : ℕ → A) (ks : List ℕ) (k x : ℕ) → Some x ≡ at ks k → at (map f ks) k ≡ Some (f x)
at_some f [] k x e = let z : ◌≡◌ {A = ℕ} 0 1 = cc in absurd (omega arith)
at_some f (y ∷ ks) zero x e = let q : x ≡ y = cc in cc
at_some f (y ∷ ks) (suc k) x e = at_some f ks k x e

pub at_none : {A : Type 0} (f : ℕ → A) (ks : List ℕ) (k : ℕ) → None ≡ at ks k → at (map f ks) k ≡ None
at_none f [] k e = refl
at_none f (y ∷ ks) zero e = let z : ◌≡◌ {A = ℕ} 0 1 = cc in absurd (omega arith)
at_none f (y ∷ ks) (suc k) e = at_none f ks k e

pub at_all : (P : ℕ → Type 0) (ks : List ℕ) (k x : ℕ) → AllByRecursion P ks → Some x ≡ at ks k → P x
at_all P [] k x h e = let z : ◌≡◌ {A = ℕ} 0 1 = cc in absurd (omega arith)
at_all P (y ∷ ks) zero x h e = let q : x ≡ y = cc in rw q h.0
at_all P (y ∷ ks) (suc k) x h e = at_all P ks k x h.1 e

pub map_same : {A : Type 0} (f g : ℕ → A) (P : ℕ → Type 0) → ((k : ℕ) → P k → f k ≡ g k) → (ks : List ℕ) → AllByRecursion P ks → map f ks ≡ map g ks
map_same f g P same [] h = refl
map_same f g P same (k ∷ ks) h =
    let a = same k h.0 in let b = map_same f g P same ks h.1 in cc

pub map_map : {A B : Type 0} (g : A → B) (f : ℕ → A) (ks : List ℕ) → map g (map f ks) ≡ map (λ k. g (f k)) ks
map_map g f [] = refl
map_map g f (k ∷ ks) = ap (λ l. g (f k) ∷ l) (map_map g f ks)

pub some_apart : {A : Type 0} (xs ys : List A) → map (λ x. Some x) xs ≡ map (λ y. Some y) ys → xs ≡ ys
some_apart [] [] e = refl
some_apart [] (y ∷ ys) e = let z : ◌≡◌ {A = ℕ} 0 1 = cc in absurd (omega arith)
some_apart (x ∷ xs) [] e = let z : ◌≡◌ {A = ℕ} 0 1 = cc in absurd (omega arith)
some_apart {A} (x ∷ xs) (y ∷ ys) e =
    let h : x ≡ y = cc in
    let t : map (λ (a : A). Some a) xs ≡ map (λ (a : A). Some a) ys = cc in
    let r = some_apart xs ys t in
    cc

pub all_map : {A : Type 0} (P : A → Type 0) (f : ℕ → A) → ((k : ℕ) → P (f k)) → (ks : List ℕ) → AllByRecursion P (map f ks)
all_map P f h [] = tt
all_map P f h (k ∷ ks) = (h k, all_map P f h ks)

-- an open tree is determined by its options
same_forest : (F G : Forest) → trees F ≡ trees G → F ≡ G
same_forest (one x) (one y) e = let h : x ≡ y = cc in cc
same_forest (one x) (more y (one z)) e = let w : ◌≡◌ {A = ℕ} 0 1 = cc in absurd (omega arith)
same_forest (one x) (more y (more z G)) e = let w : ◌≡◌ {A = ℕ} 0 1 = cc in absurd (omega arith)
same_forest (more x (one z)) (one y) e = let w : ◌≡◌ {A = ℕ} 0 1 = cc in absurd (omega arith)
same_forest (more x (more z F)) (one y) e = let w : ◌≡◌ {A = ℕ} 0 1 = cc in absurd (omega arith)
same_forest (more x F) (more y G) e =
    let h : x ≡ y = cc in
    let t : trees F ≡ trees G = cc in
    let r = same_forest F G t in
    cc

pub same_tree : (x y : Tree) → options x Left ≡ options y Left → options x Right ≡ options y Right → 0 < length (options y Left) → x ≡ y
same_tree x (ended w) l r some = absurd (omega arith)
same_tree (ended v) (branch L R) l r some = let n = ap length l in absurd (omega arith)
same_tree (branch F G) (branch L R) l r some =
    let p = same_forest F L l in let q = same_forest G R r in cc
