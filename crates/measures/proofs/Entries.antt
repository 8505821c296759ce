-- What a row's options have in a list with an entry for each row, and what holds of all entries of such a list.
use Rattle.std.proofs.Common.{◌≡◌, ℕ, zero, suc, ◌+◌, ◌-◌, ◌<◌, ◌≤◌, List, [], ◌∷◌, map, length, get_or, take, drop, set, replicate, sym, ◌∙◌, subst, arith}
use native.Mathlib.Decide.{dec_lt}
use Rattle.std.proofs.lemmas.List.{ext_get_or, get_or-take, get_or-drop, get_or-map, get_or_past, length-take, length-take-le, length-drop, length-map}
use Rattle.theory.specs.Trees.{Tree}
use Rattle.spreading.specs.Order.{none}

-- the part of the list where the trees' entries stand, as the code cuts it out
pub part_is : {A : Type 0} (figure : Tree → A) (d : A) (kept : List A) (from to : ℕ) (xs : List Tree) → from + length xs ≡ to → to ≤ length kept
    → ((k : ℕ) → k < length xs → get_or kept (from + k) d ≡ figure (get_or xs k none)) → take (to - from) (drop from kept) ≡ map figure xs
part_is figure d kept from to xs ends room h =
    let rest : length (drop from kept) ≡ length kept - from = length-drop from kept in
    let many : length (take (to - from) (drop from kept)) ≡ to - from = length-take-le (to - from) (drop from kept) (omega arith) in
    let wide = length-map xs figure in
    ext_get_or d (take (to - from) (drop from kept)) (map figure xs) (omega arith) (λ k lt.
    get_or-take (to - from) (drop from kept) k d (omega arith) ∙ get_or-drop from kept k d ∙ h k (omega arith)
    ∙ sym (get_or-map figure xs k none d (omega arith)))

-- what holds of each entry and of the default holds of each in a part
pub all_part : {A : Type 0} (P : A → Type 0) (d : A) (kept : List A) (from n : ℕ) → P d → ((k : ℕ) → P (get_or kept k d)) → (k : ℕ) → P (get_or (take n (drop from kept)) k d)
all_part P d kept from n p h k =
    elim (dec_lt k n) [
      | yes lt ↦ subst P (sym (get_or-take n (drop from kept) k d lt ∙ get_or-drop from kept k d)) (h (from + k))
      | no ge ↦ subst P (sym (get_or_past (take n (drop from kept)) k d (omega (arith, length-take n (drop from kept))))) p
    ]

-- and after a write of an entry of which it holds
pub all_set : {A : Type 0} (P : A → Type 0) (d : A) (kept : List A) (i : ℕ) (a : A) → P a → ((k : ℕ) → P (get_or kept k d)) → (k : ℕ) → P (get_or (set kept i a) k d)
all_set P d [] i a p h k = h k
all_set P d (y ∷ ys) zero a p h zero = p
all_set P d (y ∷ ys) zero a p h (suc k) = h (suc k)
all_set P d (y ∷ ys) (suc i) a p h zero = h zero
all_set P d (y ∷ ys) (suc i) a p h (suc k) = all_set P d ys i a p (λ j. h (suc j)) k

pub all_replicate : {A : Type 0} (P : A → Type 0) (d : A) (n : ℕ) (a : A) → P a → P d → (k : ℕ) → P (get_or (replicate n a) k d)
all_replicate P d zero a p q k = q
all_replicate P d (suc n) a p q zero = p
all_replicate P d (suc n) a p q (suc k) = all_replicate P d n a p q k
