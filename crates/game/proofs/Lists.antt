-- A list that is filled from its first place on, or made by a function of the place.
use Rattle.std.proofs.Common.{◌≡◌, ℕ, zero, suc, ◌+◌, ◌<◌, ◌≤◌, List, map, length, get_or, take, sym, ◌∙◌, subst, arith}
use native.Mathlib.Decide.{dec_lt}
use Rattle.std.proofs.lemmas.List.{ext_get_or, get_or-map, get_or-take, length-map, length-take-le}
use Rattle.std.specs.Fn.{Mut, Called}
use Rattle.std.specs.Array.{IsFromFnResultFrom, IsFromFnResult}

-- filled with f of each entry of xs
pub filled_all : {A B : Type 0} (f : A → B) (xs : List A) (r : List B) (n : ℕ) (a : A) (d : B) → n ≡ length xs → length xs ≤ length r → ((k : ℕ) → k < n → get_or r k d ≡ f (get_or xs k a)) → take (length xs) r ≡ map f xs
filled_all f xs r n a d whole room h =
    let front : length (take (length xs) r) ≡ length xs = length-take-le (length xs) r room in
    ext_get_or d (take (length xs) r) (map f xs) (front ∙ sym (length-map xs f)) (λ k l.
    let here : k < length xs = omega arith in
    get_or-take (length xs) r k d here ∙ h k (omega arith) ∙ sym (get_or-map f xs k a d here))

-- made by calls that leave f as it was, and give w of the place
module _ {F B : Type 0} (g : Mut F (ℕ × Unit {0}) B) (f : F) (w : ℕ → B) (calls : (k : ℕ) (y : B) (q : F) → Called g f (k, tt) y q → (q ≡ f) × (y ≡ w k)) where
  made_from : (ys : List B) (i n : ℕ) → IsFromFnResultFrom g f ys i n → (k : ℕ) (d : B) → i ≤ k → k < i + n → get_or ys k d ≡ w k
  made_from ys i zero m k d h l = absurd (omega arith)
  made_from ys i (suc n) (q, y, e, called, m) k d h l =
      let (same, is) = calls i y q called in
      elim (dec_lt i k) [
        | yes lt ↦ made_from ys (i + 1) n (subst (λ p. IsFromFnResultFrom g p ys (i + 1) n) same m) k d (omega arith) (omega arith)
        | no ge ↦ let here : i ≡ k = omega arith in subst (λ j. get_or ys j d ≡ w j) here (e.1 d ∙ is)
      ]

  pub made_all : (ys : List B) (n : ℕ) → IsFromFnResult g f ys n → (k : ℕ) (d : B) → k < n → get_or ys k d ≡ w k
  made_all ys n m k d l = made_from ys 0 n m.each k d (omega arith) (omega arith)
