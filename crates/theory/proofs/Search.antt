-- The bounded search for the least number that passes a test.
use Rattle.std.proofs.Common.{◌≡◌, ℕ, zero, suc, ◌+◌, ◌<◌, ◌≤◌, Bool, true, false, refl, subst, arith}
use native.Mathlib.Decide.{dec_le}
use Rattle.theory.specs.Walls.{least}

pub by_bool : {P : Type 0} (b : Bool) → (b ≡ true → P) → (b ≡ false → P) → P
by_bool true f g = f refl
by_bool false f g = g refl

least_yes : (p : ℕ → Bool) (n k : ℕ) → p k ≡ true → least p (suc n) k ≡ k
unfolding least
least_yes p n k h = rw (h, least) refl

least_no : (p : ℕ → Bool) (n k : ℕ) → p k ≡ false → least p (suc n) k ≡ least p n (suc k)
unfolding least
least_no p n k h = rw (h, least) refl

pub least_none : (p : ℕ → Bool) (k : ℕ) → least p zero k ≡ k
unfolding least
least_none p k = refl

-- nothing before it passes
pub least_before : (p : ℕ → Bool) (n k t : ℕ) → k ≤ t → t < least p n k → p t ≡ false
least_before p zero k t h l = absurd (omega (arith, least_none p k))
least_before p (suc n) k t h l =
    by_bool (p k) (λ e. absurd (omega (arith, least_yes p n k e)))
    (λ e. elim (dec_le (suc k) t) [
      | yes a ↦ least_before p n (suc k) t a (rw (least_no p n k e) at l)
      | no b ↦ let q : k ≡ t = omega arith in subst (λ x. p x ≡ false) q e
    ])

-- it passes, if the last does
pub least_passes : (p : ℕ → Bool) (n k : ℕ) → p (k + n) ≡ true → p (least p n k) ≡ true
least_passes p zero k h = subst (λ x. p x ≡ true) (omega (arith, least_none p k)) h
least_passes p (suc n) k h =
    by_bool (p k) (λ e. rw (least_yes p n k e) e)
    (λ e. rw (least_no p n k e) (least_passes p n (suc k) (subst (λ x. p x ≡ true) (omega arith) h)))

-- it stays within its bound
pub least_bound : (p : ℕ → Bool) (n k : ℕ) → least p n k ≤ k + n
least_bound p zero k = omega (arith, least_none p k)
least_bound p (suc n) k =
    by_bool (p k) (λ e. omega (arith, least_yes p n k e)) (λ e. omega (arith, least_no p n k e, least_bound p n (suc k)))
