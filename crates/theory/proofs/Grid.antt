-- The grid: what makes walls meet at whole units. A step of a wall, from a at t to b at t + 1, is Fall n: it stands still on a
-- multiple of 2 ^ n, or falls by one where the wall and the tax together are a multiple of it.
use Rattle.std.proofs.Common.{◌≡◌, ℕ, zero, suc, ◌+◌, ◌-◌, ◌*◌, ◌^◌, ◌≤◌, ℤ, pos, negsuc, ◌+ℤ◌, ◌-ℤ◌, ◌*ℤ◌, neg_ℤ, ◌≤ℤ◌, ◌<ℤ◌, sym, refl, ap, ◌∙◌, subst, add-mul, pow-suc, arith}
use borrow.Author.Differences.{ints}
use Rattle.std.specs.Int.{int_max}
use Rattle.std.proofs.lemmas.Int.{clamps, by_lt_z}
use Rattle.theory.specs.Limits.{unit, greatest_height}

-- x can be halved n times: 2 ^ n divides it
abbrev pub Div : ℕ → ℤ → Type 0
Div zero x = Unit {0}
Div (suc n) x = (y : ℤ) × (x ≡ (y +ℤ y)) × Div n y

pub div_down : (n : ℕ) (x : ℤ) → Div (suc n) x → Div n x
div_down zero x d = tt
div_down (suc n) x d = (d.0, d.1, div_down n d.0 d.2)

pub div_add : (n : ℕ) (x y : ℤ) → Div n x → Div n y → Div n (x +ℤ y)
div_add zero x y d e = tt
div_add (suc n) x y (u, p, d) (v, q, e) = (u +ℤ v, omega (arith, ints), div_add n u v d e)

pub div_neg : (n : ℕ) (x : ℤ) → Div n x → Div n (neg_ℤ x)
div_neg zero x d = tt
div_neg (suc n) x (u, p, d) = (neg_ℤ u, omega (arith, ints), div_neg n u d)

-- a half of what can be halved once more
pub div_half : (n : ℕ) (x y : ℤ) → x ≡ (y +ℤ y) → Div (suc n) x → Div n y
div_half n x y p (u, q, d) = let e : u ≡ y = omega (arith, ints) in subst (Div n) e d

pub data Fall (n : ℕ) (a b : ℤ) (t : ℕ) : Type 0 where
  still : b ≡ a → Div n a → Fall n a b t
  falls : a ≡ (b +ℤ pos 1) → Div n (a +ℤ pos t) → Fall n a b t

-- an option's wall, negated and taxed, is such a step again
pub fall_turn : (n : ℕ) (a b : ℤ) (t : ℕ) → Fall n a b t → Fall n (neg_ℤ a -ℤ pos t) (neg_ℤ b -ℤ pos (suc t)) t
fall_turn n a b t (still p d) = falls (omega (arith, ints)) (subst (Div n) (omega (arith, ints)) (div_neg n a d))
fall_turn n a b t (falls p d) = still (omega (arith, ints)) (subst (Div n) (omega (arith, ints)) (div_neg n (a +ℤ pos t) d))

pub fall_same : (n : ℕ) (a b a' b' : ℤ) (t : ℕ) → a ≡ a' → b ≡ b' → Fall n a b t → Fall n a' b' t
fall_same n a b a' b' t p q (still e d) = still (sym q ∙ e ∙ p) (subst (Div n) p d)
fall_same n a b a' b' t p q (falls e d) = falls (omega (arith, ints)) (subst (Div n) (omega (arith, ints)) d)

pub fall_within : (n : ℕ) (a b : ℤ) (t : ℕ) → Fall n a b t → (b ≤ℤ a) × (a ≤ℤ (b +ℤ pos 1))
fall_within n a b t (still p d) = omega (arith, ints)
fall_within n a b t (falls p d) = omega (arith, ints)

-- the greater of two
pub fall_max : (n : ℕ) (a b c d : ℤ) (t : ℕ) → Fall n a b t → Fall n c d t → Fall n (int_max a c) (int_max b d) t
fall_max n a b c d t x y =
    let k = fall_within n a b t x in
    let l = fall_within n c d t y in
    by_lt_z a c (λ h. fall_same n c d _ _ t (omega (arith, ints, clamps)) (omega (arith, ints, clamps)) y)
    (λ g. by_lt_z c a (λ h. fall_same n a b _ _ t (omega (arith, ints, clamps)) (omega (arith, ints, clamps)) x) (λ h. level x g h l))
  where
    level : Fall n a b t → c ≤ℤ a → a ≤ℤ c → (d ≤ℤ c) × (c ≤ℤ (d +ℤ pos 1)) → Fall n (int_max a c) (int_max b d) t
    level (still p e) g h l = fall_same n a b _ _ t (omega (arith, ints, clamps)) (omega (arith, ints, clamps)) x
    level (falls p e) g h l = fall_same n c d _ _ t (omega (arith, ints, clamps)) (omega (arith, ints, clamps)) y

-- Two scaffolds, each in its own side's terms. Where they part at t and no longer at t + 1, they meet there, at a multiple of half the grid.
pub fall_meet : (n : ℕ) (a b c d : ℤ) (t : ℕ) → Fall (suc n) a b t → Fall (suc n) c d t
    → pos 0 <ℤ (a +ℤ c) → (b +ℤ d) ≤ℤ pos 0 → ((b +ℤ d) ≡ pos 0) × Div n b
fall_meet n a b c d t (still p e) (still q f) h k = absurd (omega (arith, ints))
fall_meet n a b c d t (still p e) (falls q f) h k = (omega (arith, ints), subst (Div n) (sym p) (div_down n a e))
fall_meet n a b c d t (falls p e) (still q f) h k =
    (omega (arith, ints), subst (Div n) (omega (arith, ints)) (div_neg n c (div_down n c f)))
fall_meet n a b c d t (falls p (u, r, e)) (falls q (v, w, f)) h k =
    let z : (b +ℤ d) ≡ pos 0 = omega (arith, ints) in
    (z, subst (Div n) (omega (arith, ints)) (div_add n u (neg_ℤ v) e (div_neg n v f)))

-- ---- a point is 2 ^ greatest_height units
-- the one fact that ties the unit to the greatest height
grid : 2 ^ greatest_height ≡ unit
grid = refl

double : (a b : ℕ) (v : ℤ) → b ≡ a + a → (pos b *ℤ v) ≡ ((pos a *ℤ v) +ℤ (pos a *ℤ v))
double a b (pos n) e = ap pos (ap (λ (m : ℕ). m * n) e ∙ add-mul a a n)
double a b (negsuc n) e =
    let q : b * suc n ≡ a * suc n + a * suc n = ap (λ (m : ℕ). m * suc n) e ∙ add-mul a a (suc n) in
    let r : (neg_ℤ (pos (b * suc n))) ≡ ((neg_ℤ (pos (a * suc n))) +ℤ (neg_ℤ (pos (a * suc n)))) = omega (arith, ints, q) in
    r

power_div : (n : ℕ) (v : ℤ) → Div n (pos (2 ^ n) *ℤ v)
power_div zero v = tt
power_div (suc n) v =
    let q : 2 ^ suc n ≡ 2 ^ n + 2 ^ n = omega (arith, pow-suc 2 n) in
    (pos (2 ^ n) *ℤ v, double (2 ^ n) (2 ^ suc n) v q, power_div n v)

points_div : (v : ℤ) → Div greatest_height (pos unit *ℤ v)
points_div v = subst (λ (u : ℕ). Div greatest_height (pos u *ℤ v)) grid (power_div greatest_height v)

-- n is given by what it lacks of m, so that `omega` can say that it is less
div_less : (k n m : ℕ) (x : ℤ) → k + n ≡ m → Div m x → Div n x
div_less zero n m x e d = let q : m ≡ n = omega arith in subst (λ i. Div i x) q d
div_less (suc k) n m x e d =
    let q : m ≡ suc (k + n) = omega arith in div_less k n (k + n) x refl (div_down (k + n) x (subst (λ i. Div i x) q d))

pub points : (n : ℕ) (v : ℤ) → n ≤ greatest_height → Div n (pos unit *ℤ v)
points n v h = div_less (greatest_height - n) n greatest_height (pos unit *ℤ v) (omega arith) (points_div v)

pub fall_down : (n : ℕ) (a b : ℤ) (t : ℕ) → Fall (suc n) a b t → Fall n a b t
fall_down n a b t (still p d) = still p (div_down n a d)
fall_down n a b t (falls p d) = falls p (div_down n (a +ℤ pos t) d)

pub fall_start : (n : ℕ) (a b : ℤ) → Fall n a b 0 → Div n a
fall_start n a b (still p d) = d
fall_start n a b (falls p d) = let q : (a +ℤ pos 0) ≡ a = omega (arith, ints) in subst (Div n) q d
