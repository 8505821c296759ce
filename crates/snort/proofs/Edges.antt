-- The neighbours on a map: none on a fresh one, and one more pair after an edge is added.
use Rattle.std.proofs.Common.{◌≡◌, ℕ, zero, suc, ◌*◌, ◌%◌, ◌^◌, ◌<◌, ◌≤◌, Bool, true, false, not, ◌&&◌, ◌||◌, eqb, ltb, ◌⊎◌, List, length, get_or, set, replicate, sym, refl, ap, ◌∙◌, subst, ap₂, inl, inr, arith}
use lib.Bits.{bit_and, bit_or, or_lt}
use Rattle.std.proofs.lemmas.Nat.{one_shl, pow_below, pow_pos}
use Rattle.std.proofs.lemmas.List.{get_or-set_same, get_or-set_other, length-set}
use Rattle.std.proofs.lemmas.Bool.{cases_eq, eq-eqb, ne_eqb, and_from, and_left, and_right, or_from, lt-ltb, not_from_false}
use Rattle.masks.specs.Masks.{has}
use Rattle.masks.proofs.Bits.{has_zero, has_or, has_power, meets}
use Rattle.std.proofs.Math.Bool.{or-false, not-not, and_comm, or_comm}
use Rattle.snort.specs.Maps.{joined, edge, edge_fits}
use Rattle.snort.specs.Play.{beside}

pub no_neighbours : (n k : ℕ) → ◌≡◌ {A = ℕ} (get_or (replicate n 0) k 0) 0
no_neighbours zero k = refl
no_neighbours (suc n) zero = refl
no_neighbours (suc n) (suc k) = no_neighbours n k

pub no_edges : (n a b : ℕ) → joined (replicate n 0) a b ≡ false
no_edges n a b = ap (λ m. has m b) (no_neighbours n a) ∙ has_zero b

pub fresh_within : (n points k : ℕ) → get_or (replicate n 0) k 0 < 2 ^ points
fresh_within n points k = subst (λ (m : ℕ). m < 2 ^ points) (sym (no_neighbours n k)) (pow_pos points)

-- `self.near[k] & mask != 0`
pub beside_meets : (points : ℕ) (near : List ℕ) (mask k : ℕ) → get_or near k 0 < 2 ^ points → not (eqb (bit_and (get_or near k 0) mask) 0) ≡ beside points (joined near) mask k
beside_meets points near mask k h = ap not (meets points (get_or near k 0) mask h) ∙ not-not (beside points (joined near) mask k)

edge_swap : (p q r s : Bool) → ((p && q) || (r && s)) ≡ ((s && r) || (q && p))
edge_swap p q r s = or_comm (p && q) (r && s) ∙ ap₂ ◌||◌ (and_comm r s) (and_comm p q)

pub fits_from : (points a b : ℕ) → a < points → b < points → (a ≡ b → ⊥) → edge_fits points a b ≡ true
fits_from points a b h l ne =
    and_from (ltb a points) (ltb b points && not (eqb a b)) (lt-ltb a points h) (and_from (ltb b points) (not (eqb a b)) (lt-ltb b points l) (not_from_false (eqb a b) (ne_eqb a b ne)))

module _ (points : ℕ) (near : List ℕ) (a b : ℕ) (few : points ≤ 12) (long : length near ≡ 12) (on-a : a < points) (on-b : b < points) (ne : a ≡ b → ⊥) where
  -- the masks after the edge is written at both its ends
  abbrev first : List ℕ
  first = set near a (bit_or (get_or near a 0) ((1 * 2 ^ b) % 65536))

  abbrev second : List ℕ
  second = set first b (bit_or (get_or first b 0) ((1 * 2 ^ a) % 65536))

  power : (k : ℕ) → k < points → (1 * 2 ^ k) % 65536 ≡ 2 ^ k
  power k h = one_shl k 16 (omega arith)

  first_b : get_or first b 0 ≡ get_or near b 0
  first_b = get_or-set_other near a b (bit_or (get_or near a 0) ((1 * 2 ^ b) % 65536)) 0 (λ e. ne (sym e))

  mask_b : get_or second b 0 ≡ bit_or (get_or near b 0) (2 ^ a)
  mask_b =
      get_or-set_same first b (bit_or (get_or first b 0) ((1 * 2 ^ a) % 65536)) 0 (omega (arith, length-set near a (bit_or (get_or near a 0) ((1 * 2 ^ b) % 65536)))) ∙ ap₂ bit_or first_b (power a on-a)

  mask_a : get_or second a 0 ≡ bit_or (get_or near a 0) (2 ^ b)
  mask_a =
      get_or-set_other first b a (bit_or (get_or first b 0) ((1 * 2 ^ a) % 65536)) 0 ne ∙ get_or-set_same near a (bit_or (get_or near a 0) ((1 * 2 ^ b) % 65536)) 0 (omega arith) ∙ ap (bit_or (get_or near a 0)) (power b on-b)

  mask_other : (k : ℕ) → (k ≡ a → ⊥) → (k ≡ b → ⊥) → get_or second k 0 ≡ get_or near k 0
  mask_other k na nb =
      get_or-set_other first b k (bit_or (get_or first b 0) ((1 * 2 ^ a) % 65536)) 0 nb ∙ get_or-set_other near a k (bit_or (get_or near a 0) ((1 * 2 ^ b) % 65536)) 0 na

  added : (m k y : ℕ) → has (bit_or m (2 ^ k)) y ≡ (has m y || eqb y k)
  added m k y = has_or m (2 ^ k) y ∙ ap (λ e. has m y || e) (has_power k y)

  edge_a : (y : ℕ) → edge a b a y ≡ eqb y b
  edge_a y =
      ap₂ (λ p q. (p && eqb y b) || (q && eqb y a)) (eq-eqb a a refl) (ne_eqb a b ne) ∙ or-false (eqb y b)

  edge_b : (y : ℕ) → edge a b b y ≡ eqb y a
  edge_b y = ap₂ (λ p q. (p && eqb y b) || (q && eqb y a)) (ne_eqb b a (λ e. ne (sym e))) (eq-eqb b b refl)

  edge_other : (x y : ℕ) → (x ≡ a → ⊥) → (x ≡ b → ⊥) → edge a b x y ≡ false
  edge_other x y na nb = ap₂ (λ p q. (p && eqb y b) || (q && eqb y a)) (ne_eqb x a na) (ne_eqb x b nb)

  joined_by : (x y : ℕ) → (x ≡ a) ⊎ (x ≡ a → ⊥) → (x ≡ b) ⊎ (x ≡ b → ⊥) → joined second x y ≡ (joined near x y || edge a b x y)
  joined_by x y (inl e) q =
      ap (λ z. joined second z y) e ∙ ap (λ m. has m y) mask_a ∙ added (get_or near a 0) b y ∙ ap (λ z. joined near a y || z) (sym (edge_a y)) ∙ ap (λ z. joined near z y || edge a b z y) (sym e)
  joined_by x y (inr p) (inl e) =
      ap (λ z. joined second z y) e ∙ ap (λ m. has m y) mask_b ∙ added (get_or near b 0) a y ∙ ap (λ z. joined near b y || z) (sym (edge_b y)) ∙ ap (λ z. joined near z y || edge a b z y) (sym e)
  joined_by x y (inr p) (inr q) =
      ap (λ m. has m y) (mask_other x p q) ∙ sym (ap (λ z. joined near x y || z) (edge_other x y p q) ∙ or-false (joined near x y))

  -- the edge is added, and nothing else changes
  pub joined_more : (x y : ℕ) → joined second x y ≡ (joined near x y || edge a b x y)
  joined_more x y = joined_by x y (cases_eq x a) (cases_eq x b)

  pub joined_fits : (x y : ℕ) → joined second x y ≡ (joined near x y || (edge_fits points a b && edge a b x y))
  joined_fits x y = joined_more x y ∙ ap (λ t. joined near x y || (t && edge a b x y)) (sym (fits_from points a b on-a on-b ne))

  within_by : ((k : ℕ) → get_or near k 0 < 2 ^ points) → (k : ℕ) → (k ≡ a) ⊎ (k ≡ a → ⊥) → (k ≡ b) ⊎ (k ≡ b → ⊥) → get_or second k 0 < 2 ^ points
  within_by low k (inl e) q =
      subst (λ (m : ℕ). m < 2 ^ points) (sym (ap (λ z. get_or second z 0) e ∙ mask_a)) (or_lt points (get_or near a 0) (2 ^ b) (low a) (pow_below b points on-b))
  within_by low k (inr p) (inl e) =
      subst (λ (m : ℕ). m < 2 ^ points) (sym (ap (λ z. get_or second z 0) e ∙ mask_b)) (or_lt points (get_or near b 0) (2 ^ a) (low b) (pow_below a points on-a))
  within_by low k (inr p) (inr q) = subst (λ (m : ℕ). m < 2 ^ points) (sym (mask_other k p q)) (low k)

  pub within_more : ((k : ℕ) → get_or near k 0 < 2 ^ points) → (k : ℕ) → get_or second k 0 < 2 ^ points
  within_more low k = within_by low k (cases_eq k a) (cases_eq k b)

  edge_self : (k : ℕ) → (k ≡ a) ⊎ (k ≡ a → ⊥) → edge a b k k ≡ false
  edge_self k (inl e) = ap (λ z. edge a b z k) e ∙ edge_a k ∙ ap (λ z. eqb z b) e ∙ ne_eqb a b ne
  edge_self k (inr p) = or_from (eqb k a && eqb k b) (eqb k b && eqb k a) (and_left (eqb k a) (eqb k b) (ne_eqb k a p)) (and_right (eqb k b) (eqb k a) (ne_eqb k a p))

  pub loopless_more : ((k : ℕ) → joined near k k ≡ false) → (k : ℕ) → joined second k k ≡ false
  loopless_more none k = joined_more k k ∙ or_from (joined near k k) (edge a b k k) (none k) (edge_self k (cases_eq k a))

  pub symmetric_more : ((x y : ℕ) → joined near x y ≡ joined near y x) → (x y : ℕ) → joined second x y ≡ joined second y x
  symmetric_more sym-near x y =
      joined_more x y ∙ ap₂ ◌||◌ (sym-near x y) (edge_swap (eqb x a) (eqb y b) (eqb x b) (eqb y a)) ∙ sym (joined_more y x)
