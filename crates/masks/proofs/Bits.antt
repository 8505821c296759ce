-- The bits of masks: of 0, of a power of two, of `&` and `|`, and of sums with a power.
use Rattle.std.proofs.Common.{◌≡◌, ℕ, zero, suc, ◌+◌, ◌*◌, ◌/◌, ◌%◌, ◌^◌, ◌<◌, ◌≤◌, min, max, Bool, true, false, cond, not, ◌&&◌, ◌||◌, eqb, ltb, ◌⊎◌, List, [], ◌∷◌, ◌++◌, map, length, get_or, fold, filter, sym, refl, ap, ◌∙◌, subst, ap₂, inl, inr, add-zero, zero-add, arith}
use Rattle.std.specs.List.{range_with_len}
use Rattle.std.specs.Int.{bit_at}
use lib.Bits.{bit_and, bit_or, and_le_l, or_disjoint, or_lt}
use lib.Count.{ones}
use lib.Lanes.{mask_l}
use Rattle.std.proofs.Math.Bool.{or-false}
use Rattle.std.proofs.lemmas.Nat.{one_shl, pow_below, pow_pos}
use Rattle.std.proofs.lemmas.Nat.Bits.{shr_and_one, bit_at_and, bit_at_or, bit_at-zero, bit_at-lt, bit_at-pow_same, bit_at-pow_other, bit_at_above, and_pow, same_from_bits, same_from_bits_below}
use Rattle.std.proofs.lemmas.Bool.{cases_lt, cases_eq, cases_Bool, eq-eqb, ne_eqb, eqb-false, true≢false, lt-ltb, le-ltb, and_left, and_right, and_from, or_right}
use Rattle.std.proofs.lemmas.Bool.Decides.{nat_tests}
use Rattle.std.proofs.lemmas.List.{get_or_past, map-id}
use Rattle.std.proofs.lemmas.List.FromFn.{filter_of_map_range_with_len_more, get_or-map-range_with_len, length-map-range_with_len}
use Rattle.std.proofs.lemmas.List.Sums.{length-filter, fold-append}
use Rattle.std.proofs.lemmas.Simd.{bit_mask_l, ones-mask_l}
use Rattle.masks.specs.Masks.{has, members, some_below, mask_of}
use Rattle.masks.proofs.Members.{members_same, members_longer, none_below, no_some, none_passes}

-- `(m >> k) & 1 == 1`
pub shifted : (m k : ℕ) → eqb (bit_and (m / 2 ^ k) 1) 1 ≡ has m k
unfolding has
shifted m k = ap (λ x. eqb x 1) (shr_and_one m k)

-- a bit is 0 or 1
both : (x y : ℕ) → x < 2 → y < 2 → eqb (min x y) 1 ≡ (eqb x 1 && eqb y 1)
both x y p q = grind (arith, nat_tests)

either : (x y : ℕ) → x < 2 → y < 2 → eqb (max x y) 1 ≡ (eqb x 1 || eqb y 1)
either x y p q = grind (arith, nat_tests)

pub has_and : (a b k : ℕ) → has (bit_and a b) k ≡ (has a k && has b k)
unfolding has
has_and a b k = ap (λ x. eqb x 1) (bit_at_and a b k) ∙ both (bit_at a k) (bit_at b k) (bit_at-lt a k) (bit_at-lt b k)

pub has_or : (a b k : ℕ) → has (bit_or a b) k ≡ (has a k || has b k)
unfolding has
has_or a b k = ap (λ x. eqb x 1) (bit_at_or a b k) ∙ either (bit_at a k) (bit_at b k) (bit_at-lt a k) (bit_at-lt b k)

-- nothing is in a mask from its length on
pub has_past : (m n k : ℕ) → m < 2 ^ n → n ≤ k → has m k ≡ false
unfolding has
has_past m n k h l = ap (λ x. eqb x 1) (bit_at_above m n k h l)

pub has_zero : (k : ℕ) → has 0 k ≡ false
unfolding has
has_zero k = ap (λ x. eqb x 1) (bit_at-zero k)

-- 2 ^ k has the bit k, and no other
pub has_power : (k j : ℕ) → has (2 ^ k) j ≡ eqb j k
unfolding has
has_power k j = by (cases_eq j k)
  where
    by : (j ≡ k) ⊎ (j ≡ k → ⊥) → eqb (bit_at (2 ^ k) j) 1 ≡ eqb j k
    by (inl e) = ap (λ i. eqb (bit_at (2 ^ k) i) 1) e ∙ ap (λ x. eqb x 1) (bit_at-pow_same k) ∙ sym (eq-eqb j k e)
    by (inr e) = ap (λ x. eqb x 1) (bit_at-pow_other k j e) ∙ sym (ne_eqb j k e)

bit_out : (m i : ℕ) → has m i ≡ false → bit_at m i ≡ 0
unfolding has
bit_out m i e = let h = bit_at-lt m i in let n = eqb-false (bit_at m i) 1 e in omega (arith, n)

-- a mask with no member is 0
pub empty_mask : (n m : ℕ) → m < 2 ^ n → ((k : ℕ) → k < n → has m k ≡ false) → m ≡ 0
empty_mask n m h none = same_from_bits_below n m 0 h (pow_pos n) (λ i l. bit_out m i (none i l) ∙ sym (bit_at-zero i))

-- two masks meet where their `&` is not 0
pub meets : (n a b : ℕ) → a < 2 ^ n → eqb (bit_and a b) 0 ≡ not (some_below (λ k. has a k && has b k) n)
meets n a b h = meets_by (cases_Bool (some_below (λ k. has a k && has b k) n))
  where
    small : bit_and a b < 2 ^ n
    small = let l = and_le_l a b in omega arith

    apart : some_below (λ k. has a k && has b k) n ≡ false → bit_and a b ≡ 0
    apart e = empty_mask n (bit_and a b) small (λ k l. has_and a b k ∙ none_below (λ k. has a k && has b k) n e k l)

    together : some_below (λ k. has a k && has b k) n ≡ true → bit_and a b ≡ 0 → ⊥
    together e z =
        true≢false (sym e ∙ no_some (λ k. has a k && has b k) n (λ k l. sym (has_and a b k) ∙ ap (λ x. has x k) z ∙ has_zero k))

    meets_by : (some_below (λ k. has a k && has b k) n ≡ true) ⊎ (some_below (λ k. has a k && has b k) n ≡ false) → eqb (bit_and a b) 0 ≡ not (some_below (λ k. has a k && has b k) n)
    meets_by (inl e) = ne_eqb (bit_and a b) 0 (together e) ∙ sym (ap not e)
    meets_by (inr e) = eq-eqb (bit_and a b) 0 (apart e) ∙ sym (ap not e)

-- one more number in a mask: its power is added
meets_power : (m k : ℕ) → has m k ≡ false → bit_and m (2 ^ k) ≡ 0
meets_power m k h = and_pow m k ∙ ap (λ x. x * 2 ^ k) (bit_out m k h) ∙ omega arith

pub or_power : (m k : ℕ) → has m k ≡ false → bit_or m (2 ^ k) ≡ m + 2 ^ k
or_power m k h = or_disjoint m (2 ^ k) (meets_power m k h)

pub has_added : (m k j : ℕ) → has m k ≡ false → has (m + 2 ^ k) j ≡ (has m j || eqb j k)
has_added m k j h = ap (λ x. has x j) (sym (or_power m k h)) ∙ has_or m (2 ^ k) j ∙ ap (λ b. has m j || b) (has_power k j)

pub added_below : (n m k : ℕ) → m < 2 ^ n → k < n → has m k ≡ false → m + 2 ^ k < 2 ^ n
added_below n m k a b h = subst (λ (x : ℕ). x < 2 ^ n) (or_power m k h) (or_lt n m (2 ^ k) a (pow_below k n b))

-- the mask of a test
pub mask_below : (p : ℕ → Bool) (n : ℕ) → mask_of p n < 2 ^ n
mask_below p zero = omega arith
mask_below p (suc n) = let h = mask_below p n in by h (p n)
  where
    by : mask_of p n < 2 ^ n → (b : Bool) → mask_of p n + cond b (2 ^ n) 0 < 2 ^ suc n
    by h true = omega arith
    by h false = omega arith

pub has_mask : (p : ℕ → Bool) (n k : ℕ) → has (mask_of p n) k ≡ (ltb k n && p k)
has_mask p zero k = has_zero k ∙ sym (and_left (ltb k 0) (p k) (le-ltb k 0 (omega arith)))
has_mask p (suc n) k = by (p n) refl (has_mask p n k) (cases_eq k n)
  where
    free : has (mask_of p n) n ≡ false
    free = has_past (mask_of p n) n n (mask_below p n) (omega arith)

    lower : (k ≡ n → ⊥) → ltb k n ≡ ltb k (suc n)
    lower e = grind (arith, nat_tests)

    by : (b : Bool) → p n ≡ b → has (mask_of p n) k ≡ (ltb k n && p k) → (k ≡ n) ⊎ (k ≡ n → ⊥) → has (mask_of p n + cond b (2 ^ n) 0) k ≡ (ltb k (suc n) && p k)
    by true e rest (inl q) =
        has_added (mask_of p n) n k free ∙ or_right (has (mask_of p n) k) (eqb k n) (eq-eqb k n q) ∙ sym (and_from (ltb k (suc n)) (p k) (lt-ltb k (suc n) (omega arith)) (ap p q ∙ e))
    by true e rest (inr q) =
        has_added (mask_of p n) n k free ∙ ap₂ ◌||◌ rest (ne_eqb k n q) ∙ or-false (ltb k n && p k) ∙ ap (λ b. b && p k) (lower q)
    by false e rest (inl q) =
        ap (λ m. has m k) (add-zero (mask_of p n)) ∙ rest ∙ and_left (ltb k n) (p k) (le-ltb k n (omega arith)) ∙ sym (and_right (ltb k (suc n)) (p k) (ap p q ∙ e))
    by false e rest (inr q) = ap (λ m. has m k) (add-zero (mask_of p n)) ∙ rest ∙ ap (λ b. b && p k) (lower q)

-- the ones of a mask are its members
bit_is : (m i : ℕ) → cond (has m i) 1 0 ≡ bit_at m i
unfolding has
bit_is m i = let h = bit_at-lt m i in grind (arith, nat_tests)

by_lanes : (n m : ℕ) → m < 2 ^ n → mask_l (map (has m) (range_with_len 0 n)) ≡ m
by_lanes n m h = same_from_bits (mask_l lanes) m (λ i. bit_mask_l lanes i ∙ by i (cases_lt i n))
  where
    lanes : List Bool
    lanes = map (has m) (range_with_len 0 n)

    by : (i : ℕ) → (i < n) ⊎ (n ≤ i) → cond (get_or lanes i false) 1 0 ≡ bit_at m i
    by i (inl l) = ap (λ b. cond b 1 0) (get_or-map-range_with_len (has m) 0 n i i false l (zero-add i)) ∙ bit_is m i
    by i (inr l) = ap (λ b. cond b 1 0) (get_or_past lanes i false (omega (arith, length-map-range_with_len (has m) 0 n))) ∙ sym (bit_at_above m n i h l)

pub ones_members : (n m : ℕ) → m < 2 ^ n → ones m ≡ length (members (has m) 0 n)
unfolding members
ones_members n m h =
    ap ones (sym (by_lanes n m h)) ∙ ones-mask_l (has m) (range_with_len 0 n) ∙ sym (length-filter (has m) (range_with_len 0 n))

-- the members of the mask of a test, over any longer range
pub members_mask : (p : ℕ → Bool) (n d : ℕ) → members (has (mask_of p n)) 0 (n + d) ≡ members p 0 n
members_mask p n d = members_longer (has (mask_of p n)) 0 n d (λ k h. has_past (mask_of p n) n k (mask_below p n) (omega arith)) ∙ members_same (has (mask_of p n)) p 0 n (λ k a b. has_mask p n k ∙ ap (λ b. b && p k) (lt-ltb k n (omega arith)))

pub ones_mask : (p : ℕ → Bool) (n : ℕ) → ones (mask_of p n) ≡ length (members p 0 n)
ones_mask p n = ones_members n (mask_of p n) (mask_below p n) ∙ ap length (members_same (has (mask_of p n)) p 0 n (λ k a b. has_mask p n k ∙ ap (λ b. b && p k) (lt-ltb k n (omega arith))))

-- a mask is 0 exactly where it has no members
pub zero_mask : (p : ℕ → Bool) (n : ℕ) → mask_of p n ≡ 0 → length (members p 0 n) ≡ 0
unfolding ones
zero_mask p n e = sym (ones_mask p n) ∙ ap ones e

pub some_mask : (p : ℕ → Bool) (n : ℕ) → (mask_of p n ≡ 0 → ⊥) → 0 < length (members p 0 n)
some_mask p n ne = by (cases_eq (length (members p 0 n)) 0)
  where
    by : (length (members p 0 n) ≡ 0) ⊎ (length (members p 0 n) ≡ 0 → ⊥) → 0 < length (members p 0 n)
    by (inl e) = absurd (ne (empty_mask n (mask_of p n) (mask_below p n) (λ k h. has_mask p n k ∙ and_right (ltb k n) (p k) (none_passes p 0 n e k (omega arith) (omega arith)))))
    by (inr e) = omega (arith, e)

-- the mask of a test, built by `mask | 1 << k` at each number that passes
members_last : (p : ℕ → Bool) (n : ℕ) → members p 0 (n + 1) ≡ members p 0 n ++ cond (p n) (n ∷ []) []
unfolding members
members_last p n =
    ap (filter p) (sym (map-id (range_with_len 0 (n + 1)))) ∙ filter_of_map_range_with_len_more p (λ x. x) 0 n n (zero-add n) ∙ ap (λ l. filter p l ++ cond (p n) (n ∷ []) []) (map-id (range_with_len 0 n))

abbrev joining : ℕ → ℕ → ℕ
joining m k = bit_or m ((1 * 2 ^ k) % 65536)

joined : (p : ℕ → Bool) (n : ℕ) → n < 16 → (p n ≡ true) ⊎ (p n ≡ false) → fold joining (mask_of p n) (cond (p n) (n ∷ []) []) ≡ mask_of p (suc n)
joined p n h (inl e) =
    ap (λ b. fold joining (mask_of p n) (cond b (n ∷ []) [])) e ∙ ap (bit_or (mask_of p n)) (one_shl n 16 h) ∙ or_power (mask_of p n) n (has_past (mask_of p n) n n (mask_below p n) (omega arith)) ∙ ap (λ b. mask_of p n + cond b (2 ^ n) 0) (sym e)
joined p n h (inr e) =
    ap (λ b. fold joining (mask_of p n) (cond b (n ∷ []) [])) e ∙ sym (add-zero (mask_of p n)) ∙ ap (λ b. mask_of p n + cond b (2 ^ n) 0) (sym e)

pub mask_fold : (p : ℕ → Bool) (n : ℕ) → n ≤ 16 → fold (λ m k. bit_or m ((1 * 2 ^ k) % 65536)) 0 (members p 0 n) ≡ mask_of p n
unfolding members
mask_fold p zero h = refl
mask_fold p (suc n) h =
    let a : suc n ≡ n + 1 = omega arith in
    ap (λ i. fold joining 0 (members p 0 i)) a ∙ ap (fold joining 0) (members_last p n) ∙ fold-append joining 0 (members p 0 n) (cond (p n) (n ∷ []) []) ∙ ap (λ m. fold joining m (cond (p n) (n ∷ []) [])) (mask_fold p n (omega arith)) ∙ joined p n (omega arith) (cases_Bool (p n))
