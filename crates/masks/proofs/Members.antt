-- The numbers that pass a test: how many, and which stands where.
use Rattle.std.proofs.Common.{◌≡◌, ℕ, zero, suc, ◌+◌, ◌-◌, ◌<◌, ◌≤◌, Bool, true, false, cond, ◌⊎◌, List, [], ◌∷◌, length, Some, sym, refl, ap, ◌∙◌, ap₂, inl, inr, zero-add, arith}
use Rattle.std.specs.List.{AllByRecursion, range_with_len}
use Rattle.std.proofs.lemmas.List.Elements.{All-from_get_or}
use Rattle.std.proofs.lemmas.List.Folds.{list_any_at, list_any_none}
use Rattle.std.proofs.lemmas.List.FromFn.{length-range_with_len, get_or-range_with_len}
use Rattle.std.proofs.lemmas.List.Sums.{length-filter, count_by-le-length}
use Rattle.std.proofs.lemmas.Bool.{true≢false, cases_Bool, cases_eq}
use Rattle.theory.specs.Trees.{at}
use Rattle.masks.specs.Masks.{members, some_below}

-- the next number is in, or it is passed over
pub members_in : (p : ℕ → Bool) (i n : ℕ) → p i ≡ true → members p i (suc n) ≡ i ∷ members p (i + 1) n
unfolding members
members_in p i n e = ap (λ b. cond b (i ∷ members p (i + 1) n) (members p (i + 1) n)) e

pub members_out : (p : ℕ → Bool) (i n : ℕ) → p i ≡ false → members p i (suc n) ≡ members p (i + 1) n
unfolding members
members_out p i n e = ap (λ b. cond b (i ∷ members p (i + 1) n) (members p (i + 1) n)) e

-- which member stands where
pub member_here : (p : ℕ → Bool) (i n k : ℕ) → p i ≡ true → k ≡ 0 → at (members p i (suc n)) k ≡ Some i
member_here p i n k e z = ap₂ at (members_in p i n e) z

pub member_next : (p : ℕ → Bool) (i n k : ℕ) → p i ≡ true → 0 < k → at (members p (i + 1) n) (k - 1) ≡ at (members p i (suc n)) k
member_next p i n k e z = let b : k ≡ suc (k - 1) = omega arith in sym (ap₂ at (members_in p i n e) b)

pub member_passed : (p : ℕ → Bool) (i n k : ℕ) → p i ≡ false → at (members p (i + 1) n) k ≡ at (members p i (suc n)) k
member_passed p i n k e = sym (ap (λ l. at l k) (members_out p i n e))

-- tests that agree on the range have the same members
pub members_same : (p q : ℕ → Bool) (i n : ℕ) → ((k : ℕ) → i ≤ k → k < i + n → p k ≡ q k) → members p i n ≡ members q i n
unfolding members
members_same p q i zero same = refl
members_same p q i (suc n) same =
    let here = same i (omega arith) (omega arith) in
    let rest = members_same p q (i + 1) n (λ k a b. same k (omega arith) (omega arith)) in
    cc

-- every member is in the range and passes
abbrev pub Member : (ℕ → Bool) → ℕ → ℕ → ℕ → Type 0
Member p i n k = (i ≤ k) × (k < i + n) × (p k ≡ true)

later : (p : ℕ → Bool) (i n : ℕ) (ks : List ℕ) → AllByRecursion (Member p (i + 1) n) ks → AllByRecursion (Member p i (suc n)) ks
later p i n [] h = tt
later p i n (k ∷ ks) h = ((omega arith, omega arith, h.0.2), later p i n ks h.1)

members_all_by : (p : ℕ → Bool) (i n : ℕ) → AllByRecursion (Member p (i + 1) n) (members p (i + 1) n) → (p i ≡ true) ⊎ (p i ≡ false) → AllByRecursion (Member p i (suc n)) (members p i (suc n))
members_all_by p i n h (inl e) = rw (members_in p i n e) ((omega arith, omega arith, e), later p i n (members p (i + 1) n) h)
members_all_by p i n h (inr e) = rw (members_out p i n e) (later p i n (members p (i + 1) n) h)

pub members_all : (p : ℕ → Bool) (i n : ℕ) → AllByRecursion (Member p i n) (members p i n)
unfolding members
members_all p i zero = tt
members_all p i (suc n) = members_all_by p i n (members_all p (i + 1) n) (cases_Bool (p i))

pub members_few : (p : ℕ → Bool) (i n : ℕ) → length (members p i n) ≤ n
unfolding members
members_few p i n = omega (arith, length-filter p (range_with_len i n), count_by-le-length p (range_with_len i n), length-range_with_len i n)

pub members_none : (p : ℕ → Bool) (i n : ℕ) → ((k : ℕ) → i ≤ k → k < i + n → p k ≡ false) → members p i n ≡ []
unfolding members
members_none p i zero none = refl
members_none p i (suc n) none =
    members_out p i n (none i (omega arith) (omega arith)) ∙ members_none p (i + 1) n (λ k a b. none k (omega arith) (omega arith))

-- numbers past the range that do not pass add nothing
pub members_longer : (p : ℕ → Bool) (i n d : ℕ) → ((k : ℕ) → i + n ≤ k → p k ≡ false) → members p i (n + d) ≡ members p i n
unfolding members
members_longer p i zero d none = ap (members p i) (zero-add d) ∙ members_none p i d (λ k a b. none k (omega arith))
members_longer p i (suc n) d none =
    let rest = members_longer p (i + 1) n d (λ k a. none k (omega arith)) in
    let e : suc n + d ≡ suc (n + d) = omega arith in
    ap (members p i) e ∙ ap (λ l. cond (p i) (i ∷ l) l) rest

-- where no number is a member, none passes
none_by : (p : ℕ → Bool) (i n : ℕ) → (p i ≡ true) ⊎ (p i ≡ false) → length (members p i (suc n)) ≡ 0 → (p i ≡ false) × (length (members p (i + 1) n) ≡ 0)
none_by p i n (inl e) h = absurd (omega (arith, ap length (members_in p i n e)))
none_by p i n (inr e) h = (e, omega (arith, ap length (members_out p i n e)))

none_at : (p : ℕ → Bool) (i k : ℕ) → p i ≡ false → (i + 1 ≤ k → p k ≡ false) → (i ≡ k) ⊎ (i ≡ k → ⊥) → i ≤ k → p k ≡ false
none_at p i k e rest (inl q) h = ap p (sym q) ∙ e
none_at p i k e rest (inr q) h = rest (omega (arith, q))

pub none_passes : (p : ℕ → Bool) (i n : ℕ) → length (members p i n) ≡ 0 → (k : ℕ) → i ≤ k → k < i + n → p k ≡ false
unfolding members
none_passes p i zero h k a b = absurd (omega arith)
none_passes p i (suc n) h k a b =
    let z = none_by p i n (cases_Bool (p i)) h in
    none_at p i k z.0 (λ c. none_passes p (i + 1) n z.1 k c (omega arith)) (cases_eq i k) a

-- one more number that passes, and no fewer others
fewer_by : (p q : ℕ → Bool) (i n : ℕ) → (q i ≡ true → p i ≡ true) → length (members q (i + 1) n) ≤ length (members p (i + 1) n) → (p i ≡ true) ⊎ (p i ≡ false) → (q i ≡ true) ⊎ (q i ≡ false) → length (members q i (suc n)) ≤ length (members p i (suc n))
fewer_by p q i n step h (inl e) (inl f) = rw (members_in p i n e, members_in q i n f) (omega arith)
fewer_by p q i n step h (inl e) (inr f) = rw (members_in p i n e, members_out q i n f) (omega arith)
fewer_by p q i n step h (inr e) (inl f) = absurd (true≢false (sym (step f) ∙ e))
fewer_by p q i n step h (inr e) (inr f) = rw (members_out p i n e, members_out q i n f) h

pub fewer : (p q : ℕ → Bool) → ((k : ℕ) → q k ≡ true → p k ≡ true) → (i n : ℕ) → length (members q i n) ≤ length (members p i n)
unfolding members
fewer p q step i zero = omega arith
fewer p q step i (suc n) = fewer_by p q i n (step i) (fewer p q step (i + 1) n) (cases_Bool (p i)) (cases_Bool (q i))

less_by : (p q : ℕ → Bool) (i n : ℕ) → (q i ≡ true → p i ≡ true) → length (members q (i + 1) n) < length (members p (i + 1) n) → (p i ≡ true) ⊎ (p i ≡ false) → (q i ≡ true) ⊎ (q i ≡ false) → length (members q i (suc n)) < length (members p i (suc n))
less_by p q i n step h (inl e) (inl f) = rw (members_in p i n e, members_in q i n f) (omega arith)
less_by p q i n step h (inl e) (inr f) = rw (members_in p i n e, members_out q i n f) (omega arith)
less_by p q i n step h (inr e) (inl f) = absurd (true≢false (sym (step f) ∙ e))
less_by p q i n step h (inr e) (inr f) = rw (members_out p i n e, members_out q i n f) h

module _ (p q : ℕ → Bool) (step : (k : ℕ) → q k ≡ true → p k ≡ true) (x : ℕ) (yes-p : p x ≡ true) (no-q : q x ≡ false) where
  less_at : (i n : ℕ) → (i ≡ x) ⊎ (i ≡ x → ⊥) → i ≤ x → (i + 1 ≤ x → length (members q (i + 1) n) < length (members p (i + 1) n)) → length (members q i (suc n)) < length (members p i (suc n))
  less_at i n (inl e) h rest =
      let f = fewer p q step (i + 1) n in
      rw (members_in p i n (ap p e ∙ yes-p), members_out q i n (ap q e ∙ no-q)) (omega arith)
  less_at i n (inr e) h rest = less_by p q i n (step i) (rest (omega (arith, e))) (cases_Bool (p i)) (cases_Bool (q i))

  pub less : (i n : ℕ) → i ≤ x → x < i + n → length (members q i n) < length (members p i n)
  unfolding members
  less i zero a b = absurd (omega arith)
  less i (suc n) a b = less_at i n (cases_eq i x) a (λ h. less (i + 1) n h (omega arith))

-- some number below n passes
pub some_at : (p : ℕ → Bool) (n k : ℕ) → k < n → p k ≡ true → some_below p n ≡ true
some_at p n k h e =
    list_any_at p (range_with_len 0 n) k 0 (omega (arith, length-range_with_len 0 n)) (ap p (get_or-range_with_len 0 n k 0 h ∙ zero-add k) ∙ e)

pub none_below : (p : ℕ → Bool) (n : ℕ) → some_below p n ≡ false → (k : ℕ) → k < n → p k ≡ false
none_below p n h k b = none_below_by (cases_Bool (p k))
  where
    none_below_by : (p k ≡ true) ⊎ (p k ≡ false) → p k ≡ false
    none_below_by (inl e) = absurd (true≢false (sym (some_at p n k b e) ∙ h))
    none_below_by (inr e) = e

pub no_some : (p : ℕ → Bool) (n : ℕ) → ((k : ℕ) → k < n → p k ≡ false) → some_below p n ≡ false
no_some p n h = list_any_none p (range_with_len 0 n) (All-from_get_or (λ k. p k ≡ false) (range_with_len 0 n) 0 (λ i l. let b : i < n = omega (arith, length-range_with_len 0 n) in ap p (get_or-range_with_len 0 n i 0 b ∙ zero-add i) ∙ h i b))

-- tests that agree below n agree on whether some number passes
pub some_same : (p q : ℕ → Bool) (n : ℕ) → ((k : ℕ) → k < n → p k ≡ q k) → some_below p n ≡ some_below q n
some_same p q n same = some_same_by (cases_Bool (some_below p n)) (cases_Bool (some_below q n))
  where
    some_same_by : (some_below p n ≡ true) ⊎ (some_below p n ≡ false) → (some_below q n ≡ true) ⊎ (some_below q n ≡ false) → some_below p n ≡ some_below q n
    some_same_by (inl a) (inl b) = a ∙ sym b
    some_same_by (inl a) (inr b) = no_some p n (λ k h. same k h ∙ none_below q n b k h) ∙ sym b
    some_same_by (inr a) (inl b) = a ∙ sym (no_some q n (λ k h. sym (same k h) ∙ none_below p n a k h))
    some_same_by (inr a) (inr b) = a ∙ sym b
