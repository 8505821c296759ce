-- Going along a wall whose corners are ds, from one straight part to the next: what has been written is the front of ds.
use Rattle.std.proofs.Common.{◌≡◌, ℕ, zero, suc, ◌+◌, ◌-◌, ◌%◌, ◌<◌, ◌≤◌, Bool, true, false, ◌⊎◌, List, length, get_or, sym, refl, ap, ◌∙◌, subst, inl, inr, arith}
use Rattle.std.proofs.lemmas.Bool.{cases_lt, cases_eq, lt-ltb}
use Rattle.theory.specs.Corners.{Ordered, step}
use Rattle.theory.proofs.Rising.{ascends}
use Rattle.walls.specs.Pieces.{bit}
use Rattle.walls.specs.Turns.{turns}
use Rattle.walls.proofs.Straight.{above_at}

-- the first n corners lie below t and the others do not; s is the slope just before t
pub record Cut (ds : List ℕ) (n t : ℕ) (s : Bool) : Type 0 where
  pub front : n ≤ length ds
  pub below : (i : ℕ) → i < n → get_or ds i 0 < t
  pub next : n < length ds → t ≤ get_or ds n 0
  pub slope : 0 < t → (length ds - n) % 2 ≡ bit s

pub cut_none : (ds : List ℕ) (s : Bool) → Cut ds 0 0 s
cut_none ds s = record { front = omega arith; below = λ i h. absurd (omega arith); next = λ h. omega arith; slope = λ h. absurd (omega arith) }

-- the slope changes
differs : (m : ℕ) (s r : Bool) (t : ℕ) → 0 < t → suc m % 2 ≡ bit s → m % 2 ≡ bit r → turns s r t ≡ true
differs m true true t h a b = absurd (omega arith)
differs m false false t h a b = absurd (omega arith)
differs m true false t h a b = rw (lt-ltb 0 t h) refl
differs m false true t h a b = rw (lt-ltb 0 t h) refl

agrees : (m : ℕ) (s r : Bool) (t : ℕ) → 0 < t → m % 2 ≡ bit s → m % 2 ≡ bit r → turns s r t ≡ false
agrees m true true t h a b = rw (lt-ltb 0 t h) refl
agrees m false false t h a b = rw (lt-ltb 0 t h) refl
agrees m true false t h a b = absurd (omega arith)
agrees m false true t h a b = absurd (omega arith)

module _ (ds : List ℕ) (o : Ordered ds) where
  -- a corner lies above the one before it
  rises : (i : ℕ) → suc i < length ds → get_or ds i 0 < get_or ds (suc i) 0
  rises i h = o (suc i) h

  positive : (i : ℕ) → i < length ds → 0 < get_or ds i 0
  positive zero h = o 0 h
  positive (suc i) h = let a = o (suc i) h in omega arith

  step_at : (k u : ℕ) → k ≤ length ds → ((i : ℕ) → i < k → get_or ds i 0 ≤ u) → (k < length ds → u < get_or ds k 0) → step ds u ≡ (length ds - k) % 2
  step_at k u kl lo hi = ap (λ (m : ℕ). m % 2) (above_at 0 ds (ascends ds o) k u kl lo hi)

  -- on a straight part there is no corner
  no_corner : (n t e : ℕ) (r : Bool) → n < length ds → ((i : ℕ) → i < n → get_or ds i 0 ≤ t) → t < get_or ds n 0
      → ((u : ℕ) → t ≤ u → u < e → step ds u ≡ bit r) → e ≤ get_or ds n 0
  no_corner n t e r l lo hi h = elim (cases_lt (get_or ds n 0) e) [
    | inr g ↦ g
    | inl g ↦
        let d : ℕ = get_or ds n 0 in
        let a = h (d - 1) (omega arith) (omega arith) in
        let b = h d (omega arith) g in
        let p = step_at n (d - 1) (omega arith) (λ i k. omega (arith, lo i k)) (λ _. omega arith) in
        let q = step_at (suc n) d l (λ i k. upto i k) (λ k. rises n k) in
        absurd (omega arith)
  ]
    where
      upto : (i : ℕ) → i < suc n → get_or ds i 0 ≤ get_or ds n 0
      upto i k = elim (cases_eq i n) [ inl e ↦ omega (arith, ap (λ (j : ℕ). get_or ds j 0) e) | inr d ↦ omega (arith, lo i (omega arith)) ]

  -- one straight part on, from t to e with the slope r
  pub cut_more : (n t e : ℕ) (s r : Bool) → Cut ds n t s → t < e → ((u : ℕ) → t ≤ u → u < e → step ds u ≡ bit r)
      → ((turns s r t ≡ true) × (n < length ds) × (get_or ds n 0 ≡ t) × Cut ds (n + 1) e r) ⊎ ((turns s r t ≡ false) × Cut ds n e r)
  cut_more n t e s r c te h = elim (cases_lt n (length ds)) [
    | inr g ↦ inr (stays (λ k. absurd (omega arith)))
    | inl l ↦ elim (cases_lt t (get_or ds n 0)) [
      | inl k ↦ inr (stays (λ _. k))
      | inr k ↦ inl (turned l (omega (arith, c.next l)))
    ]
  ]
    where
      stays : (n < length ds → t < get_or ds n 0) → (turns s r t ≡ false) × Cut ds n e r
      stays hi =
          let p = step_at n t c.front (λ i k. omega (arith, c.below i k)) hi in
          let q = h t (omega arith) te in (
            elim (cases_lt 0 t) [
              | inl z ↦ agrees (length ds - n) s r t z (c.slope z) (sym p ∙ q)
              | inr z ↦ let w : t ≡ 0 = omega arith in rw w refl
            ],
            record {
              front = c.front;
              below = λ i k. omega (arith, c.below i k);
              next = λ l. no_corner n t e r l (λ i k. omega (arith, c.below i k)) (hi l) h;
              slope = λ _. sym p ∙ q;
            },
          )

      upto : (l : n < length ds) (at : get_or ds n 0 ≡ t) (i : ℕ) → i < n + 1 → get_or ds i 0 ≤ t
      upto l at i k = elim (cases_eq i n) [ inl w ↦ omega (arith, ap (λ (j : ℕ). get_or ds j 0) w) | inr d ↦ omega (arith, c.below i (omega arith)) ]

      turned : n < length ds → get_or ds n 0 ≡ t → (turns s r t ≡ true) × (n < length ds) × (get_or ds n 0 ≡ t) × Cut ds (n + 1) e r
      turned l at =
          let z = positive n l in
          let b : suc n ≡ n + 1 = omega arith in
          let hi : n + 1 < length ds → t < get_or ds (n + 1) 0 = λ k. subst (λ (j : ℕ). t < get_or ds j 0) b (omega (arith, rises n (omega arith))) in
          let p = step_at (n + 1) t (omega arith) (upto l at) hi in
          let q = h t (omega arith) te in
          let m : suc (length ds - (n + 1)) ≡ length ds - n = omega arith in (
            differs (length ds - (n + 1)) s r t (omega arith) (ap (λ (j : ℕ). j % 2) m ∙ c.slope (omega arith)) (sym p ∙ q),
            l,
            at,
            record {
              front = omega arith;
              below = λ i k. omega (arith, upto l at i k);
              next = λ k. no_corner (n + 1) t e r k (upto l at) (hi k) h;
              slope = λ _. sym p ∙ q;
            },
          )

  -- from t on the wall is a mast: after a turn there, all corners are written
  pub cut_all : (n t : ℕ) (s : Bool) → Cut ds n t s → ((u : ℕ) → t ≤ u → step ds u ≡ 0)
      → ((turns s false t ≡ true) × (n < length ds) × (get_or ds n 0 ≡ t) × (n + 1 ≡ length ds)) ⊎ ((turns s false t ≡ false) × (n ≡ length ds))
  cut_all n t s c h =
      elim (cut_more n t (suc t + (get_or ds n 0 + get_or ds (n + 1) 0)) s false c (omega arith) (λ u a b. h u a)) [
        | inl w ↦ inl (w.0, w.1, w.2, ends (n + 1) w.3 (omega arith))
        | inr w ↦ inr (w.0, ends n w.1 (omega arith))
      ]
    where
      ends : (k : ℕ) → Cut ds k (suc t + (get_or ds n 0 + get_or ds (n + 1) 0)) false → get_or ds k 0 < suc t + (get_or ds n 0 + get_or ds (n + 1) 0) → k ≡ length ds
      ends k d l = elim (cases_lt k (length ds)) [ inl g ↦ absurd (omega (arith, d.next g)) | inr g ↦ omega (arith, d.front) ]
