-- Rising lists: how many of their numbers lie above t, and that their members determine them.
use Rattle.std.proofs.Common.{◌≡◌, ℕ, zero, suc, ◌-◌, ◌%◌, ◌<◌, ◌≤◌, true, false, ltb, ◌⊎◌, List, [], ◌∷◌, length, get_or, sym, refl, ap, subst, inl, inr, arith}
use Rattle.std.proofs.lemmas.Bool.{cases_lt, cases_order, lt-ltb, le-ltb}
use Rattle.theory.specs.Corners.{In, Ordered, above, step}

-- the corners rise strictly, and the first lies above p
abbrev pub Rising : ℕ → List ℕ → Type 0
Rising p [] = Unit {0}
Rising p (c ∷ cs) = (p < c) × Rising c cs

rising_from : (p : ℕ) (cs : List ℕ) → ((i : ℕ) → i < length cs → get_or (p ∷ cs) i 0 < get_or cs i 0) → Rising p cs
rising_from p [] h = tt
rising_from p (c ∷ cs) h = (h 0 (omega arith), rising_from c cs (λ i l. h (suc i) (omega arith)))

pub ascends : (cs : List ℕ) → Ordered cs → Rising 0 cs
ascends cs h = rising_from 0 cs h

pub above_all : (p : ℕ) (cs : List ℕ) → Rising p cs → (t : ℕ) → t ≤ p → above cs t ≡ length cs
above_all p [] r t h = refl
above_all p (c ∷ cs) r t h =
    let ih : above cs t ≡ length cs = above_all c cs r.1 t (omega arith) in
    let l : ltb t c ≡ true = lt-ltb t c (omega arith) in
    rw l (omega arith)

-- none of the corners lies at or below p
pub none_in : (p : ℕ) (cs : List ℕ) → Rising p cs → (x : ℕ) → x ≤ p → In x cs → ⊥
none_in p [] r x h i = i
none_in p (c ∷ cs) r x h (inl e) = omega arith
none_in p (c ∷ cs) r x h (inr i) = none_in c cs r.1 x (omega arith) i

-- the number of corners above falls by one at each corner, and only there
pub above_suc : (p : ℕ) (cs : List ℕ) → Rising p cs → (t : ℕ)
    → ((above cs t ≡ above cs (suc t)) × (In (suc t) cs → ⊥)) ⊎ ((above cs t ≡ suc (above cs (suc t))) × In (suc t) cs)
above_suc p [] r t = inl (refl, λ i. i)
above_suc p (c ∷ cs) r t =
    elim (cases_order c (suc t)) [
      | inl e ↦
          let a : ltb t c ≡ true = lt-ltb t c (omega arith) in
          let b : ltb (suc t) c ≡ false = le-ltb (suc t) c (omega arith) in
          let now-all : above cs t ≡ length cs = above_all c cs r.1 t (omega arith) in
          let then-all : above cs (suc t) ≡ length cs = above_all c cs r.1 (suc t) (omega arith) in
          rw (a, b) (inr (omega arith, inl e))
      | inr o ↦ elim o [
        | inl l ↦
            let a : ltb t c ≡ false = le-ltb t c (omega arith) in
            let b : ltb (suc t) c ≡ false = le-ltb (suc t) c (omega arith) in
            rw (a, b) (elim (above_suc c cs r.1 t) [
              | inl h ↦ inl (h.0, λ i. elim i [ inl e ↦ omega arith | inr j ↦ h.1 j ])
              | inr h ↦ inr (h.0, inr h.1)
            ])
        | inr g ↦
            let a : ltb t c ≡ true = lt-ltb t c (omega arith) in
            let b : ltb (suc t) c ≡ true = lt-ltb (suc t) c (omega arith) in
            rw (a, b) (elim (above_suc c cs r.1 t) [
              | inl h ↦ inl (ap suc h.0, λ i. elim i [ inl e ↦ omega arith | inr j ↦ h.1 j ])
              | inr h ↦ inr (ap suc h.0, inr h.1)
            ])
      ]
    ]

-- a step turns at each corner, and only there
pub turns : (cs : List ℕ) → Rising 0 cs → (t : ℕ) → (step cs t ≡ step cs (suc t) → In (suc t) cs → ⊥) × ((step cs t ≡ step cs (suc t) → ⊥) → In (suc t) cs)
turns cs r t = elim (above_suc 0 cs r t) [
  | inl h ↦ (λ _ i. h.1 i, λ n. absurd (n (ap (λ (m : ℕ). m % 2) h.0)))
  | inr h ↦ (λ e _. omega arith, λ _. h.1)
]

-- k of them lie at or below u
pub above_at : (p : ℕ) (cs : List ℕ) → Rising p cs → (k u : ℕ) → k ≤ length cs → ((i : ℕ) → i < k → get_or cs i 0 ≤ u)
    → (k < length cs → u < get_or cs k 0) → above cs u ≡ length cs - k
above_at p [] r k u kl lo hi = omega arith
above_at p (c ∷ cs) r zero u kl lo hi =
    let lt : u < c = hi (omega arith) in
    let a : ltb u c ≡ true = lt-ltb u c lt in
    let e : above cs u ≡ length cs = above_all c cs r.1 u (omega arith) in
    rw a (omega arith)
above_at p (c ∷ cs) r (suc k) u kl lo hi =
    let le : c ≤ u = lo 0 (omega arith) in
    let a : ltb u c ≡ false = le-ltb u c le in
    let e : above cs u ≡ length cs - k = above_at c cs r.1 k u (omega arith) (λ i h. lo (suc i) (omega arith)) (λ h. hi (omega arith)) in
    rw a (omega arith)

-- ---- members
pub in_above : (p : ℕ) (cs : List ℕ) → Rising p cs → (x : ℕ) → In x cs → p < x
in_above p cs r x i = elim (cases_lt p x) [ inl l ↦ l | inr g ↦ absurd (none_in p cs r x g i) ]

-- a part has no more members
pub subset_length : (p : ℕ) (ks cs : List ℕ) → Rising p ks → Rising p cs → ((x : ℕ) → In x ks → In x cs) → length ks ≤ length cs
subset_length p [] cs rk rc h = omega arith
subset_length p (k ∷ ks) [] rk rc h = absurd (h k (inl refl))
subset_length p (k ∷ ks) (c ∷ cs) rk rc h = elim (h k (inl refl)) [
  | inl e ↦
      let ih : length ks ≤ length cs =
      subset_length k ks cs rk.1 (subst (λ (x : ℕ). Rising x cs) e rc.1)
      (λ x i. elim (h x (inr i)) [ inl q ↦ absurd (omega (arith, in_above k ks rk.1 x i)) | inr j ↦ j ]) in
      omega arith
  | inr j ↦
      let l = in_above c cs rc.1 k j in
      let ih : length (k ∷ ks) ≤ length cs =
      subset_length c (k ∷ ks) cs (l, rk.1) rc.1
      (λ x i. elim (h x i) [
        | inl q ↦ absurd (elim i [ inl w ↦ omega arith | inr v ↦ omega (arith, in_above k ks rk.1 x v) ])
        | inr v ↦ v
      ]) in
      omega arith
]

-- two that have the same members are one
pub same_members : (p : ℕ) (cs ds : List ℕ) → Rising p cs → Rising p ds → ((x : ℕ) → In x cs → In x ds) → ((x : ℕ) → In x ds → In x cs) → cs ≡ ds
same_members p [] [] rc rd f g = refl
same_members p [] (d ∷ ds) rc rd f g = absurd (g d (inl refl))
same_members p (c ∷ cs) [] rc rd f g = absurd (f c (inl refl))
same_members p (c ∷ cs) (d ∷ ds) rc rd f g =
    let le : d ≤ c = elim (f c (inl refl)) [ inl e ↦ omega arith | inr j ↦ omega (arith, in_above d ds rd.1 c j) ] in
    let ge : c ≤ d = elim (g d (inl refl)) [ inl e ↦ omega arith | inr j ↦ omega (arith, in_above c cs rc.1 d j) ] in
    let e : c ≡ d = omega arith in
    let t : cs ≡ ds =
    same_members c cs ds rc.1 (subst (λ (x : ℕ). Rising x ds) (sym e) rd.1)
    (λ x i. elim (f x (inr i)) [ inl q ↦ absurd (omega (arith, in_above c cs rc.1 x i)) | inr j ↦ j ])
    (λ x i. elim (g x (inr i)) [ inl q ↦ absurd (omega (arith, in_above d ds rd.1 x i)) | inr j ↦ j ]) in
    cc

-- a rising list by its numbers' places
pub ordered : (p : ℕ) (cs : List ℕ) → Rising p cs → (i : ℕ) → i < length cs → get_or (p ∷ cs) i 0 < get_or cs i 0
ordered p [] r i h = absurd (omega arith)
ordered p (c ∷ cs) r zero h = r.0
ordered p (c ∷ cs) r (suc i) h = ordered c cs r.1 i (omega arith)

-- above what no member passes there is none
pub above_none : (cs : List ℕ) (t : ℕ) → ((x : ℕ) → In x cs → x ≤ t) → above cs t ≡ 0
above_none [] t h = refl
above_none (c ∷ cs) t h = rw (le-ltb t c (h c (inl refl))) (above_none cs t (λ x i. h x (inr i)))
