-- From one event to the next until the scaffolds have met.
use Rattle.std.proofs.Common.{◌≡◌, ℕ, zero, suc, ◌+◌, ◌-◌, ◌*◌, ◌<◌, ◌≤◌, List, [], ◌∷◌, length, get_or, ℤ, pos, ◌+ℤ◌, ◌-ℤ◌, ◌≤ℤ◌, ◌<ℤ◌, sym, subst, inl, inr, arith}
use Rattle.std.proofs.lemmas.Int.{ints, clamps}
use Rattle.std.proofs.lemmas.Bool.{cases_lt}
use Rattle.terms.specs.declared.side.Side.{Side}
use Rattle.theory.specs.Limits.{wall_limit}
use Rattle.walls.specs.declared.scaffold.Scaffolds.{Scaffolds}
use Rattle.walls.specs.Pieces.{climb, Linear}
use Rattle.walls.specs.Ranges.{Tame}
use Rattle.walls.proofs.Straight.{linear_at}
use Rattle.thermographs.specs.declared.figures.Figures.{Figures}
use Rattle.thermographs.specs.Figures.{blank}
use Rattle.thermographs.specs.Near.{best, SoundNear}
use Rattle.thermographs.proofs.Best.{best_one, best_cons}

-- the best of near walls in range is in range
pub best_tame : (s : Side) (corners : List ℕ) (fs : List Figures) → ((k : ℕ) → k < length fs → SoundNear s corners (get_or fs k blank)) → 0 < length fs → Tame (best s corners fs)
best_tame s corners [] h some = absurd (omega arith)
best_tame s corners (f ∷ []) h some = subst Tame (sym (best_one s corners f)) (h 0 (omega arith)).tame
best_tame s corners (f ∷ g ∷ fs) h some =
    let here = (h 0 (omega arith)).tame in
    let rest = best_tame s corners (g ∷ fs) (λ k l. h (suc k) (omega arith)) (omega arith) in
    subst Tame (sym (best_cons s corners f (g ∷ fs) (omega arith)))
    (λ u. let p = here u in let q = rest u in (omega (arith, ints, clamps), omega (arith, ints, clamps)))

-- the scaffolds have not met before t
abbrev pub Apart : (ℕ → ℤ) → (ℕ → ℤ) → ℕ → Type 0
Apart a b t = (u : ℕ) → u < t → pos (2 * u) <ℤ (a u +ℤ b u)

-- so t is in range
apart_low : (a b : ℕ → ℤ) (t : ℕ) → Tame a → Tame b → Apart a b t → t ≤ wall_limit
apart_low a b zero p q h = omega arith
apart_low a b (suc t) p q h = let x = p t in let y = q t in let z = h t (omega arith) in omega (arith, ints)

-- what is known at a tax
pub record Swept (a b : ℕ → ℤ) (at : Scaffolds) : Type 0 where
  pub ahead : (at.t < at.left.until) × (at.t < at.right.until)
  pub left : Linear a at.t at.left
  pub right : Linear b at.t at.right
  pub apart : Apart a b at.t

-- they stay apart up to e
apart_more : (a b : ℕ → ℤ) (at : Scaffolds) (e : ℕ) → Swept a b at → e ≤ at.left.until → e ≤ at.right.until
    → ((j : ℕ) → at.t + j < e → pos (2 * (at.t + j)) <ℤ ((at.left.value +ℤ pos (climb at.left.slope j)) +ℤ (at.right.value +ℤ pos (climb at.right.slope j)))) → Apart a b e
apart_more a b at e w el er open' u l = elim (cases_lt u at.t) [
  | inl g ↦ w.apart u g
  | inr g ↦
      let q : at.t + (u - at.t) ≡ u = omega arith in
      let x = w.left (u - at.t) (omega arith) in
      let y = w.right (u - at.t) (omega arith) in
      let z = open' (u - at.t) (omega arith) in
      let h : pos (2 * (at.t + (u - at.t))) <ℤ (a (at.t + (u - at.t)) +ℤ b (at.t + (u - at.t))) = omega (arith, ints) in
      subst (λ (v : ℕ). pos (2 * v) <ℤ (a v +ℤ b v)) q h
]

-- and e is in range
pub swept_next : (a b : ℕ → ℤ) (at : Scaffolds) (e : ℕ) → Tame a → Tame b → Swept a b at → e ≤ at.left.until → e ≤ at.right.until
    → ((j : ℕ) → at.t + j < e → pos (2 * (at.t + j)) <ℤ ((at.left.value +ℤ pos (climb at.left.slope j)) +ℤ (at.right.value +ℤ pos (climb at.right.slope j))))
    → Apart a b e × (e ≤ wall_limit)
swept_next a b at e p q w el er open' =
    let h = apart_more a b at e w el er open' in
    (h, apart_low a b e p q h)

-- the end: they have met
pub met_here : (a b : ℕ → ℤ) (at : Scaffolds) → Swept a b at → (at.left.value +ℤ at.right.value) ≤ℤ pos (2 * at.t)
    → ((a at.t +ℤ b at.t) ≤ℤ pos (2 * at.t)) × ((at.left.value -ℤ pos at.t) ≡ (a at.t -ℤ pos at.t))
met_here a b at w h =
    let p = linear_at a at.t at.left (omega (arith, w.ahead.0)) w.left in
    let q = linear_at b at.t at.right (omega (arith, w.ahead.1)) w.right in
    (omega (arith, ints), omega (arith, ints))
