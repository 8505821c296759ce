-- The best near wall, option by option from the last to the first.
use Rattle.std.proofs.Common.{◌≡◌, ℕ, ◌+◌, ◌<◌, List, [], ◌∷◌, ◌++◌, length, get_or, take, drop, ℤ, sym, refl, ap, ◌∙◌, subst, arith}
use Rattle.std.proofs.lemmas.List.{drop_more, drop_all, length-drop, length_push, get_or_push, get_or-take, take_at, take-take}
use Rattle.std.proofs.lemmas.Int.{ints}
use Rattle.terms.specs.declared.side.Side.{Side}
use Rattle.terms.specs.declared.side.Side.TheVariants.{Left, Right}
use Rattle.terms.specs.Sides.{other, own}
use Rattle.walls.specs.declared.piece.Piece.{Piece}
use Rattle.walls.specs.Pieces.{greater_of, Linear}
use Rattle.walls.specs.Ranges.{Ranged}
use Rattle.thermographs.specs.declared.figures.Figures.{Figures}
use Rattle.thermographs.specs.Figures.{blank, wall_of}
use Rattle.thermographs.specs.Near.{near, best, SoundNear}

pub best_one : (s : Side) (corners : List ℕ) (f : Figures) → best s corners (f ∷ []) ≡ near s corners f
unfolding best
best_one s corners f = refl

pub best_cons : (s : Side) (corners : List ℕ) (f : Figures) (fs : List Figures) → 0 < length fs → best s corners (f ∷ fs) ≡ greater_of (near s corners f) (best s corners fs)
unfolding best
best_cons s corners f [] h = absurd (omega arith)
best_cons s corners f (g ∷ fs) h = refl

pub best_last : (s : Side) (corners : List ℕ) (fs : List Figures) (i t : ℕ) (p : Piece) → i + 1 ≡ length fs
    → Linear (near s corners (get_or fs i blank)) t p → Linear (best s corners (drop i fs)) t p
best_last s corners fs i t p l h =
    let e : drop i fs ≡ get_or fs i blank ∷ [] = drop_more fs i blank (omega arith) ∙ ap (λ r. get_or fs i blank ∷ r) (drop_all (i + 1) fs (omega arith)) in
    let q : near s corners (get_or fs i blank) ≡ best s corners (drop i fs) = sym (ap (best s corners) e ∙ best_one s corners (get_or fs i blank)) in
    subst (λ (f : ℕ → ℤ). Linear f t p) q h

pub best_more : (s : Side) (corners : List ℕ) (fs : List Figures) (i t : ℕ) (p : Piece) → i + 1 < length fs
    → Linear (greater_of (near s corners (get_or fs i blank)) (best s corners (drop (i + 1) fs))) t p → Linear (best s corners (drop i fs)) t p
best_more s corners fs i t p l h =
    let n : 0 < length (drop (i + 1) fs) = omega (arith, length-drop (i + 1) fs) in
    let q : greater_of (near s corners (get_or fs i blank)) (best s corners (drop (i + 1) fs)) ≡ best s corners (drop i fs) =
    sym (ap (best s corners) (drop_more fs i blank (omega arith)) ∙ best_cons s corners (get_or fs i blank) (drop (i + 1) fs) n) in
    subst (λ (f : ℕ → ℤ). Linear f t p) q h

-- the options that are still to come, of which the last is f
pub last_left : (fs left left' : List Figures) (f : Figures) → left ≡ left' ++ f ∷ [] → left ≡ take (length left) fs → length left < length fs
    → (f ≡ get_or fs (length left') blank) × (length left ≡ length left' + 1) × (left' ≡ take (length left') fs)
last_left fs left left' f e h lt =
    let n : length left ≡ length left' + 1 = ap length e ∙ length_push left' f in
    let at : f ≡ get_or left (length left') blank = sym (ap (λ (l : List Figures). get_or l (length left') blank) e ∙ get_or_push left' f blank (length left') refl) in (
      at ∙ ap (λ (l : List Figures). get_or l (length left') blank) h ∙ get_or-take (length left) fs (length left') blank (omega arith),
      n,
      sym (take_at left' (f ∷ []) (length left') refl) ∙ ap (take (length left')) (sym e ∙ h) ∙ take-take (length left') (length left) fs (omega arith),
    )

-- a figure turned is in range where the figure is
pub own_ranged : (s : Side) (v : ℤ) → Ranged v → Ranged (own s v)
own_ranged Left v h = h
own_ranged Right v h = (omega (arith, ints), omega (arith, ints))

pub own_back : (s : Side) (v : ℤ) → Ranged (own s v) → Ranged v
own_back Left v h = h
own_back Right v h = (omega (arith, ints), omega (arith, ints))

pub start_ranged : (s : Side) (corners : List ℕ) (f : Figures) → SoundNear s corners f → Ranged (wall_of f (other s)).start
start_ranged s corners f h = own_back s (wall_of f (other s)).start (let r = h.tame 0 in (omega (arith, ints), omega (arith, ints)))
