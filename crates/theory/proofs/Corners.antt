-- The corners of a wall: they are found, they draw it, and nothing else does.
use Rattle.std.proofs.Common.{◌≡◌, ℕ, zero, suc, ◌+◌, ◌%◌, ◌<◌, ◌≤◌, true, false, List, [], ◌∷◌, length, ℤ, pos, ◌+ℤ◌, ◌-ℤ◌, neg_ℤ, ◌≤ℤ◌, sym, refl, subst, inl, inr, arith}
use lib.Signed.{lt_z}
use borrow.Author.Differences.{ints}
use Rattle.std.proofs.lemmas.Int.{by_lt_z}
use Rattle.std.proofs.lemmas.Bool.{cases_lt, cases_eq, or_cases, or_parts}
use Rattle.terms.specs.declared.side.Side.{Side}
use Rattle.terms.specs.declared.side.Side.TheVariants.{Left, Right}
use Rattle.theory.specs.Trees.{Tree}
use Rattle.theory.specs.Fair.{Fair}
use Rattle.theory.specs.Walls.{wall, temperature, right_wall}
use Rattle.theory.specs.Corners.{In, Ordered, Corner, Corners, above, step, rising, falling, turns_after, scan, corners_of}
use Rattle.theory.specs.Laws.{WallsAreDrawn, DrawingIsSole, ListsTurn}
use Rattle.theory.proofs.Search.{by_bool}
use Rattle.theory.proofs.Grid.{fall_within}
use Rattle.theory.proofs.Meet.{walls}
use Rattle.theory.proofs.Sente.{flat}
use Rattle.theory.proofs.Rising.{Rising, ascends, ordered, above_all, above_none, none_in, turns, same_members}

-- a function that falls by 0 or 1 at each step
abbrev pub Gentle : (ℕ → ℤ) → Type 0
Gentle f = (t : ℕ) → (f (suc t) ≤ℤ f t) × (f t ≤ℤ (f (suc t) +ℤ pos 1))

-- it stands still from m on
abbrev pub Still : (ℕ → ℤ) → ℕ → Type 0
Still f m = (t : ℕ) → m ≤ t → f t ≡ f (suc t)

-- it falls as the list says
abbrev pub Steps : (ℕ → ℤ) → List ℕ → Type 0
Steps f cs = (t : ℕ) → (f t -ℤ f (suc t)) ≡ pos (step cs t)

-- ---- lists of corners
corners_each : (f : ℕ → ℤ) (cs : List ℕ) → Rising 0 cs → Steps f cs → (t : ℕ) → Corner f t → In t cs
corners_each f cs r h zero k = absurd k
corners_each f cs r h (suc t) k = (turns cs r t).1 (λ e. k (omega (arith, ints, h t, h (suc t))))

corners_only : (f : ℕ → ℤ) (cs : List ℕ) → Rising 0 cs → Steps f cs → (t : ℕ) → In t cs → Corner f t
corners_only f cs r h zero i = none_in 0 cs r 0 (omega arith) i
corners_only f cs r h (suc t) i = λ e. (turns cs r t).0 (omega (arith, ints, h t, h (suc t))) i

-- a function that falls as a rising list says has its corners there
pub steps_corners : (f : ℕ → ℤ) (cs : List ℕ) → Ordered cs → Steps f cs → Corners f cs
steps_corners f cs o h = record { ordered = o; each = corners_each f cs (ascends cs o) h; only = corners_only f cs (ascends cs o) h }

-- and the list draws it
pub steps_draw : (f : ℕ → ℤ) (cs : List ℕ) → Steps f cs → (t : ℕ) → f t ≡ falling (f 0) cs t
steps_draw f cs h zero = omega (arith, ints)
steps_draw f cs h (suc t) = omega (arith, ints, h t, steps_draw f cs h t)

turned_corner : (f g : ℕ → ℤ) → ((t : ℕ) → f t ≡ neg_ℤ (g t)) → (t : ℕ) → Corner g t → Corner f t
turned_corner f g h zero k = k
turned_corner f g h (suc t) k = λ e. k (omega (arith, ints, h t, h (suc t), h (suc (suc t))))

-- turned upside down it has the same corners
pub corners_turned : (f g : ℕ → ℤ) (cs : List ℕ) → ((t : ℕ) → f t ≡ neg_ℤ (g t)) → Corners g cs → Corners f cs
corners_turned f g cs h c = record {
  ordered = c.ordered;
  each = λ t k. c.each t (turned_corner g f (λ u. omega (arith, ints, h u)) t k);
  only = λ t i. turned_corner f g h t (c.only t i);
}

-- a function has one list of corners
pub corners_one : (f : ℕ → ℤ) (cs ds : List ℕ) → Corners f cs → Corners f ds → cs ≡ ds
corners_one f cs ds c d =
    same_members 0 cs ds (ascends cs c.ordered) (ascends ds d.ordered) (λ x i. d.each x (c.only x i)) (λ x i. c.each x (d.only x i))

falling_corners : (v : ℤ) (cs : List ℕ) → Ordered cs → Corners (falling v cs) cs
falling_corners v cs o = steps_corners (falling v cs) cs o (λ t. omega (arith, ints))

rising_corners : (v : ℤ) (cs : List ℕ) → Ordered cs → Corners (rising v cs) cs
rising_corners v cs o = corners_turned (rising v cs) (falling (neg_ℤ v) cs) cs (λ t. omega (arith, ints)) (falling_corners (neg_ℤ v) cs o)

pub lists_turn_lem : ListsTurn
lists_turn_lem cs o = record { falls = λ v. falling_corners v cs o; rises = λ v. rising_corners v cs o; one = λ f ds. corners_one f cs ds }

-- ---- a gentle function that comes to rest is drawn by its corners
corner_low : (f : ℕ → ℤ) (m : ℕ) → Still f m → (x : ℕ) → Corner f x → x ≤ m
corner_low f m h zero k = absurd k
corner_low f m h (suc t) k =
    elim (cases_lt t m) [ inl l ↦ omega arith | inr g ↦ absurd (k (omega (arith, ints, h t g, h (suc t) (omega arith)))) ]

unturned : (f : ℕ → ℤ) (t : ℕ) → (Corner f (suc t) → ⊥) → (f (suc (suc t)) -ℤ f (suc t)) ≡ (f (suc t) -ℤ f t)
unturned f t n =
    by_lt_z (f (suc (suc t)) -ℤ f (suc t)) (f (suc t) -ℤ f t) (λ h. absurd (n (λ e. omega (arith, ints))))
    (λ g. by_lt_z (f (suc t) -ℤ f t) (f (suc (suc t)) -ℤ f (suc t)) (λ h. absurd (n (λ e. omega (arith, ints)))) (λ h. omega (arith, ints)))

-- two numbers that are 0 or 1 and differ, from two others that do
flipped : (a b : ℤ) (m n : ℕ) → (pos 0 ≤ℤ a) × (a ≤ℤ pos 1) → b ≡ pos n → n < 2 → m < 2 → (m ≡ n → ⊥) → (b ≡ a → ⊥) → a ≡ pos m
flipped a b m n r e hn hm d k =
    by_lt_z a b (λ h. omega (arith, ints)) (λ g. by_lt_z b a (λ h. omega (arith, ints)) (λ h. absurd (k (omega (arith, ints)))))

module _ (f : ℕ → ℤ) (m : ℕ) (cs : List ℕ) (G : Gentle f) (S : Still f m) (C : Corners f cs) where
  steps_before : (k t : ℕ) → m ≤ k + t → (f t -ℤ f (suc t)) ≡ pos (step cs t)
  steps_before zero t h =
      let e : above cs t ≡ 0 = above_none cs t (λ x i. omega (arith, corner_low f m S x (C.only x i))) in
      omega (arith, ints, S t (omega arith))
  steps_before (suc k) t h =
      let d = steps_before k (suc t) (omega arith) in
      let w = turns cs (ascends cs C.ordered) t in
      elim (cases_eq (step cs t) (step cs (suc t))) [
        | inl e ↦ omega (arith, ints, unturned f t (λ c. w.0 e (C.each (suc t) c)))
        | inr n ↦
            let c = C.only (suc t) (w.1 n) in
            flipped (f t -ℤ f (suc t)) (f (suc t) -ℤ f (suc (suc t))) (step cs t) (step cs (suc t)) (omega (arith, ints, G t)) d (omega arith) (omega arith) n (λ e. c (omega (arith, ints)))
      ]

  pub corners_step : Steps f cs
  corners_step t = steps_before m t (omega arith)

-- ---- the corners are found
scan_yes : (f : ℕ → ℤ) (n t : ℕ) → turns_after f t ≡ true → scan f (suc n) t ≡ suc t ∷ scan f n (suc t)
unfolding scan
scan_yes f n t h = rw (h, scan) refl

scan_no : (f : ℕ → ℤ) (n t : ℕ) → turns_after f t ≡ false → scan f (suc n) t ≡ scan f n (suc t)
unfolding scan
scan_no f n t h = rw (h, scan) refl

scan_none : (f : ℕ → ℤ) (t : ℕ) → scan f zero t ≡ []
unfolding scan
scan_none f t = refl

turns_yes : (f : ℕ → ℤ) (t : ℕ) → turns_after f t ≡ true → Corner f (suc t)
turns_yes f t h =
    λ e. elim (or_cases (lt_z (f (suc (suc t)) -ℤ f (suc t)) (f (suc t) -ℤ f t)) (lt_z (f (suc t) -ℤ f t) (f (suc (suc t)) -ℤ f (suc t))) h) [
      | inl a ↦ omega (arith, ints, a)
      | inr b ↦ omega (arith, ints, b)
    ]

turns_no : (f : ℕ → ℤ) (t : ℕ) → turns_after f t ≡ false → Corner f (suc t) → ⊥
turns_no f t h k =
    let (a, b) = or_parts (lt_z (f (suc (suc t)) -ℤ f (suc t)) (f (suc t) -ℤ f t)) (lt_z (f (suc t) -ℤ f t) (f (suc (suc t)) -ℤ f (suc t))) h in
    k (omega (arith, ints, a, b))

scan_rising : (f : ℕ → ℤ) (n t p : ℕ) → p ≤ t → Rising p (scan f n t)
scan_rising f zero t p h = rw (scan_none f t) tt
scan_rising f (suc n) t p h =
    by_bool (turns_after f t) (λ e. rw (scan_yes f n t e) (omega arith, scan_rising f n (suc t) (suc t) (omega arith)))
    (λ e. rw (scan_no f n t e) (scan_rising f n (suc t) p (omega arith)))

scan_only : (f : ℕ → ℤ) (n t x : ℕ) → In x (scan f n t) → Corner f x
scan_only f zero t x i = absurd (rw (scan_none f t) at i)
scan_only f (suc n) t x i =
    by_bool (turns_after f t)
    (λ e. let j : In x (suc t ∷ scan f n (suc t)) = subst (In x) (scan_yes f n t e) i in
    elim j [ inl q ↦ subst (Corner f) q (turns_yes f t e) | inr r ↦ scan_only f n (suc t) x r ])
    (λ e. scan_only f n (suc t) x (subst (In x) (scan_no f n t e) i))

scan_each : (f : ℕ → ℤ) (n t x : ℕ) → t < x → x ≤ t + n → Corner f x → In x (scan f n t)
scan_each f zero t x l h k = absurd (omega arith)
scan_each f (suc n) t x l h k =
    elim (cases_eq (suc t) x) [
      | inl q ↦
          by_bool (turns_after f t) (λ e. subst (In x) (sym (scan_yes f n t e)) (inl q))
          (λ e. absurd (turns_no f t e (subst (Corner f) (sym q) k)))
      | inr d ↦
          let i = scan_each f n (suc t) x (omega arith) (omega arith) k in
          by_bool (turns_after f t) (λ e. subst (In x) (sym (scan_yes f n t e)) (inr i)) (λ e. subst (In x) (sym (scan_no f n t e)) i)
    ]

corner_high : (f : ℕ → ℤ) (x : ℕ) → Corner f x → 0 < x
corner_high f zero k = absurd k
corner_high f (suc t) k = omega arith

scan_corners : (f : ℕ → ℤ) (m : ℕ) → Still f m → Corners f (scan f m 0)
scan_corners f m h = record {
  ordered = ordered 0 (scan f m 0) (scan_rising f m 0 0 (omega arith));
  each = λ t k. scan_each f m 0 t (corner_high f t k) (omega (arith, corner_low f m h t k)) k;
  only = λ t i. scan_only f m 0 t i;
}

-- ---- the walls of a fair tree
pub wall_gentle : (x : Tree) (s : Side) → Fair x → Gentle (wall x s)
wall_gentle x s f t = fall_within 0 (wall x s t) (wall x s (suc t)) t ((walls x 0 (omega (arith, f.shallow)) f.warm f.scores).steps s t)

pub wall_still : (x : Tree) (s : Side) → Still (wall x s) (temperature x)
wall_still x s t h = flat s x t (suc t) h (omega arith)

pub wall_corners : (x : Tree) (s : Side) → Corners (wall x s) (corners_of x s)
unfolding corners_of
wall_corners x s = scan_corners (wall x s) (temperature x) (wall_still x s)

pub wall_steps : (x : Tree) (s : Side) → Fair x → Steps (wall x s) (corners_of x s)
wall_steps x s f = corners_step (wall x s) (temperature x) (corners_of x s) (wall_gentle x s f) (wall_still x s) (wall_corners x s)

wall_begins : (x : Tree) (s : Side) → Fair x → wall x s 0 ≡ (wall x s 1 +ℤ pos (length (corners_of x s) % 2))
wall_begins x s f =
    let cs : List ℕ = corners_of x s in
    let a : above cs 0 ≡ length cs = above_all 0 cs (ascends cs (wall_corners x s).ordered) 0 (omega arith) in
    omega (arith, ints, wall_steps x s f 0)

-- a list and a start that draw the wall in its side's terms are its own
pub drawn_by : (x : Tree) (s : Side) (v : ℤ) (cs : List ℕ) → Ordered cs → ((t : ℕ) → wall x s t ≡ falling v cs t) → (v ≡ wall x s 0) × (cs ≡ corners_of x s)
drawn_by x s v cs o h = (
  omega (arith, ints, h 0),
  corners_one (wall x s) cs (corners_of x s) (steps_corners (wall x s) cs o (λ t. omega (arith, ints, h t, h (suc t)))) (wall_corners x s),
)

pub walls_are_drawn_lem : WallsAreDrawn
walls_are_drawn_lem x f = record {
  left = wall_corners x Left;
  right = corners_turned (right_wall x) (wall x Right) (corners_of x Right) (λ t. refl) (wall_corners x Right);
  left_is = steps_draw (wall x Left) (corners_of x Left) (wall_steps x Left f);
  right_is = λ t. omega (arith, ints, steps_draw (wall x Right) (corners_of x Right) (wall_steps x Right f) t);
  left_begins = wall_begins x Left f;
  right_begins = omega (arith, ints, wall_begins x Right f);
  low = λ s t i. corner_low (wall x s) (temperature x) (wall_still x s) t ((wall_corners x s).only t i);
}

pub drawing_is_sole_lem : DrawingIsSole
drawing_is_sole_lem x = record {
  left = λ v cs o h. drawn_by x Left v cs o h;
  right = λ v cs o h.
      let (a, b) = drawn_by x Right (neg_ℤ v) cs o (λ t. omega (arith, ints, h t)) in
      (omega (arith, ints), b);
}
