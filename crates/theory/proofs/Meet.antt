-- Walls meet: one induction over a tree gives the slopes, the order, the start, the bounds and the meeting.
use Rattle.std.proofs.Common.{◌≡◌, ℕ, zero, suc, ◌+◌, ◌<◌, ◌≤◌, min, max, true, ℤ, pos, ◌+ℤ◌, ◌-ℤ◌, ◌*ℤ◌, neg_ℤ, ◌≤ℤ◌, ◌<ℤ◌, sym, refl, ap, ◌∙◌, subst, arith}
use native.Mathlib.Decide.{dec_lt}
use lib.Signed.{le_z}
use borrow.Author.Differences.{ints}
use Rattle.std.proofs.lemmas.Int.{clamps}
use Rattle.terms.specs.declared.side.Side.{Side}
use Rattle.terms.specs.declared.side.Side.TheVariants.{Left, Right}
use Rattle.terms.specs.Sides.{other, own}
use Rattle.theory.specs.Limits.{unit, greatest_height, wall_limit}
use Rattle.theory.specs.Trees.{Tree, Forest, ended, branch, one, more, height, height_f, Within, WithinF}
use Rattle.theory.specs.Stops.{stop, stop_f, Warm, WarmF}
use Rattle.theory.specs.Fair.{Fair}
use Rattle.theory.specs.Walls.{meeting, wall, scaffold, temperature, mean}
use Rattle.theory.specs.Laws.{ScaffoldsMeet, WallsSlope}
use Rattle.theory.proofs.Grid.{Div, div_down, div_neg, Fall, still, fall_turn, fall_same, fall_within, fall_max, fall_meet, fall_down, fall_start, points}
use Rattle.theory.proofs.Search.{least_before, least_passes}

-- ---- a scaffold, in its side's terms
pub record Scaffold (n : ℕ) (f : ℕ → ℤ) (z : ℤ) : Type 0 where
  pub steps : (t : ℕ) → Fall n (f t) (f (suc t)) t
  pub start : f 0 ≡ (pos unit *ℤ z)
  pub high : (t : ℕ) → f t ≤ℤ (pos wall_limit -ℤ pos t)

-- two scaffolds at the place where they first meet
pub record Meets (n : ℕ) (f g : ℕ → ℤ) (m : ℕ) : Type 0 where
  pub apart : (t : ℕ) → t < m → pos 0 <ℤ (f t +ℤ g t)
  pub meet : (f m +ℤ g m) ≡ pos 0
  pub grid : Div n (f m)

pub meeting_before : (f g : ℕ → ℤ) (t : ℕ) → t < meeting f g → pos 0 <ℤ (f t +ℤ g t)
unfolding meeting
meeting_before f g t h =
    let e = least_before (λ t. le_z (f t +ℤ g t) (pos 0)) wall_limit 0 t (omega arith) h in omega (arith, ints)

pub meeting_passes : (f g : ℕ → ℤ) → (f wall_limit +ℤ g wall_limit) ≤ℤ pos 0 → (f (meeting f g) +ℤ g (meeting f g)) ≤ℤ pos 0
unfolding meeting
meeting_passes f g h =
    let z : wall_limit ≡ 0 + wall_limit = omega arith in
    let q : le_z (f (0 + wall_limit) +ℤ g (0 + wall_limit)) (pos 0) ≡ true =
    let o : true ≡ le_z (f wall_limit +ℤ g wall_limit) (pos 0) = omega (arith, ints) in
    subst (λ x. le_z (f x +ℤ g x) (pos 0) ≡ true) z (sym o) in
    let e = least_passes (λ t. le_z (f t +ℤ g t) (pos 0)) wall_limit 0 q in omega (arith, ints)

pub meets : (n : ℕ) (f g : ℕ → ℤ) (y z : ℤ) → Scaffold (suc n) f y → Scaffold (suc n) g z → pos 0 ≤ℤ (y +ℤ z) → Meets n f g (meeting f g)
meets n f g y z F G w = record { apart = meeting_before f g; meet = got.0; grid = got.1 }
  where
    low : (f (meeting f g) +ℤ g (meeting f g)) ≤ℤ pos 0
    low = meeting_passes f g (omega (arith, ints, F.high wall_limit, G.high wall_limit))

    at : (m : ℕ) → ((t : ℕ) → t < m → pos 0 <ℤ (f t +ℤ g t)) → (f m +ℤ g m) ≤ℤ pos 0 → ((f m +ℤ g m) ≡ pos 0) × Div n (f m)
    at zero b l = (omega (arith, ints, F.start, G.start), div_down n (f 0) (fall_start (suc n) (f 0) (f 1) (F.steps 0)))
    at (suc t) b l = fall_meet n (f t) (f (suc t)) (g t) (g (suc t)) t (F.steps t) (G.steps t) (b t (omega arith)) l

    got : ((f (meeting f g) +ℤ g (meeting f g)) ≡ pos 0) × Div n (f (meeting f g))
    got = at (meeting f g) (meeting_before f g) low

-- ---- the walls of a tree
pub record Walls (n : ℕ) (x : Tree) : Type 0 where
  pub steps : (s : Side) (t : ℕ) → Fall n (wall x s t) (wall x s (suc t)) t
  pub start : (s : Side) → wall x s 0 ≡ (pos unit *ℤ stop x s)
  pub order : (t : ℕ) → pos 0 ≤ℤ (wall x Left t +ℤ wall x Right t)
  pub high : (s : Side) (t : ℕ) → wall x s t ≤ℤ pos wall_limit

-- a scaffold, cut at the mast
module _ (n : ℕ) (f g : ℕ → ℤ) (m : ℕ) (M : Meets n f g m) where
  cut_left_lem : (z : ℤ) → Scaffold (suc n) f z → (t : ℕ) → Fall n (f (min t m)) (f (min (suc t) m)) t
  cut_left_lem z F t =
      elim (dec_lt t m) [
        | yes h ↦
            let p : t ≡ min t m = omega arith in
            let q : suc t ≡ min (suc t) m = omega arith in
            fall_same n (f t) (f (suc t)) _ _ t (ap f p) (ap f q) (fall_down n (f t) (f (suc t)) t (F.steps t))
        | no h ↦
            let p : m ≡ min t m = omega arith in
            let q : m ≡ min (suc t) m = omega arith in
            fall_same n (f m) (f m) _ _ t (ap f p) (ap f q) (still refl M.grid)
      ]

  cut_order : (t : ℕ) → pos 0 ≤ℤ (f (min t m) +ℤ g (min t m))
  cut_order t =
      elim (dec_lt t m) [
        | yes h ↦
            let p : t ≡ min t m = omega arith in
            subst (λ u. pos 0 ≤ℤ (f u +ℤ g u)) p (omega (arith, ints, M.apart t h))
        | no h ↦
            let p : m ≡ min t m = omega arith in
            subst (λ u. pos 0 ≤ℤ (f u +ℤ g u)) p (omega (arith, ints, M.meet))
      ]

meets_swap : (n : ℕ) (f g : ℕ → ℤ) (m : ℕ) → Meets n f g m → Meets n g f m
meets_swap n f g m M = record {
  apart = λ t h. omega (arith, ints, M.apart t h);
  meet = omega (arith, ints, M.meet);
  grid = let q : neg_ℤ (f m) ≡ g m = omega (arith, ints, M.meet) in subst (Div n) q (div_neg n (f m) M.grid);
}

ended_walls : (n : ℕ) (v : ℤ) → n ≤ greatest_height → Within (ended v) → Walls n (ended v)
unfolding wall stop
ended_walls n v h w = record {
  steps = λ s t. still refl (points n (own s v) h);
  start = λ s. refl;
  order = λ t. omega (arith, ints);
  high = elim [ Left ↦ λ t. omega (arith, ints) | Right ↦ λ t. omega (arith, ints) ];
}

branch_walls : (n : ℕ) (L R : Forest) → Scaffold (suc n) (scaffold L Left) (stop_f L Left) → Scaffold (suc n) (scaffold R Right) (stop_f R Right)
    → pos 0 ≤ℤ (stop_f L Left +ℤ stop_f R Right) → Walls n (branch L R)
unfolding wall stop
branch_walls n L R F G w = record {
  steps = elim [ Left ↦ cut_left_lem n f g m M (stop_f L Left) F | Right ↦ cut_left_lem n g f m N (stop_f R Right) G ];
  start = elim [ Left ↦ first ∙ F.start | Right ↦ ap g zero_first ∙ G.start ];
  order = cut_order n f g m M;
  high = elim [ Left ↦ (λ t. omega (arith, ints, F.high (min t m))) | Right ↦ (λ t. omega (arith, ints, G.high (min t m))) ];
}
  where
    f : ℕ → ℤ
    f = scaffold L Left

    g : ℕ → ℤ
    g = scaffold R Right

    m : ℕ
    m = meeting (scaffold L Left) (scaffold R Right)

    M : Meets n f g m
    M = meets n (scaffold L Left) (scaffold R Right) (stop_f L Left) (stop_f R Right) F G w

    N : Meets n g f m
    N = meets_swap n f g m M

    zero_first : min 0 m ≡ 0
    zero_first = omega arith

    first : f (min 0 m) ≡ f 0
    first = ap f zero_first

one_scaffold : (n : ℕ) (x : Tree) (s : Side) → Walls n x → Scaffold n (scaffold (one x) s) (stop_f (one x) s)
unfolding wall stop
one_scaffold n x s W = record {
  steps = λ t. fall_turn n (wall x (other s) t) (wall x (other s) (suc t)) t (W.steps (other s) t);
  start = omega (arith, ints, W.start (other s));
  high = λ t. omega (arith, ints, cover s t);
}
  where
    cover : (s : Side) (t : ℕ) → neg_ℤ (wall x (other s) t) ≤ℤ pos wall_limit
    cover Left t = omega (arith, ints, W.order t, W.high Left t)
    cover Right t = omega (arith, ints, W.order t, W.high Right t)

more_scaffold : (n : ℕ) (x : Tree) (F : Forest) (s : Side) → Scaffold n (scaffold (one x) s) (stop_f (one x) s) → Scaffold n (scaffold F s) (stop_f F s)
    → Scaffold n (scaffold (more x F) s) (stop_f (more x F) s)
unfolding wall stop
more_scaffold n x F s X G = record {
  steps = λ t. fall_max n (scaffold (one x) s t) (scaffold (one x) s (suc t)) (scaffold F s t) (scaffold F s (suc t)) t (X.steps t) (G.steps t);
  start = omega (arith, ints, clamps, X.start, G.start);
  high = λ t. omega (arith, ints, clamps, X.high t, G.high t);
}

pub branch_height : (L R : Forest) → height (branch L R) ≡ suc (max (height_f L) (height_f R))
unfolding height
branch_height L R = refl

pub one_height : (x : Tree) → height_f (one x) ≡ height x
unfolding height
one_height x = refl

pub more_height : (x : Tree) (F : Forest) → height_f (more x F) ≡ max (height x) (height_f F)
unfolding height
more_height x F = refl

mutual
  pub walls : (x : Tree) (n : ℕ) → n + height x ≤ greatest_height → Warm x → Within x → Walls n x
  walls (ended v) n h w b = ended_walls n v (omega arith) b
  walls (branch L R) n h w b =
      branch_walls n L R (scaffolds L (suc n) Left (omega (arith, branch_height L R)) w.1 b.0) (scaffolds R (suc n) Right (omega (arith, branch_height L R)) w.2 b.1) w.0

  pub scaffolds : (F : Forest) (n : ℕ) (s : Side) → n + height_f F ≤ greatest_height → WarmF F → WithinF F → Scaffold n (scaffold F s) (stop_f F s)
  scaffolds (one x) n s h w b = one_scaffold n x s (walls x n (omega (arith, one_height x)) w b)
  scaffolds (more x F) n s h w b =
      more_scaffold n x F s (one_scaffold n x s (walls x n (omega (arith, more_height x F)) w.0 b.0))
      (scaffolds F n s (omega (arith, more_height x F)) w.1 b.1)

-- ---- the theorems
pub branch_meets : (L R : Forest) → height (branch L R) ≤ greatest_height → Warm (branch L R) → Within (branch L R)
    → Meets 0 (scaffold L Left) (scaffold R Right) (meeting (scaffold L Left) (scaffold R Right))
branch_meets L R h w b =
    meets 0 (scaffold L Left) (scaffold R Right) (stop_f L Left) (stop_f R Right) (scaffolds L 1 Left (omega (arith, branch_height L R)) w.1 b.0)
    (scaffolds R 1 Right (omega (arith, branch_height L R)) w.2 b.1) w.0

-- a wall is its scaffold, cut at the temperature
pub wall_left_lem : (L R : Forest) (a : ℕ) → wall (branch L R) Left a ≡ scaffold L Left (min a (temperature (branch L R)))
unfolding wall temperature
wall_left_lem L R a = refl

pub wall_right_lem : (L R : Forest) (a : ℕ) → wall (branch L R) Right a ≡ scaffold R Right (min a (temperature (branch L R)))
unfolding wall temperature
wall_right_lem L R a = refl

-- the temperature, by the place where the scaffolds have met and nowhere before
pub temperature_is : (L R : Forest) (m : ℕ) → Fair (branch L R) → (scaffold L Left m +ℤ scaffold R Right m) ≤ℤ pos 0
    → ((t : ℕ) → t < m → pos 0 <ℤ (scaffold L Left t +ℤ scaffold R Right t)) → temperature (branch L R) ≡ m
unfolding temperature
temperature_is L R m f h k =
    let M = branch_meets L R f.shallow f.warm f.scores in
    let T : ℕ = meeting (scaffold L Left) (scaffold R Right) in
    elim (dec_lt m T) [
      | yes l ↦ absurd (omega (arith, ints, M.apart m l))
      | no g ↦ elim (dec_lt T m) [ yes l ↦ absurd (omega (arith, ints, M.meet, k T l)) | no l ↦ omega arith ]
    ]

pub mean_is : (L R : Forest) → mean (branch L R) ≡ scaffold L Left (temperature (branch L R))
unfolding mean temperature
mean_is L R = refl

meets_here : (L R : Forest) → Fair (branch L R) → Meets 0 (scaffold L Left) (scaffold R Right) (temperature (branch L R))
unfolding temperature
meets_here L R f = branch_meets L R f.shallow f.warm f.scores

pub scaffolds_meet_lem : ScaffoldsMeet
scaffolds_meet_lem L R f =
    let M = meets_here L R f in
    record {
      equal = omega (arith, ints, M.meet);
      before = λ t h. omega (arith, ints, M.apart t h);
      left = λ t h. let q : min t (temperature (branch L R)) ≡ t = omega arith in wall_left_lem L R t ∙ ap (scaffold L Left) q;
      right = λ t h. let q : min t (temperature (branch L R)) ≡ t = omega arith in ap neg_ℤ (wall_right_lem L R t ∙ ap (scaffold R Right) q);
    }

pub walls_slope_lem : WallsSlope
walls_slope_lem x f = record {
  falls = λ t. fall_within 0 (wall x Left t) (wall x Left (suc t)) t (W.steps Left t);
  rises = λ t. rise (fall_within 0 (wall x Right t) (wall x Right (suc t)) t (W.steps Right t));
  order = λ t. omega (arith, ints, W.order t);
  start_left = W.start Left;
  start_right = omega (arith, ints, W.start Right);
}
  where
    W : Walls 0 x
    W = walls x 0 (omega (arith, f.shallow)) f.warm f.scores

    rise : {a b : ℤ} → (b ≤ℤ a) × (a ≤ℤ (b +ℤ pos 1)) → (neg_ℤ a ≤ℤ neg_ℤ b) × (neg_ℤ b ≤ℤ (neg_ℤ a +ℤ pos 1))
    rise h = omega (arith, ints)
