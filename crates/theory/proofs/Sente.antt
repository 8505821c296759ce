-- Sentestrat: the steps, and the bounds on a sum that follow.
use Rattle.std.proofs.Common.{◌≡◌, ℕ, zero, suc, ◌+◌, ◌-◌, ◌<◌, ◌≤◌, min, ◌⊎◌, List, [], ◌∷◌, map, ℤ, pos, ◌+ℤ◌, ◌-ℤ◌, ◌*ℤ◌, neg_ℤ, ◌≤ℤ◌, sym, refl, ap, ◌∙◌, subst, inl, inr, arith}
use native.Mathlib.Decide.{dec_le}
use borrow.Author.Differences.{ints}
use Rattle.std.proofs.lemmas.Int.{clamps, by_lt_z}
use Rattle.terms.specs.declared.side.Side.{Side}
use Rattle.terms.specs.declared.side.Side.TheVariants.{Left, Right}
use Rattle.terms.specs.Sides.{other}
use Rattle.theory.specs.Limits.{unit}
use Rattle.theory.specs.Trees.{Tree, Forest, ended, branch, one, more, height, height_f, Within, WithinF, trees, options, Open, Ended}
use Rattle.theory.specs.Stops.{stop_f, Warm, WarmF}
use Rattle.theory.specs.Fair.{Fair}
use Rattle.theory.specs.Walls.{meeting, wall, scaffold, temperature, mean}
use Rattle.theory.specs.Sums.{Part, here, there, put, placed, moves, sum_of, score, greatest, best_by, span, sum_stop, best_score, hottest, All}
use Rattle.theory.specs.Sente.{taxed, wall_sum}
use Rattle.theory.specs.Laws.{OptionsStep, SumBounds}
use Rattle.theory.proofs.Grid.{fall_within}
use Rattle.theory.proofs.Meet.{Scaffold, walls, scaffolds, branch_meets, branch_height, one_height, more_height, wall_left_lem, wall_right_lem}
use Rattle.theory.proofs.Parts.{sum_put, span_put, all_put, all_at, greatest_over, move, Move, moved}

-- ---- an option of a fair tree is fair, and lower
pub tree_low : (F : Forest) (o : Tree) → Part o (trees F) → height o ≤ height_f F
tree_low (one x) o here = omega (arith, one_height x)
tree_low (one x) o (there p) = elim p [ ]
tree_low (more x F) o here = omega (arith, more_height x F)
tree_low (more x F) o (there p) = omega (arith, more_height x F, tree_low F o p)

forest_fair : (F : Forest) (o : Tree) → Part o (trees F) → WarmF F → WithinF F → (height o ≤ height_f F) × Warm o × Within o
forest_fair (one x) o here w b = (omega (arith, one_height x), w, b)
forest_fair (one x) o (there p) w b = elim p [ ]
forest_fair (more x F) o here w b = (omega (arith, more_height x F), w.0, b.0)
forest_fair (more x F) o (there p) w b =
    let (h, v, c) = forest_fair F o p w.1 b.1 in (omega (arith, more_height x F), v, c)

pub option_fair : (s : Side) (x o : Tree) → Part o (options x s) → Fair x → (height o < height x) × Fair o
option_fair s (ended v) o p f = elim p [ ]
option_fair Left (branch L R) o p f =
    let (h, v, c) = forest_fair L o p f.warm.1 f.scores.0 in
    (omega (arith, branch_height L R), record { shallow = omega (arith, branch_height L R, f.shallow); warm = v; scores = c })
option_fair Right (branch L R) o p f =
    let (h, v, c) = forest_fair R o p f.warm.2 f.scores.1 in
    (omega (arith, branch_height L R), record { shallow = omega (arith, branch_height L R, f.shallow); warm = v; scores = c })

-- ---- what the steps rest on
pub scaffold_over : (F : Forest) (s : Side) (o : Tree) (a : ℕ) → Part o (trees F) → taxed s o a ≤ℤ scaffold F s a
unfolding wall
scaffold_over (one x) s o a here = omega (arith, ints)
scaffold_over (one x) s o a (there p) = elim p [ ]
scaffold_over (more x F) s o a here = omega (arith, ints, clamps)
scaffold_over (more x F) s o a (there p) = omega (arith, ints, clamps, scaffold_over F s o a p)

pub scaffold_reached : (F : Forest) (s : Side) (a : ℕ) → (o : Tree) × Part o (trees F) × (taxed s o a ≡ scaffold F s a)
unfolding wall
scaffold_reached (one x) s a = (x, here, refl)
scaffold_reached (more x F) s a =
    let (o, p, e) = scaffold_reached F s a in
    by_lt_z (taxed s x a) (scaffold F s a) (λ h. (o, there p, omega (arith, ints, clamps))) (λ h. (x, here, omega (arith, ints, clamps)))

-- a scaffold falls: from t to u, k later
pub scaffold_falls : (f : ℕ → ℤ) (n : ℕ) (z : ℤ) → Scaffold n f z → (k t u : ℕ) → u ≡ k + t → f u ≤ℤ f t
scaffold_falls f n z F zero t u e = let q : u ≡ t = omega arith in rw q (omega (arith, ints))
scaffold_falls f n z F (suc k) t u e =
    let q : u ≡ suc (k + t) = omega arith in
    rw q (omega (arith, ints, scaffold_falls f n z F k t (k + t) refl, fall_within n (f (k + t)) (f (suc (k + t))) (k + t) (F.steps (k + t))))

-- ---- the walls of a fair tree
pub both : (s : Side) (x : Tree) (a : ℕ) → Fair x → pos 0 ≤ℤ (wall x s a +ℤ wall x (other s) a)
both Left x a f = (walls x 0 (omega (arith, f.shallow)) f.warm f.scores).order a
both Right x a f = omega (arith, ints, (walls x 0 (omega (arith, f.shallow)) f.warm f.scores).order a)

meets_at_lem : (L R : Forest) → Fair (branch L R) → (scaffold L Left (temperature (branch L R)) +ℤ scaffold R Right (temperature (branch L R))) ≡ pos 0
unfolding temperature
meets_at_lem L R f = (branch_meets L R f.shallow f.warm f.scores).meet

-- from the temperature on the two walls are one
mast_left : (x : Tree) (a : ℕ) → Fair x → temperature x ≤ a → (wall x Left a +ℤ wall x Right a) ≡ pos 0
unfolding wall
mast_left (ended v) a f h = omega (arith, ints)
mast_left (branch L R) a f h =
    let q : temperature (branch L R) ≡ min a (temperature (branch L R)) = omega arith in
    let P : ℕ → Type 0 = λ t. (scaffold L Left t +ℤ scaffold R Right t) ≡ pos 0 in
    omega (arith, ints, wall_left_lem L R a, wall_right_lem L R a, subst P q (meets_at_lem L R f))

pub mast : (s : Side) (x : Tree) (a : ℕ) → Fair x → temperature x ≤ a → (wall x s a +ℤ wall x (other s) a) ≡ pos 0
mast Left x a f h = mast_left x a f h
mast Right x a f h = omega (arith, ints, mast_left x a f h)

pub flat : (s : Side) (x : Tree) (c d : ℕ) → temperature x ≤ c → temperature x ≤ d → wall x s c ≡ wall x s d
unfolding wall
flat s (ended v) c d h k = refl
flat Left (branch L R) c d h k =
    let q : min c (temperature (branch L R)) ≡ min d (temperature (branch L R)) = omega arith in
    wall_left_lem L R c ∙ ap (scaffold L Left) q ∙ sym (wall_left_lem L R d)
flat Right (branch L R) c d h k =
    let q : min c (temperature (branch L R)) ≡ min d (temperature (branch L R)) = omega arith in
    wall_right_lem L R c ∙ ap (scaffold R Right) q ∙ sym (wall_right_lem L R d)

-- a scaffold, cut at m, is no lower than it would be at a
cut_over : (f : ℕ → ℤ) (n : ℕ) (z : ℤ) → Scaffold n f z → (a m : ℕ) → f a ≤ℤ f (min a m)
cut_over f n z F a m = scaffold_falls f n z F (a - min a m) (min a m) a (omega arith)

-- (ii) no option of a side, taxed, passes that side's wall
pub over : (s : Side) (x o : Tree) (a : ℕ) → Fair x → Part o (options x s) → taxed s o a ≤ℤ wall x s a
over s (ended v) o a f p = elim p [ ]
over Left (branch L R) o a f p =
    omega (
      arith,
      ints,
      scaffold_over L Left o a p,
      wall_left_lem L R a,
      cut_over (scaffold L Left) 1 (stop_f L Left) (scaffolds L 1 Left (omega (arith, branch_height L R, f.shallow)) f.warm.1 f.scores.0) a (temperature (branch L R)),
    )
over Right (branch L R) o a f p =
    omega (
      arith,
      ints,
      scaffold_over R Right o a p,
      wall_right_lem L R a,
      cut_over (scaffold R Right) 1 (stop_f R Right) (scaffolds R 1 Right (omega (arith, branch_height L R, f.shallow)) f.warm.2 f.scores.1) a (temperature (branch L R)),
    )

-- (i) up to the temperature, some option, taxed, reaches it
pub best : (s : Side) (x : Tree) (a : ℕ) → Open x → a ≤ temperature x → (o : Tree) × Part o (options x s) × (taxed s o a ≡ wall x s a)
best s (ended v) a i h = elim i [ ]
best Left (branch L R) a i h =
    let q : a ≡ min a (temperature (branch L R)) = omega arith in
    let (o, p, e) = scaffold_reached L Left a in (o, p, e ∙ ap (scaffold L Left) q ∙ sym (wall_left_lem L R a))
best Right (branch L R) a i h =
    let q : a ≡ min a (temperature (branch L R)) = omega arith in
    let (o, p, e) = scaffold_reached R Right a in (o, p, e ∙ ap (scaffold R Right) q ∙ sym (wall_right_lem L R a))

-- ---- the hottest part
abbrev pub Cool : ℕ → Tree → Type 0
Cool c y = temperature y ≤ c

pub ended_cool : (c : ℕ) (x : Tree) → Ended x → Cool c x
unfolding temperature
ended_cool c (ended v) e = omega arith
ended_cool c (branch L R) e = elim e [ ]

all_map : (P Q : Tree → Type 0) → ((x : Tree) → P x → Q x) → (xs : List Tree) → All P xs → All Q xs
all_map P Q f [] h = tt
all_map P Q f (x ∷ xs) h = (f x h.0, all_map P Q f xs h.1)

abbrev pub Hottest : List Tree → Type 0
Hottest xs = (x : Tree) × Part x xs × Open x × All (Cool (temperature x)) xs

pub hot : (xs : List Tree) → All Ended xs ⊎ Hottest xs
hot [] = inl tt
hot (ended v ∷ xs) =
    elim (hot xs) [
      | inl h ↦ inl (tt, h)
      | inr (x, p, i, c) ↦ inr (x, there p, i, (ended_cool (temperature x) (ended v) tt, c))
    ]
hot (branch L R ∷ xs) =
    elim (hot xs) [
      | inl h ↦ inr (branch L R, here, tt, (omega arith, all_map Ended (Cool (temperature (branch L R))) (ended_cool (temperature (branch L R))) xs h))
      | inr (x, p, i, c) ↦
          elim (dec_le (temperature (branch L R)) (temperature x)) [
            | yes h ↦ inr (x, there p, i, (h, c))
            | no h ↦
                inr (branch L R, here, tt, (omega arith, all_map (Cool (temperature x)) (Cool (temperature (branch L R))) (λ y k. omega arith) xs c))
          ]
    ]

-- ---- ended sums
pub ended_walls : (s : Side) (a : ℕ) (xs : List Tree) → All Ended xs → sum_of (λ x. wall x s a) xs ≡ (pos unit *ℤ sum_of (score s) xs)
unfolding wall
ended_walls s a [] h = omega (arith, ints)
ended_walls s a (ended v ∷ xs) h = omega (arith, ints, ended_walls s a xs h.1)
ended_walls s a (branch L R ∷ xs) h = elim h.0 [ ]

pub ended_turn : (s : Side) (xs : List Tree) → All Ended xs → (sum_of (score s) xs +ℤ sum_of (score (other s)) xs) ≡ pos 0
ended_turn s [] h = refl
ended_turn Left (ended v ∷ xs) h = omega (arith, ints, ended_turn Left xs h.1)
ended_turn Right (ended v ∷ xs) h = omega (arith, ints, ended_turn Right xs h.1)
ended_turn s (branch L R ∷ xs) h = elim h.0 [ ]

ended_moves : (s : Side) (xs : List Tree) → All Ended xs → moves s xs ≡ []
ended_moves s [] h = refl
ended_moves s (ended v ∷ xs) h = ap (map (λ ys. ended v ∷ ys)) (ended_moves s xs h.1)
ended_moves s (branch L R ∷ xs) h = elim h.0 [ ]

pub span_zero : (xs : List Tree) → span xs ≤ 0 → All Ended xs
span_zero [] h = tt
span_zero (ended v ∷ xs) h = (tt, span_zero xs (omega arith))
span_zero (branch L R ∷ xs) h = absurd (omega (arith, branch_height L R))

-- ---- the stops of a sum
pub ended_stop : (n : ℕ) (s : Side) (xs : List Tree) → All Ended xs → sum_stop n s xs ≡ sum_of (score s) xs
unfolding sum_stop
ended_stop zero s xs h = refl
ended_stop (suc n) s xs h = ap (best_by (λ ys. neg_ℤ (sum_stop n (other s) ys)) (sum_of (score s) xs)) (ended_moves s xs h)

best_of_over : {A : Type 0} (f : A → ℤ) (z : ℤ) (ys : List A) (y : A) → Part y ys → f y ≤ℤ best_by f z ys
best_of_over f z [] y p = elim p [ ]
best_of_over f z (x ∷ ys) y p = greatest_over f x ys y p

greatest_reached : {A : Type 0} (f : A → ℤ) (x : A) (xs : List A) → (y : A) × Part y (x ∷ xs) × (greatest f x xs ≡ f y)
greatest_reached f x [] = (x, here, refl)
greatest_reached f x (z ∷ zs) =
    let (y, p, e) = greatest_reached f z zs in
    by_lt_z (greatest f z zs) (f x) (λ h. (x, here, omega (arith, ints, clamps))) (λ h. (y, there p, omega (arith, ints, clamps)))

best_of_reached : {A : Type 0} (f : A → ℤ) (z : ℤ) (ys : List A) (y : A) → Part y ys → (u : A) × Part u ys × (best_by f z ys ≡ f u)
best_of_reached f z [] y p = elim p [ ]
best_of_reached f z (x ∷ ys) y p = greatest_reached f x ys

-- a move gets no more than best play
pub stop_over : {x : Tree} {xs : List Tree} (n : ℕ) (s : Side) (p : Part x xs) (o : Tree) → Part o (options x s)
    → neg_ℤ (sum_stop n (other s) (put p o)) ≤ℤ sum_stop (suc n) s xs
unfolding sum_stop
stop_over {xs} n s p o q =
    best_of_over (λ ys. neg_ℤ (sum_stop n (other s) ys)) (sum_of (score s) xs) (moves s xs) (put p o) (move s p q)

-- where a part is open, some move gets it
pub stop_reached : {x : Tree} {xs : List Tree} (n : ℕ) (s : Side) (p : Part x xs) (o : Tree) → Part o (options x s)
    → (ys : List Tree) × Move s xs ys × (sum_stop (suc n) s xs ≡ neg_ℤ (sum_stop n (other s) ys))
unfolding sum_stop
stop_reached {xs} n s p o q =
    let (ys, m, e) = best_of_reached (λ ys. neg_ℤ (sum_stop n (other s) ys)) (sum_of (score s) xs) (moves s xs) (put p o) (move s p q) in
    (ys, moved s xs ys m, e)

-- ---- the strategy
-- the claims on best play of at most n moves, at any ambient a
pub record Claims (n : ℕ) : Type 0 where
  -- the side to move gets at most its walls and the tax
  pub upper : (s : Side) (xs : List Tree) (a : ℕ) → span xs ≤ n → All Fair xs → (pos unit *ℤ sum_stop n s xs) ≤ℤ (wall_sum s a xs +ℤ pos a)
  -- with nothing pending, it gets at least its near walls
  pub idle : (s : Side) (xs : List Tree) (a : ℕ) → span xs ≤ n → All Fair xs → neg_ℤ (wall_sum (other s) a xs) ≤ℤ (pos unit *ℤ sum_stop n s xs)
  -- with x pending, the side to move gets at least its near walls, and x's far wall
  pub pending : {x : Tree} {xs : List Tree} (s : Side) (p : Part x xs) (a : ℕ) → span xs ≤ n → All Fair xs
      → ((wall x s a +ℤ wall x (other s) a) -ℤ wall_sum (other s) a xs) ≤ℤ (pos unit *ℤ sum_stop n s xs)

pub claims_ended : (n : ℕ) (s : Side) (xs : List Tree) (a : ℕ) → All Ended xs
    → ((pos unit *ℤ sum_stop n s xs) ≡ wall_sum s a xs) × ((wall_sum s a xs +ℤ wall_sum (other s) a xs) ≡ pos 0)
claims_ended n s xs a e =
    let k = ended_walls s a xs e in
    let l = ended_walls (other s) a xs e in
    let t = ended_turn s xs e in
    (ap (λ z. pos unit *ℤ z) (ended_stop n s xs e) ∙ sym k, omega (arith, ints))

pub cool_same : (s : Side) (a c : ℕ) (xs : List Tree) → All (Cool c) xs → wall_sum s (min a c) xs ≡ wall_sum s a xs
cool_same s a c [] h = refl
cool_same s a c (x ∷ xs) h =
    elim (dec_le a c) [
      | yes k ↦ let q : min a c ≡ a = omega arith in ap (λ t. wall_sum s t (x ∷ xs)) q
      | no k ↦ omega (arith, ints, flat s x (min a c) a (omega (arith, h.0)) (omega (arith, h.0)), cool_same s a c xs h.1)
    ]

-- our reply in the part x, no cooler than the ambient, by the option that reaches its wall
reply : {x : Tree} {xs : List Tree} (n : ℕ) (s : Side) (p : Part x xs) (a : ℕ) → Claims n → span xs ≤ suc n → All Fair xs → Open x
    → a ≤ temperature x → ((wall x s a +ℤ wall x (other s) a) -ℤ wall_sum (other s) a xs) ≤ℤ (pos unit *ℤ sum_stop (suc n) s xs)
reply {x} {xs} n s p a C h f i k =
    let (o, q, e) = best s x a i k in
    let (lower, g) = option_fair s x o q (all_at Fair p f) in
    let b = stop_over n s p o q in
    let w = sum_put (λ y. wall y (other s) a) p o in
    let c = C.upper (other s) (put p o) a (omega (arith, span_put p o)) (all_put Fair p o g f) in
    omega (arith, ints)

-- our move with nothing pending: in the hottest part, at its temperature if that is lower
rest : (n : ℕ) (s : Side) (xs : List Tree) (a : ℕ) → Claims n → span xs ≤ suc n → All Fair xs
    → neg_ℤ (wall_sum (other s) a xs) ≤ℤ (pos unit *ℤ sum_stop (suc n) s xs)
rest n s xs a C h f =
    elim (hot xs) [
      | inl e ↦ omega (arith, ints, (claims_ended (suc n) s xs a e).0, (claims_ended (suc n) s xs a e).1)
      | inr (x, p, i, c) ↦
          omega (
            arith,
            ints,
            reply n s p (min a (temperature x)) C h f i (omega arith),
            cool_same (other s) a (temperature x) xs c,
            both s x (min a (temperature x)) (all_at Fair p f),
          )
    ]

pub hot_open : (x : Tree) (a : ℕ) → a < temperature x → Open x
unfolding temperature
hot_open (ended v) a h = omega arith
hot_open (branch L R) a h = tt

-- our move with the part x pending: in it while it is hotter than the ambient
answer : {x : Tree} {xs : List Tree} (n : ℕ) (s : Side) (p : Part x xs) (a : ℕ) → Claims n → span xs ≤ suc n → All Fair xs
    → ((wall x s a +ℤ wall x (other s) a) -ℤ wall_sum (other s) a xs) ≤ℤ (pos unit *ℤ sum_stop (suc n) s xs)
answer {x} {xs} n s p a C h f =
    elim (dec_le (temperature x) a) [
      | yes k ↦ omega (arith, ints, mast s x a (all_at Fair p f) k, rest n s xs a C h f)
      | no k ↦ reply n s p a C h f (hot_open x a (omega arith)) (omega arith)
    ]

pub twice : (s : Side) → other (other s) ≡ s
twice Left = refl
twice Right = refl

-- their move, in any part, by any option
suffer : (n : ℕ) (s : Side) (xs : List Tree) (a : ℕ) → Claims n → span xs ≤ suc n → All Fair xs
    → (pos unit *ℤ sum_stop (suc n) s xs) ≤ℤ (wall_sum s a xs +ℤ pos a)
suffer n s xs a C h f =
    elim (hot xs) [
      | inl e ↦ omega (arith, ints, (claims_ended (suc n) s xs a e).0)
      | inr (x, p, i, c) ↦
          let (o, q, z) = best s x 0 i (omega arith) in
          let (ys, m, e) = stop_reached n s p o q in
          after ys m e
    ]
  where
    after : (ys : List Tree) → Move s xs ys → sum_stop (suc n) s xs ≡ neg_ℤ (sum_stop n (other s) ys)
        → (pos unit *ℤ sum_stop (suc n) s xs) ≤ℤ (wall_sum s a xs +ℤ pos a)
    after ys m e =
        let x : Tree = m.from in
        let o : Tree = m.to in
        let g = all_at Fair m.at f in
        let k = option_fair s x o m.legal g in
        let d : sum_stop (suc n) s xs ≡ neg_ℤ (sum_stop n (other s) (put m.at o)) = e ∙ ap (λ zs. neg_ℤ (sum_stop n (other s) zs)) m.gives in
        let l : span (put m.at o) ≤ n = omega (arith, span_put m.at o, k.0) in
        let b = C.pending (other s) (placed m.at o) a l (all_put Fair m.at o k.1 f) in
        let P : Side → Type 0 = λ r. ((wall o (other s) a +ℤ wall o r a) -ℤ wall_sum r a (put m.at o)) ≤ℤ (pos unit *ℤ sum_stop n (other s) (put m.at o)) in
        let c : P s = subst P (twice s) b in
        omega (arith, ints, c, d, sum_put (λ y. wall y s a) m.at o, over s x o a g m.legal)

pub claims : (n : ℕ) → Claims n
claims zero = record {
  upper = λ s xs a h f. omega (arith, ints, (claims_ended 0 s xs a (span_zero xs h)).0);
  idle = λ s xs a h f. omega (arith, ints, (claims_ended 0 s xs a (span_zero xs h)).0, (claims_ended 0 s xs a (span_zero xs h)).1);
  pending = λ {x} {xs} s p a h f.
      omega (
        arith,
        ints,
        (claims_ended 0 s xs a (span_zero xs h)).0,
        (claims_ended 0 s xs a (span_zero xs h)).1,
        mast s x a (all_at Fair p f) (ended_cool a x (all_at Ended p (span_zero xs h))),
      );
}
claims (suc n) =
    let C : Claims n = claims n in
    record {
      upper = λ s xs a h f. suffer n s xs a C h f;
      idle = λ s xs a h f. rest n s xs a C h f;
      pending = λ {x} {xs} s p a h f. answer n s p a C h f;
    }

-- ---- the bounds
pub mean_left : (x : Tree) (a : ℕ) → temperature x ≤ a → wall x Left a ≡ mean x
unfolding mean wall temperature
mean_left (ended v) a h = refl
mean_left (branch L R) a h =
    let q : min a (meeting (scaffold L Left) (scaffold R Right)) ≡ meeting (scaffold L Left) (scaffold R Right) = omega arith in ap (scaffold L Left) q

pub hottest_means : (xs : List Tree) (a : ℕ) → hottest xs ≤ a → All Fair xs
    → (wall_sum Left a xs ≡ sum_of mean xs) × (wall_sum Right a xs ≡ neg_ℤ (sum_of mean xs))
hottest_means [] a h f = (refl, refl)
hottest_means (x ∷ xs) a h f =
    let (k, l) = hottest_means xs a (omega arith) f.1 in
    let m = mean_left x a (omega arith) in
    let w = mast Left x a f.0 (omega arith) in
    omega (arith, ints)

pub sum_bounds_lem : SumBounds
unfolding best_score
sum_bounds_lem Left xs f =
    let C = claims (span xs) in
    let m = hottest_means xs (hottest xs) (omega arith) f in
    let k = C.idle Left xs (hottest xs) (omega arith) f in
    let u = C.upper Left xs (hottest xs) (omega arith) f in
    (omega (arith, ints), omega (arith, ints))
sum_bounds_lem Right xs f =
    let C = claims (span xs) in
    let m = hottest_means xs (hottest xs) (omega arith) f in
    let k = C.idle Right xs (hottest xs) (omega arith) f in
    let u = C.upper Right xs (hottest xs) (omega arith) f in
    (omega (arith, ints), omega (arith, ints))

pub options_step_lem : OptionsStep
options_step_lem s x a f = record { over = λ o p. over s x o a f p; reached = λ i h. best s x a i h }
