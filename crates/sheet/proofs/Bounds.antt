-- The floor and the bracket of a few fair parts lie within the walls of all of them and the ambient.
use Rattle.std.proofs.Common.{◌≡◌, ℕ, zero, suc, ◌*◌, ◌≤◌, List, [], ◌∷◌, length, ℤ, pos, ◌+ℤ◌, ◌-ℤ◌, Some, None, Option, refl, subst, arith}
use borrow.Author.Differences.{ints}
use Rattle.terms.specs.declared.side.Side.{Side}
use Rattle.terms.specs.declared.side.Side.TheVariants.{Left, Right}
use Rattle.terms.specs.Sides.{other}
use Rattle.theory.specs.Limits.{wall_limit}
use Rattle.theory.specs.Trees.{Tree, Ended}
use Rattle.theory.specs.Fair.{Fair}
use Rattle.theory.specs.Walls.{wall, mean}
use Rattle.theory.specs.Sums.{All, sum_of, hottest, low, high}
use Rattle.theory.proofs.Range.{wall_bound, figures_fit_lem}
use Rattle.theory.proofs.Sente.{ended_walls}
use Rattle.encoding.specs.Columns.{part_limit}
use Rattle.stories.specs.declared.turn.Turn.{Turn}
use Rattle.stories.specs.declared.turn.Turn.TheVariants.{Ours, Theirs, Over}
use Rattle.stories.specs.Game.{near, far, near_walls, near_walls_but, score_units, floor_at, bracket_at}
use Rattle.sheet.specs.Fitting.{Within, sum_limit}
use Rattle.sheet.proofs.Lasting.{hottest_bound}

-- a sum of figures that lie within the walls
sum_bound : (f : Tree → ℤ) → ((x : Tree) → Fair x → Within wall_limit (f x)) → (xs : List Tree) → All Fair xs → Within (length xs * wall_limit) (sum_of f xs)
sum_bound f h [] a = (omega (arith, ints), omega (arith, ints))
sum_bound f h (x ∷ xs) a =
    let i = h x a.0 in
    let j = sum_bound f h xs a.1 in
    (omega (arith, ints, i.0, i.1, j.0, j.1), omega (arith, ints, i.0, i.1, j.0, j.1))

near_bound : (s : Side) (a : ℕ) (x : Tree) → Fair x → Within wall_limit (near s a x)
near_bound Left a x f = let b = wall_bound x f Right a in (omega (arith, ints, b.0, b.1), omega (arith, ints, b.0, b.1))
near_bound Right a x f = let b = wall_bound x f Left a in (omega (arith, ints, b.0, b.1), omega (arith, ints, b.0, b.1))

far_bound : (s : Side) (a : ℕ) (x : Tree) → Fair x → Within wall_limit (far s a x)
far_bound Left a x f = wall_bound x f Left a
far_bound Right a x f = let b = wall_bound x f Right a in (omega (arith, ints, b.0, b.1), omega (arith, ints, b.0, b.1))

nears_bound : (s : Side) (a : ℕ) (xs : List Tree) → All Fair xs → Within (length xs * wall_limit) (near_walls s a xs)
nears_bound s a xs f = sum_bound (near s a) (near_bound s a) xs f

but_bound : (s : Side) (a : ℕ) (xs : List Tree) (p : ℕ) → All Fair xs → Within (length xs * wall_limit) (near_walls_but s a xs p)
but_bound s a [] p f = (omega (arith, ints), omega (arith, ints))
but_bound s a (x ∷ xs) zero f =
    let i = far_bound s a x f.0 in
    let j = nears_bound s a xs f.1 in
    (omega (arith, ints, i.0, i.1, j.0, j.1), omega (arith, ints, i.0, i.1, j.0, j.1))
but_bound s a (x ∷ xs) (suc p) f =
    let i = near_bound s a x f.0 in
    let j = but_bound s a xs p f.1 in
    (omega (arith, ints, i.0, i.1, j.0, j.1), omega (arith, ints, i.0, i.1, j.0, j.1))

-- with the ambient or the greatest temperature on one side
widen : (n : ℕ) (v w : ℤ) (a : ℕ) → n ≤ part_limit → a ≤ wall_limit → Within (n * wall_limit) v → Within a (w -ℤ v) → Within sum_limit w
widen n v w a h k i j = (omega (arith, ints, i.0, i.1, j.0, j.1), omega (arith, ints, i.0, i.1, j.0, j.1))

as_is : (v : ℤ) → Within 0 (v -ℤ v)
as_is v = (omega (arith, ints), omega (arith, ints))

score_bound : (s : Side) (xs : List Tree) → All Fair xs → All Ended xs → Within (length xs * wall_limit) (score_units s xs)
score_bound s xs f e = subst (Within (length xs * wall_limit)) (ended_walls s 0 xs e) (sum_bound (λ x. wall x s 0) (λ x g. wall_bound x g s 0) xs f)

pub floor_bound : (s : Side) (xs : List Tree) (t : Turn) (a : ℕ) (d : Option ℕ) → All Fair xs → length xs ≤ part_limit → a ≤ wall_limit
    → (t ≡ Over → All Ended xs) → Within sum_limit (floor_at s xs t a d)
floor_bound s xs Ours a None f h k o = widen (length xs) (near_walls s a xs) _ 0 h (omega arith) (nears_bound s a xs f) (as_is (near_walls s a xs))
floor_bound s xs Ours a (Some p) f h k o = widen (length xs) (near_walls_but s a xs p) _ 0 h (omega arith) (but_bound s a xs p f) (as_is (near_walls_but s a xs p))
floor_bound s xs Theirs a d f h k o =
    widen (length xs) (near_walls s a xs) (near_walls s a xs -ℤ pos a) a h k (nears_bound s a xs f) (omega (arith, ints), omega (arith, ints))
floor_bound s xs Over a d f h k o = widen (length xs) (score_units s xs) _ 0 h (omega arith) (score_bound s xs f (o refl)) (as_is (score_units s xs))

abbrev WithinBoth : ℤ × ℤ → Type 0
WithinBoth b = Within sum_limit b.0 × Within sum_limit b.1

means_bound : (xs : List Tree) → All Fair xs → Within (length xs * wall_limit) (sum_of mean xs)
means_bound xs f = sum_bound mean (λ x g. (figures_fit_lem x g).means) xs f

side_bound : (s : Side) (xs : List Tree) → All Fair xs → length xs ≤ part_limit → WithinBoth (low s xs, high s xs)
side_bound Left xs f h =
    let m : ℤ = sum_of mean xs in (
      widen (length xs) m m 0 h (omega arith) (means_bound xs f) (as_is m),
      widen (length xs) m (m +ℤ pos (hottest xs)) (hottest xs) h (hottest_bound xs) (means_bound xs f) (omega (arith, ints), omega (arith, ints)),
    )
side_bound Right xs f h =
    let m : ℤ = sum_of mean xs in (
      widen (length xs) m (m -ℤ pos (hottest xs)) (hottest xs) h (hottest_bound xs) (means_bound xs f) (omega (arith, ints), omega (arith, ints)),
      widen (length xs) m m 0 h (omega arith) (means_bound xs f) (as_is m),
    )

pub bracket_bound : (s : Side) (xs : List Tree) (t : Turn) → All Fair xs → length xs ≤ part_limit → (t ≡ Over → All Ended xs) → WithinBoth (bracket_at s xs t)
bracket_bound s xs Ours f h o = side_bound s xs f h
bracket_bound s xs Theirs f h o = side_bound (other s) xs f h
bracket_bound s xs Over f h o =
    let b = widen (length xs) (score_units Left xs) _ 0 h (omega arith) (score_bound Left xs f (o refl)) (as_is (score_units Left xs)) in (b, b)
