-- From the temperature on both walls are the mean, and no figure leaves the range of the scores.
use Rattle.std.proofs.Common.{ℕ, ◌≤◌, ℤ, pos, ◌+ℤ◌, neg_ℤ, ◌≤ℤ◌, arith}
use lib.Signed.{le_z}
use borrow.Author.Differences.{ints}
use Rattle.terms.specs.declared.side.Side.{Side}
use Rattle.terms.specs.declared.side.Side.TheVariants.{Left, Right}
use Rattle.theory.specs.Limits.{wall_limit}
use Rattle.theory.specs.Trees.{Tree, ended, branch}
use Rattle.theory.specs.Fair.{Fair}
use Rattle.theory.specs.Walls.{meeting, wall, scaffold, temperature}
use Rattle.theory.specs.Laws.{WallsJoin, FiguresFit}
use Rattle.theory.proofs.Search.{least_bound}
use Rattle.theory.proofs.Meet.{walls}
use Rattle.theory.proofs.Sente.{mast, mean_left}

pub walls_join_lem : WallsJoin
walls_join_lem x f = record { left = λ t h. mean_left x t h; right = λ t h. omega (arith, ints, mean_left x t h, mast Left x t f h) }

meeting_bound : (f g : ℕ → ℤ) → meeting f g ≤ wall_limit
unfolding meeting
meeting_bound f g = omega (arith, least_bound (λ t. le_z (f t +ℤ g t) (pos 0)) wall_limit 0)

pub heat_bound : (x : Tree) → temperature x ≤ wall_limit
unfolding temperature
heat_bound (ended v) = omega arith
heat_bound (branch L R) = meeting_bound (scaffold L Left) (scaffold R Right)

pub wall_bound : (x : Tree) → Fair x → (s : Side) (t : ℕ) → (neg_ℤ (pos wall_limit) ≤ℤ wall x s t) × (wall x s t ≤ℤ pos wall_limit)
wall_bound x f Left t =
    let W = walls x 0 (omega (arith, f.shallow)) f.warm f.scores in
    omega (arith, ints, W.order t, W.high Left t, W.high Right t)
wall_bound x f Right t =
    let W = walls x 0 (omega (arith, f.shallow)) f.warm f.scores in
    omega (arith, ints, W.order t, W.high Left t, W.high Right t)

pub figures_fit_lem : FiguresFit
figures_fit_lem x f = record {
  walls = wall_bound x f;
  means = omega (arith, ints, wall_bound x f Left (temperature x), mean_left x (temperature x) (omega arith));
  heat = heat_bound x;
}
