-- The mirror of a tree has its figures turned round.
use Rattle.std.proofs.Common.{◌≡◌, ℕ, min, ℤ, pos, ◌+ℤ◌, ◌-ℤ◌, neg_ℤ, refl, ap, ◌∙◌, arith}
use mathlib.Core.Path.{fun_ext}
use lib.Signed.{le_z}
use borrow.Author.Differences.{ints}
use Rattle.std.specs.Int.{int_max}
use Rattle.terms.specs.declared.side.Side.{Side}
use Rattle.terms.specs.declared.side.Side.TheVariants.{Left, Right}
use Rattle.terms.specs.Sides.{other}
use Rattle.theory.specs.Limits.{wall_limit}
use Rattle.theory.specs.Trees.{Tree, Forest, ended, branch, one, more}
use Rattle.theory.specs.Stops.{stop, stop_f}
use Rattle.theory.specs.Fair.{Fair}
use Rattle.theory.specs.Walls.{least, meeting, wall, scaffold, temperature, mean}
use Rattle.theory.specs.Mirror.{mirror, mirror_f}
use Rattle.theory.specs.Laws.{Mirror}
use Rattle.theory.proofs.Sente.{mast, mean_left}

meeting_turned : (f g u v : ℕ → ℤ) → ((t : ℕ) → f t ≡ v t) → ((t : ℕ) → g t ≡ u t) → meeting f g ≡ meeting u v
unfolding meeting
meeting_turned f g u v p q = ap (λ r. least r wall_limit 0) (fun_ext same)
  where
    same : (t : ℕ) → le_z (f t +ℤ g t) (pos 0) ≡ le_z (u t +ℤ v t) (pos 0)
    same t = let e : (f t +ℤ g t) ≡ (u t +ℤ v t) = omega (arith, ints, p t, q t) in ap (λ z. le_z z (pos 0)) e

mutual
  unfolding mirror stop

  mirror_stop : (x : Tree) (s : Side) → stop (mirror x) s ≡ stop x (other s)
  mirror_stop (ended v) Left = refl
  mirror_stop (ended v) Right = omega (arith, ints)
  mirror_stop (branch L R) Left = mirror_stop_f R Left
  mirror_stop (branch L R) Right = mirror_stop_f L Right

  mirror_stop_f : (F : Forest) (s : Side) → stop_f (mirror_f F) s ≡ stop_f F (other s)
  mirror_stop_f (one x) s = ap neg_ℤ (mirror_stop x (other s))
  mirror_stop_f (more x F) s = cc (mirror_stop x (other s), mirror_stop_f F s)

mutual
  unfolding mirror wall

  mirror_wall : (x : Tree) (s : Side) (t : ℕ) → wall (mirror x) s t ≡ wall x (other s) t
  mirror_wall (ended v) Left t = refl
  mirror_wall (ended v) Right t = omega (arith, ints)
  mirror_wall (branch L R) Left t =
      let e = meeting_turned (scaffold (mirror_f R) Left) (scaffold (mirror_f L) Right) (scaffold L Left) (scaffold R Right) (mirror_scaffold R Left) (mirror_scaffold L Right) in
      mirror_scaffold R Left (min t (meeting (scaffold (mirror_f R) Left) (scaffold (mirror_f L) Right))) ∙ ap (λ k. scaffold R Right (min t k)) e
  mirror_wall (branch L R) Right t =
      let e = meeting_turned (scaffold (mirror_f R) Left) (scaffold (mirror_f L) Right) (scaffold L Left) (scaffold R Right) (mirror_scaffold R Left) (mirror_scaffold L Right) in
      mirror_scaffold L Right (min t (meeting (scaffold (mirror_f R) Left) (scaffold (mirror_f L) Right))) ∙ ap (λ k. scaffold L Left (min t k)) e

  mirror_scaffold : (F : Forest) (s : Side) (t : ℕ) → scaffold (mirror_f F) s t ≡ scaffold F (other s) t
  mirror_scaffold (one x) s t = ap (λ z. neg_ℤ z -ℤ pos t) (mirror_wall x (other s) t)
  mirror_scaffold (more x F) s t =
      ap (λ z. int_max (neg_ℤ z -ℤ pos t) (scaffold (mirror_f F) s t)) (mirror_wall x (other s) t)
      ∙ ap (int_max (neg_ℤ (wall x (other (other s)) t) -ℤ pos t)) (mirror_scaffold F s t)

mirror_heat : (x : Tree) → temperature (mirror x) ≡ temperature x
unfolding mirror temperature
mirror_heat (ended v) = refl
mirror_heat (branch L R) =
    meeting_turned (scaffold (mirror_f R) Left) (scaffold (mirror_f L) Right) (scaffold L Left) (scaffold R Right) (mirror_scaffold R Left) (mirror_scaffold L Right)

mirror_mean : (x : Tree) → Fair x → mean (mirror x) ≡ neg_ℤ (mean x)
mirror_mean x f =
    let t : ℕ = temperature x in
    omega (
      arith,
      ints,
      mean_left (mirror x) t (omega (arith, mirror_heat x)),
      mirror_wall x Left t,
      mast Left x t f (omega arith),
      mean_left x t (omega arith),
    )

pub mirrored : Mirror
mirrored x = record { stops = mirror_stop x; walls = mirror_wall x; heat = mirror_heat x; middle = mirror_mean x }
