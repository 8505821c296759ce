-- Which trees are fair: a lawful tree of legal height without cold positions, and the test for cold ones.
use Rattle.std.proofs.Common.{◌≡◌, ◌≤◌, true, false, ◌||◌, pos, ◌+ℤ◌, sym, refl, inl, inr, arith}
use lib.Signed.{lt_z}
use borrow.Author.Differences.{ints}
use Rattle.std.proofs.lemmas.Bool.{or_parts, or_from, cases_Bool, both_ways}
use Rattle.terms.specs.declared.side.Side.TheVariants.{Left, Right}
use Rattle.theory.specs.Limits.{greatest_height}
use Rattle.theory.specs.Trees.{Tree, Forest, ended, branch, one, more, Lawful, LawfulF, Within, WithinF, height}
use Rattle.theory.specs.Stops.{stop_f, Warm, WarmF, cold, cold_f}
use Rattle.theory.specs.Fair.{Fair}
use Rattle.theory.specs.Laws.{ColdIsJudged}

mutual
  pub lawful_within : (x : Tree) → Lawful x → Within x
  lawful_within (ended v) l = l
  lawful_within (branch L R) l = (lawful_within_f L l.2, lawful_within_f R l.3)

  pub lawful_within_f : (F : Forest) → LawfulF F → WithinF F
  lawful_within_f (one x) l = lawful_within x l
  lawful_within_f (more x F) l = (lawful_within x l.0, lawful_within_f F l.1)

pub fair : (x : Tree) → Lawful x → Warm x → height x ≤ greatest_height → Fair x
fair x l w h = record { shallow = h; warm = w; scores = lawful_within x l }

-- ---- the test for cold positions
mutual
  unfolding cold

  pub warm_cold : (x : Tree) → Warm x → cold x ≡ false
  warm_cold (ended v) w = refl
  warm_cold (branch L R) w =
      let e : false ≡ lt_z (stop_f L Left +ℤ stop_f R Right) (pos 0) = omega (arith, ints, w.0) in
      or_from (lt_z (stop_f L Left +ℤ stop_f R Right) (pos 0)) (cold_f L || cold_f R) (sym e) (or_from (cold_f L) (cold_f R) (warm_cold_f L w.1) (warm_cold_f R w.2))

  warm_cold_f : (F : Forest) → WarmF F → cold_f F ≡ false
  warm_cold_f (one x) w = warm_cold x w
  warm_cold_f (more x F) w = or_from (cold x) (cold_f F) (warm_cold x w.0) (warm_cold_f F w.1)

mutual
  unfolding cold

  pub cold_warm : (x : Tree) → cold x ≡ false → Warm x
  cold_warm (ended v) e = tt
  cold_warm (branch L R) e =
      let (a, b) = or_parts (lt_z (stop_f L Left +ℤ stop_f R Right) (pos 0)) (cold_f L || cold_f R) e in
      let (l, r) = or_parts (cold_f L) (cold_f R) b in
      (omega (arith, ints, a), cold_warm_f L l, cold_warm_f R r)

  cold_warm_f : (F : Forest) → cold_f F ≡ false → WarmF F
  cold_warm_f (one x) e = cold_warm x e
  cold_warm_f (more x F) e = let (a, b) = or_parts (cold x) (cold_f F) e in (cold_warm x a, cold_warm_f F b)

-- a tree has a cold position exactly where it is not warm
pub cold_not_warm : (x : Tree) → cold x ≡ true → Warm x → ⊥
cold_not_warm x e w = both_ways (cold x) (warm_cold x w) e

pub not_warm_cold : (x : Tree) → (Warm x → ⊥) → cold x ≡ true
not_warm_cold x n = elim (cases_Bool (cold x)) [ inl e ↦ e | inr e ↦ absurd (n (cold_warm x e)) ]

pub cold_is_judged_lem : ColdIsJudged
cold_is_judged_lem x = record { yes = cold_not_warm x; no = cold_warm x; fair = fair x }
