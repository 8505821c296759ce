-- The rule can be followed whatever they do, and makes sure of the floor.
use Rattle.std.proofs.Common.{ℕ, zero, suc, ◌<◌, ◌≤◌, min, List, ℤ, pos, ◌*ℤ◌, ◌≤ℤ◌, inl, inr, arith}
use native.Mathlib.Decide.{dec_le}
use borrow.Author.Differences.{ints}
use Rattle.terms.specs.declared.side.Side.{Side}
use Rattle.terms.specs.Sides.{other}
use Rattle.theory.specs.Limits.{unit}
use Rattle.theory.specs.Trees.{Tree, Ended}
use Rattle.theory.specs.Fair.{Fair}
use Rattle.theory.specs.Walls.{wall, temperature}
use Rattle.theory.specs.Sums.{put, placed, span, All}
use Rattle.theory.specs.Strategies.{ends, plays, stands, waits}
use Rattle.theory.specs.Sente.{Turn, idle, pending, theirs, floor, Sente, anew, back, calm, any, done, Makes}
use Rattle.theory.specs.Laws.{RuleKeeps}
use Rattle.theory.proofs.Parts.{sum_put, all_put, all_at}
use Rattle.theory.proofs.Sente as sente
use Rattle.theory.proofs.Plays.{keeps, their_option, floor_ended, lower, best_exists}

-- ---- it makes sure of the floor
ended_makes : (s : Side) (a : ℕ) (xs : List Tree) (t : Turn xs) → All Fair xs → All Ended xs → (v : ℤ) → (pos unit *ℤ v) ≤ℤ floor s a xs t → Makes s v xs t
ended_makes s a xs idle f e v h = ends e (omega (arith, ints, floor_ended s a xs idle f e))
ended_makes s a xs (pending p) f e v h = ends e (omega (arith, ints, floor_ended s a xs (pending p) f e))
ended_makes s a xs theirs f e v h = stands e (omega (arith, ints, floor_ended s a xs theirs f e))

makes : (s : Side) (a : ℕ) (xs : List Tree) (t : Turn xs) → All Fair xs → Sente s a xs t → (v : ℤ) → (pos unit *ℤ v) ≤ℤ floor s a xs t → Makes s v xs t
makes s a xs t f (anew {x = x} p o i c b r) v h =
    let m : ℕ = min a (temperature x) in
    let g = all_at Fair p f in
    let k = keeps s p o m (floor s m (put p o) theirs) g i (omega arith) b (omega (arith, ints)) in
    plays p o b.legal
    (makes s m (put p o) theirs (all_put Fair p o (sente.option_fair s x o b.legal g).1 f) r v
    (omega (arith, ints, k, sente.both s x m g, sente.cool_same (other s) a (temperature x) xs c)))
makes s a xs t f (back {x = x} p o l b r) v h =
    let g = all_at Fair p f in
    let k = keeps s p o a (floor s a (put p o) theirs) g (sente.hot_open x a l) (omega arith) b (omega (arith, ints)) in
    plays p o b.legal (makes s a (put p o) theirs (all_put Fair p o (sente.option_fair s x o b.legal g).1 f) r v (omega (arith, ints)))
makes s a xs t f (calm {x = x} p l r) v h =
    makes s a xs idle f r v (omega (arith, ints, sente.mast s x a (all_at Fair p f) l))
makes s a xs t f (any q i w) v h =
    waits q i (λ y p o l.
    let g = all_at Fair p f in
    makes s a (put p o) (pending (placed p o)) (all_put Fair p o (sente.option_fair (other s) y o l g).1 f) (w y p o l) v
    (omega (arith, ints, sum_put (λ z. wall z (other s) a) p o, their_option s y o a g l)))
makes s a xs t f (done u e) v h = ended_makes s a xs u f e v h

-- ---- it can be followed
abbrev Follows : ℕ → Type 0
Follows n = (s : Side) (a : ℕ) (xs : List Tree) (t : Turn xs) → span xs ≤ n → Sente s a xs t

from_idle : (n : ℕ) → Follows n → (s : Side) (a : ℕ) (xs : List Tree) → span xs ≤ suc n → sente.Hottest xs → Sente s a xs idle
from_idle n I s a xs h (x, p, i, c) =
    let (o, b) = best_exists s x (min a (temperature x)) i in
    anew p o i c b (I s (min a (temperature x)) (put p o) theirs (lower n s p o b.legal h))

from : (n : ℕ) → Follows n → (s : Side) (a : ℕ) (xs : List Tree) (t : Turn xs) → span xs ≤ suc n → sente.Hottest xs → Sente s a xs t
from n I s a xs idle h z = from_idle n I s a xs h z
from n I s a xs (pending {x = y} q) h z =
    elim (dec_le (temperature y) a) [
      | yes k ↦ calm q k (from_idle n I s a xs h z)
      | no k ↦
          let l : a < temperature y = omega arith in
          let (o, b) = best_exists s y a (sente.hot_open y a l) in
          back q o l b (I s a (put q o) theirs (lower n s q o b.legal h))
    ]
from n I s a xs theirs h z =
    any z.1 z.2 (λ y p o l. I s a (put p o) (pending (placed p o)) (lower n (other s) p o l h))

follows : (n : ℕ) → Follows n
follows zero s a xs t h = done t (sente.span_zero xs h)
follows (suc n) s a xs t h = elim (sente.hot xs) [ inl e ↦ done t e | inr z ↦ from n (follows n) s a xs t h z ]

pub rule_keeps_lem : RuleKeeps
rule_keeps_lem s a xs t = record { follow = follows (span xs) s a xs t (omega arith); makes = makes s a xs t }
