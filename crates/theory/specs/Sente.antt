-- Sentestrat: answer where the other has made a threat, else move in the hottest part; and the floor that this makes sure of.
use Rattle.std.specs.Prelude.{ℕ, ◌<◌, ◌≤◌, min, List, ℤ, pos, ◌+ℤ◌, ◌-ℤ◌, neg_ℤ, ◌≤ℤ◌}
use Rattle.terms.specs.declared.side.Side.{Side}
use Rattle.terms.specs.Sides.{other}
use Rattle.theory.specs.Trees.{Tree, options, Open}
use Rattle.theory.specs.Walls.{wall, temperature}
use Rattle.theory.specs.Sums.{Part, put, placed, All, sum_of, Over, total}
use Rattle.theory.specs.Strategies.{Ours, Theirs}

-- an option o of the side s: its wall on the other side, in the terms of s, less the tax
abbrev pub taxed : Side → Tree → ℕ → ℤ
taxed s o a = neg_ℤ (wall o (other s) a) -ℤ pos a

-- o is one of the side's options whose near wall at a is greatest
pub record Best (s : Side) (x o : Tree) (a : ℕ) : Type 0 where
  pub legal : Part o (options x s)
  pub top : (q : Tree) → Part q (options x s) → taxed s q a ≤ℤ taxed s o a

-- whose turn it is: ours with nothing pending, ours with the part in which they have just moved, or theirs
pub data Turn (xs : List Tree) : Type 0 where
  idle : Turn xs
  pending : {x : Tree} → Part x xs → Turn xs
  theirs : Turn xs

abbrev pub wall_sum : Side → ℕ → List Tree → ℤ
wall_sum s a xs = sum_of (λ x. wall x s a) xs

-- what the side s is sure of at the ambient a: its near walls, with the far wall of a pending part, less the ambient at their turn.
-- Its far wall is its own; its near wall is the other's, negated.
abbrev pub floor : Side → ℕ → (xs : List Tree) → Turn xs → ℤ
floor s a xs idle = neg_ℤ (wall_sum (other s) a xs)
floor s a xs (pending {x = x} p) = (wall x s a +ℤ wall x (other s) a) -ℤ wall_sum (other s) a xs
floor s a xs theirs = neg_ℤ (wall_sum (other s) a xs) -ℤ pos a

-- a play by the rule from the ambient a and the turn, with v for the side s at its end, in its own terms
pub data Run (s : Side) : (a : ℕ) (xs : List Tree) → Turn xs → ℤ → Type 0 where
  -- nothing pending: the hottest part, and the ambient falls to its temperature if that is lower
  fresh : {a : ℕ} {xs : List Tree} {v : ℤ} {x : Tree} (p : Part x xs) (o : Tree) → Open x → All (λ y. temperature y ≤ temperature x) xs
      → Best s x o (min a (temperature x)) → Run s (min a (temperature x)) (put p o) theirs v → Run s a xs idle v
  -- they moved in a part that is hotter than the ambient: answer there
  reply : {a : ℕ} {xs : List Tree} {v : ℤ} {x : Tree} (p : Part x xs) (o : Tree) → a < temperature x
      → Best s x o a → Run s a (put p o) theirs v → Run s a xs (pending p) v
  -- it is no hotter: nothing is pending
  cooled : {a : ℕ} {xs : List Tree} {v : ℤ} {x : Tree} (p : Part x xs) → temperature x ≤ a → Run s a xs idle v → Run s a xs (pending p) v
  -- they move as they like
  moves : {a : ℕ} {xs : List Tree} {v : ℤ} {x : Tree} (p : Part x xs) (o : Tree) → Part o (options x (other s))
      → Run s a (put p o) (pending (placed p o)) v → Run s a xs theirs v
  -- nothing is open
  over : {a : ℕ} {xs : List Tree} (t : Turn xs) → Over xs → Run s a xs t (total s xs)

-- the rule as a strategy: our moves are the rule's, and there is an answer to each move of theirs
pub data Sente (s : Side) : (a : ℕ) (xs : List Tree) → Turn xs → Type 0 where
  anew : {a : ℕ} {xs : List Tree} {x : Tree} (p : Part x xs) (o : Tree) → Open x → All (λ y. temperature y ≤ temperature x) xs
      → Best s x o (min a (temperature x)) → Sente s (min a (temperature x)) (put p o) theirs → Sente s a xs idle
  back : {a : ℕ} {xs : List Tree} {x : Tree} (p : Part x xs) (o : Tree) → a < temperature x
      → Best s x o a → Sente s a (put p o) theirs → Sente s a xs (pending p)
  calm : {a : ℕ} {xs : List Tree} {x : Tree} (p : Part x xs) → temperature x ≤ a → Sente s a xs idle → Sente s a xs (pending p)
  any : {a : ℕ} {xs : List Tree} {x : Tree} → Part x xs → Open x
      → ((y : Tree) (p : Part y xs) (o : Tree) → Part o (options y (other s)) → Sente s a (put p o) (pending (placed p o))) → Sente s a xs theirs
  done : {a : ℕ} {xs : List Tree} (t : Turn xs) → Over xs → Sente s a xs t

-- the side s can make sure of v from this turn on
abbrev pub Makes : Side → ℤ → (xs : List Tree) → Turn xs → Type 0
Makes s v xs idle = Ours s v xs
Makes s v xs (pending p) = Ours s v xs
Makes s v xs theirs = Theirs s v xs
