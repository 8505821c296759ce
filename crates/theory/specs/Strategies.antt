-- Strategies on a sum: what a side can make sure of, whatever the other does.
use Rattle.std.specs.Prelude.{List, ℤ, ◌≤ℤ◌}
use Rattle.terms.specs.declared.side.Side.{Side}
use Rattle.terms.specs.Sides.{other}
use Rattle.theory.specs.Trees.{Tree, options, Open}
use Rattle.theory.specs.Sums.{Part, put, Over, total}

mutual
  -- the side s, to move, ends with v at least, in its own terms
  pub data Ours (s : Side) (v : ℤ) : List Tree → Type 0 where
    ends : {xs : List Tree} → Over xs → v ≤ℤ total s xs → Ours s v xs
    plays : {x : Tree} {xs : List Tree} (p : Part x xs) (o : Tree) → Part o (options x s) → Theirs s v (put p o) → Ours s v xs

  -- the other is to move, and s has an answer to each of its moves
  pub data Theirs (s : Side) (v : ℤ) : List Tree → Type 0 where
    stands : {xs : List Tree} → Over xs → v ≤ℤ total s xs → Theirs s v xs
    waits : {x : Tree} {xs : List Tree} → Part x xs → Open x
        → ((y : Tree) (p : Part y xs) (o : Tree) → Part o (options y (other s)) → Ours s v (put p o)) → Theirs s v xs
