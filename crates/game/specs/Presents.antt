-- The trees of the parts as they stand.
use Rattle.std.specs.Prelude.{◌≡◌, ℕ, List, ℤ, pos, ◌-ℤ◌, map, length, take, Some, None, Option, slice_index, slice_set}
use Rattle.terms.specs.declared.side.Side.{Side}
use Rattle.theory.specs.Trees.{Tree, at}
use Rattle.stories.specs.Game.{near, far}
use Rattle.bank.specs.Contents.{trees}
use Rattle.bank.specs.Positions.{position_of, IsAt}
use Rattle.bank.specs.declared.position.Position.{Position}
use Rattle.play.specs.Standing.{present}
use Rattle.game.specs.declared.present.Present.{Present}

abbrev pub standing : Present → List Tree
standing p = present (trees p.bank.now) p.rows

-- q is where the part k stands
pub record At (p : Present) (k : ℕ) (q : Position) : Type 0 where
  pub is : IsAt p.bank.now k (slice_index p.rows k) q
  pub tree : at (standing p) k ≡ Some (position_of q)

-- or there is no such part
abbrev pub Here : Present → ℕ → Option Position → Type 0
Here p k (Some q) = At p k q
Here p k None = at (standing p) k ≡ None

-- the near wall of a part, or 0 where there is no such part
abbrev pub near_in : Side → ℕ → Option Tree → ℤ
near_in s t None = pos 0
near_in s t (Some x) = near s t x

-- what its far wall has above its near wall
abbrev pub gain_in : Side → ℕ → Option Tree → ℤ
gain_in s t None = pos 0
gain_in s t (Some x) = far s t x -ℤ near s t x

-- the list begins with f of each tree
abbrev pub Tells : {A : Type 0} → (Tree → A) → Present → List A → Type 0
Tells f p r = take (length (trees p.bank.now)) r ≡ map f (standing p)

-- q is p after the part k has come to its row i
pub record StandsAt (p : Present) (k i : ℕ) (q : Present) : Type 0 where
  pub bank : q.bank.now ≡ p.bank.now
  pub rows : q.rows ≡ slice_set p.rows k i
