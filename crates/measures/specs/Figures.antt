-- Heights and stops as they are read off the rows: a row's own from those of its options, which stand behind it.
use Rattle.std.specs.Prelude.{◌≡◌, ℕ, ◌+◌, ◌<◌, max, List, [], ◌∷◌, length, ℤ, pos, neg_ℤ, slice_index, slice_index_or}
use Rattle.std.specs.Int.{int_max}
use Rattle.terms.specs.declared.side.Side.{Side}
use Rattle.terms.specs.Sides.{other, pick}
use Rattle.theory.specs.Limits.{score_limit}
use Rattle.theory.specs.Trees.{Tree, options, height}
use Rattle.theory.specs.Stops.{stop}
use Rattle.spreading.specs.Order.{children, none}
use Rattle.spreading.specs.Shapes.{shape_of, start_of}
use Rattle.spreading.specs.declared.shape.Shape.{Shape}
use Rattle.measures.specs.declared.stops.Stops.{Stops}

unfoldable pub greatest : List ℕ → ℕ
greatest [] = 0
greatest (x ∷ xs) = max x (greatest xs)

-- the best of what options leave to the mover, from the other side's stops in them; at least the lowest score
unfoldable pub best_of : List ℤ → ℤ
best_of [] = neg_ℤ (pos score_limit)
best_of (v ∷ vs) = int_max (neg_ℤ v) (best_of vs)

-- of a position's two stops, that where this side is to move
abbrev pub stop_for : Side → Stops → ℤ
stop_for s x = pick s x.left x.right

-- h is the height of the row's position, if the heights of its options stand at their rows
abbrev pub HeightOf : Shape → List ℕ → ℕ → Type 0
HeightOf shape heights h =
    (f : ℕ) (x : Tree) → shape ≡ shape_of f x
    → ((k : ℕ) → k < length (children x) → slice_index heights (f + k) ≡ height (slice_index_or (children x) k none)) → h ≡ height x

-- v is the side's stop of the row's position, if the other side's stops of its options stand at their rows
abbrev pub StopOf : Shape → Side → List ℤ → ℤ → Type 0
StopOf shape s others v =
    (f : ℕ) (x : Tree) → shape ≡ shape_of f x
    → ((k : ℕ) → k < length (options x s) → slice_index_or others (start_of shape s + k) (pos 0) ≡ stop (slice_index_or (options x s) k none) (other s)) → v ≡ stop x s
