-- What a row keeps of its position.
use Rattle.std.specs.Prelude.{◌≡◌, ℕ, ◌+◌, ◌<◌, ◌≤◌, List, ◌++◌, map, length, drop, Some, None, Option, slice_index, slice_index_or}
use Rattle.std.specs.List.{range_with_len}
use Rattle.terms.specs.declared.side.Side.{Side}
use Rattle.terms.specs.Sides.{pick}
use Rattle.theory.specs.Trees.{Tree, ended, branch, trees, size, Score}
use Rattle.spreading.specs.Order.{none, row, first}
use Rattle.spreading.specs.declared.shape.Shape.{Shape}
use Rattle.spreading.specs.declared.shape.Shape.TheVariants.{Unused, Ended, Open}

-- the most rows that a bank has
abbrev pub row_limit : ℕ
row_limit = 1024

abbrev pub blank : Shape
blank = Unused

-- a position whose options begin at row f
abbrev pub shape_of : ℕ → Tree → Shape
shape_of f (ended v) = Ended v
shape_of f (branch L R) = Open (record { first = f; lefts = length (trees L); rights = length (trees R) })

-- row i of t
abbrev pub shape_at : Tree → ℕ → Shape
shape_at t i = shape_of (first t i) (row t i)

-- all rows of t
unfoldable pub shapes_of : Tree → List Shape
shapes_of t = map (shape_at t) (range_with_len 0 (size t))

-- where a side's options begin, how many they are, and where those of both end; a row that is not open has none
abbrev pub start_of : Shape → Side → ℕ
start_of (Open x) s = pick s x.first (x.first + x.lefts)
start_of _ s = 0

abbrev pub count_of : Shape → Side → ℕ
count_of (Open x) s = pick s x.lefts x.rights
count_of _ s = 0

abbrev pub end_of : Shape → ℕ
end_of (Open x) = x.first + (x.lefts + x.rights)
end_of _ = 0

-- what spreading does to the free rows: those of t come first and the others stay, or t has more than there are
abbrev pub SpreadInto : Tree → List Shape → Option ℕ → List Shape → Type 0
SpreadInto t free None after = length free < size t
SpreadInto t free (Some n) after = (n ≡ size t) × (n ≤ length free) × (after ≡ shapes_of t ++ drop n free)

-- the rows taken are no more than there are
abbrev pub Taken : List Shape → Option ℕ → Type 0
Taken free None = Unit {0}
Taken free (Some n) = n ≤ length free

-- the codes stand for the trees, in their order
abbrev pub Stand : (ℕ → Option Tree) → List ℕ → List Tree → Type 0
Stand tree codes xs = (k : ℕ) → k < length xs → tree (slice_index codes k) ≡ Some (slice_index_or xs k none)

-- what can be said of a row among n without its tree: its options lie within, and its score is lawful
abbrev pub SoundRow : ℕ → Shape → Type 0
SoundRow n Unused = Unit {0}
SoundRow n (Ended v) = Score v
SoundRow n (Open x) = x.first + (x.lefts + x.rights) ≤ n

abbrev pub Sound : List Shape → Type 0
Sound shapes = (k : ℕ) → k < length shapes → SoundRow (length shapes) (slice_index_or shapes k blank)
