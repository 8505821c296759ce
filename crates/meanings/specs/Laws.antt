-- The trees of rows are as the rows say, every part means a lawful tree, and the rule sets over what was read give the trees that are meant.
use Rattle.std.specs.Prelude.{◌≡◌, ℕ, ◌<◌, min, List, map, length, Some, Ok}
use Rattle.terms.specs.declared.side.Side.{Side}
use Rattle.terms.specs.Sides.{pick}
use Rattle.theory.specs.Trees.{Tree, ended, options, at, Lawful}
use Rattle.trees.specs.declared.row.TreeRow.{TreeRow}
use Rattle.trees.specs.Written.{pick_limit, tree_at}
use Rattle.snort.specs.declared.map.Snort.{Snort}
use Rattle.snort.specs.Boards.{tree_on}
use Rattle.lines.specs.Reading.{State}
use Rattle.tree_text.specs.Rows.{Row, leaf, fork, tree_lines, GoodTree}
use Rattle.tree_text.specs.Written.{Holds}
use Rattle.map_text.specs.Maps.{Map}
use Rattle.map_text.specs.Shows.{Shows}
use Rattle.job.specs.Grammar.{Part, tree, snort, GoodPart}
use Rattle.meanings.specs.Meaning.{tree_of, meaning}

-- what a row says of its tree, given the trees of the rows: a leaf is ended with its score,
-- and of a fork each side's options are the trees of the rows that its list names, in their order
abbrev pub Says : (ℕ → Tree) → Tree → Row → Type 0
Says trees x (leaf z) = x ≡ ended z
Says trees x (fork left right) = (s : Side) → options x s ≡ map trees (pick s left right)

-- a way to give every row a tree that agrees with what the rows say
abbrev pub Agrees : List Row → (ℕ → Tree) → Type 0
Agrees rows trees = (i : ℕ) (r : Row) → at rows i ≡ Some r → Says trees (trees i) r

-- the trees of the rows agree with them, and no other trees do
abbrev pub RowsAsSaid : Type 0
RowsAsSaid =
    (lent room : ℕ) (rows : List Row) → GoodTree lent room rows →
    Agrees rows (tree_of rows) × ((trees : ℕ → Tree) → Agrees rows trees → (i : ℕ) → i < length rows → trees i ≡ tree_of rows i)

-- every good part means a tree, and a lawful one
abbrev pub PartsLawful : Type 0
PartsLawful = (lent room : ℕ) (p : Part) → GoodPart lent room p → (x : Tree) × (meaning p ≡ Some x) × Lawful x

-- row 0 of the buffers that hold the rows of a tree part has the tree that the part means
abbrev pub TreesRead : Type 0
TreesRead =
    (s t : State) (rows : List TreeRow) (picks : List ℕ) (rs : List Row) →
    tree_lines (length rows) (min (length picks) pick_limit) s ≡ Ok (rs, t) → Holds rs rows picks → tree_at rows picks 0 ≡ meaning (tree rs)

-- code 0 of the map of a Snort part has the tree that the part means
abbrev pub MapsRead : Type 0
MapsRead = (m : Map) (s : Snort) → Shows s m → tree_on s 0 ≡ meaning (snort m)
