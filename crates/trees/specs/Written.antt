-- The tree that a row of two buffers, rows and picks, says. Every content of the buffers says some tree.
use Rattle.std.specs.Prelude.{◌≡◌, ℕ, zero, suc, ◌+◌, ◌<◌, ◌≤◌, Bool, true, false, cond, ◌&&◌, List, map, length, take, drop, replicate, ℤ, pos, neg_ℤ, Some, None, Option, int_le, nat_le, nat_lt, slice_index_or}
use Rattle.std.specs.List.{list_all}
use Rattle.terms.specs.declared.side.Side.{Side}
use Rattle.terms.specs.declared.side.Side.TheVariants.{Left, Right}
use Rattle.terms.specs.Sides.{pick}
use Rattle.theory.specs.Limits.{score_limit, option_limit}
use Rattle.theory.specs.Trees.{Tree, ended, options}
use Rattle.rules.specs.Positions.{position}
use Rattle.trees.specs.declared.row.PickRun.{PickRun}
use Rattle.trees.specs.declared.row.TreeRow.{TreeRow}

-- at most so many rows and picks of the buffers count
abbrev pub row_limit : ℕ
row_limit = 256

abbrev pub pick_limit : ℕ
pick_limit = 1024

-- the list of no options, and a row that is not in use
abbrev pub empty : PickRun
empty = record { begin = 0; count = 0 }

abbrev pub blank : TreeRow
blank = record { score = pos 0; left = empty; right = empty }

-- buffers in which nothing is written
abbrev pub blank_rows : ℕ → List TreeRow
blank_rows n = replicate n blank

abbrev pub blank_picks : ℕ → List ℕ
blank_picks n = replicate n 0

-- the rows that a list names, in their order
abbrev pub named : List ℕ → PickRun → List ℕ
named picks l = take l.count (drop l.begin picks)

-- each is a row above the own one and below the end
abbrev pub all_above : ℕ → ℕ → List ℕ → Bool
all_above own end = list_all (λ k. nat_lt own k && nat_lt k end)

-- a list is lawful at a row where its length is, and it lies within the picks and names only rows above
abbrev pub lawful_list : ℕ → List ℕ → ℕ → PickRun → Bool
lawful_list end picks own l =
    (nat_le 1 l.count && nat_le l.count option_limit) && (nat_le (l.begin + l.count) (length picks) && all_above own end (named picks l))

-- a lawful score as it stands, 0 for any other
abbrev pub score_or_zero : ℤ → ℤ
score_or_zero v = cond (int_le (neg_ℤ (pos score_limit)) v && int_le v (pos score_limit)) v (pos 0)

-- in the next definitions every row and every pick counts
abbrev pub row_at : List TreeRow → ℕ → TreeRow
row_at rows i = slice_index_or rows i blank

-- a row is open where both its lists are lawful
abbrev pub open_lists : ℕ → List ℕ → ℕ → TreeRow → Bool
open_lists end picks own row = lawful_list end picks own row.left && lawful_list end picks own row.right

abbrev pub open_row : List TreeRow → List ℕ → ℕ → Bool
open_row rows picks i = open_lists (length rows) picks i (row_at rows i)

-- the list of the side's options: empty where the row is not open
abbrev pub list_at : List TreeRow → List ℕ → ℕ → Side → PickRun
list_at rows picks i s = cond (open_row rows picks i) (pick s (row_at rows i).left (row_at rows i).right) empty

-- the rows of the side's options
abbrev pub options_at : List TreeRow → List ℕ → ℕ → Side → List ℕ
options_at rows picks i s = named picks (list_at rows picks i s)

-- the tree of a row, looking so many rows deep: options stand above their row, so that the number of rows suffices
unfoldable pub tree_within : ℕ → List TreeRow → List ℕ → ℕ → Tree
tree_within zero rows picks i = ended (pos 0)
tree_within (suc n) rows picks i =
    position (score_or_zero (row_at rows i).score) (map (tree_within n rows picks) (options_at rows picks i Left)) (map (tree_within n rows picks) (options_at rows picks i Right))

abbrev pub tree_of_row : List TreeRow → List ℕ → ℕ → Option Tree
tree_of_row rows picks i = cond (nat_lt i (length rows)) (Some (tree_within (length rows) rows picks i)) None

-- the tree of a code, which is a row number: the rows and picks past the limits do not count
unfoldable pub tree_at : List TreeRow → List ℕ → ℕ → Option Tree
tree_at rows picks = tree_of_row (take row_limit rows) (take pick_limit picks)

-- what a row says of its tree, given the trees of the rows: none past the end, the row's score where it is not open,
-- and else a position whose options are the trees of the rows that its lists name, in their order
abbrev pub Says : List TreeRow → List ℕ → (ℕ → Option Tree) → ℕ → Type 0
Says rows picks tree i =
    (length rows ≤ i → tree i ≡ None) ×
    (i < length rows → open_row rows picks i ≡ false → tree i ≡ Some (ended (score_or_zero (row_at rows i).score))) ×
    (i < length rows → open_row rows picks i ≡ true →
    (x : Tree) × (tree i ≡ Some x) × ((s : Side) → map (λ y. Some y) (options x s) ≡ map tree (options_at rows picks i s)))

-- a way to give every row a tree that agrees with what the rows say
abbrev pub Agrees : List TreeRow → List ℕ → (ℕ → Option Tree) → Type 0
Agrees rows picks tree = (i : ℕ) → Says (take row_limit rows) (take pick_limit picks) tree i

-- the trees agree with what the rows say, and no other trees do
abbrev pub TreesAsWritten : List TreeRow → List ℕ → Type 0
TreesAsWritten rows picks =
    Agrees rows picks (tree_at rows picks) × ((tree : ℕ → Option Tree) → Agrees rows picks tree → (i : ℕ) → tree i ≡ tree_at rows picks i)
