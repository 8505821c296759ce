-- Which tree each part of a job means.
use Rattle.std.specs.Prelude.{ℕ, zero, suc, List, map, length, pos, Some, Option, slice_index_or}
use Rattle.theory.specs.Trees.{Tree, ended}
use Rattle.rules.specs.Positions.{position}
use Rattle.snort.specs.Play.{snort_tree}
use Rattle.tree_text.specs.Rows.{Row, leaf, fork}
use Rattle.map_text.specs.Maps.{Map}
use Rattle.map_text.specs.Shows.{has_edge}
use Rattle.job.specs.Grammar.{Part, tree, snort}

-- a row that is not there counts as ended, with 0
abbrev pub row_of : List Row → ℕ → Row
row_of rows i = slice_index_or rows i (leaf (pos 0))

-- the tree that a row says, given the trees of the rows: ended with its score, or open, with the trees of the rows that its lists name
abbrev pub row_tree : (ℕ → Tree) → Row → Tree
row_tree trees (leaf z) = ended z
row_tree trees (fork left right) = position (pos 0) (map trees left) (map trees right)

-- the tree of a row, looking so many rows deep: lists name rows after their own, so that the number of rows suffices
unfoldable pub tree_within : ℕ → List Row → ℕ → Tree
tree_within zero rows i = ended (pos 0)
tree_within (suc n) rows i = row_tree (tree_within n rows) (row_of rows i)

abbrev pub tree_of : List Row → ℕ → Tree
tree_of rows = tree_within (length rows) rows

-- the rows of a tree mean the tree of the first
abbrev pub rows_tree : List Row → Tree
rows_tree rows = tree_of rows 0

-- a map means Snort on it with no point coloured, which is code 0
abbrev pub map_tree : Map → Option Tree
map_tree m = snort_tree m.points (has_edge m.edges) 0

abbrev pub meaning : Part → Option Tree
meaning (tree rows) = Some (rows_tree rows)
meaning (snort m) = map_tree m
