-- What the buffers hold of the rows of a job: the rows and picks, and nothing after them.
use Rattle.std.specs.Prelude.{◌≡◌, ℕ, ◌+◌, ◌-◌, min, List, [], ◌∷◌, ◌++◌, length, pos, Ok, Err, Result, slice_index_or}
use Rattle.terms.specs.declared.fault.Fault.{Fault}
use Rattle.trees.specs.declared.row.TreeRow.{TreeRow}
use Rattle.trees.specs.declared.row.PickRun.{PickRun}
use Rattle.trees.specs.Written.{empty, blank, pick_limit}
use Rattle.lines.specs.Reading.{State, walk}
use Rattle.tree_text.specs.Rows.{Row, leaf, fork, after_row, picked, top, row_lines, tree_lines}

abbrev pub run : ℕ → List ℕ → PickRun
run begin xs = record { begin = begin; count = length xs }

-- a row whose picks begin at `used`
abbrev pub row_at : ℕ → Row → TreeRow
row_at used (leaf z) = record { score = z; left = empty; right = empty }
row_at used (fork left right) = record { score = pos 0; left = run used left; right = run (used + length left) right }

unfoldable pub rows_from : ℕ → List Row → List TreeRow
rows_from used [] = []
rows_from used (r ∷ rs) = row_at used r ∷ rows_from (used + length (picked r)) rs

unfoldable pub picks_of : List Row → List ℕ
picks_of [] = []
picks_of (r ∷ rs) = picked r ++ picks_of rs

-- a buffer that begins with the list and is blank after it
abbrev pub Content : {A : Type 0} → A → List A → List A → Type 0
Content none cells xs = (k : ℕ) → slice_index_or cells k none ≡ slice_index_or xs k none

-- the rows and picks of these rows
abbrev pub Holds : List Row → List TreeRow → List ℕ → Type 0
Holds rs rows picks = Content blank rows (rows_from 0 rs) × Content 0 picks (picks_of rs)

abbrev pub Blank : List TreeRow → List ℕ → Type 0
Blank rows picks = Content blank rows [] × Content 0 picks []

-- after `n` rows were read: the buffers hold them; or the first fault
abbrev pub ReadRows : ℕ → ℕ → State → Result (Unit {0}) Fault → State → List TreeRow → List ℕ → Type 0
ReadRows n room s (Ok u) t rows picks = (rs : List Row) × (walk (row_lines (n - 1) room) after_row top n s ≡ Ok (rs, t)) × Holds rs rows picks
ReadRows n room s (Err e) t rows picks = walk (row_lines (n - 1) room) after_row top n s ≡ Err e

-- after a tree part was read: the buffers hold its rows; or the first fault, and they are blank
abbrev pub ReadTree : State → Result (Unit {0}) Fault → State → List TreeRow → List ℕ → Type 0
ReadTree s (Ok u) t rows picks = (rs : List Row) × (tree_lines (length rows) (min (length picks) pick_limit) s ≡ Ok (rs, t)) × Holds rs rows picks
ReadTree s (Err e) t rows picks = (tree_lines (length rows) (min (length picks) pick_limit) s ≡ Err e) × Blank rows picks

abbrev pub ReadPart : State → Result (Unit {0}) Fault → State → List TreeRow → List ℕ → Type 0
ReadPart s (Ok u) t rows picks = (rs : List Row) × (tree_lines (length rows) (min (length picks) pick_limit) s ≡ Ok (rs, t)) × Holds rs rows picks
ReadPart s (Err e) t rows picks = tree_lines (length rows) (min (length picks) pick_limit) s ≡ Err e
