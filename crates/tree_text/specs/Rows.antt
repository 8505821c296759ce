-- The rows of a tree as a job writes them.
use Rattle.std.specs.Prelude.{ℕ, zero, suc, ◌+◌, ◌-◌, ◌<◌, ◌≤◌, Bool, cond, List, [], ◌++◌, map, length, ℤ, Some, None, Ok, Err, Option, Result, nat_le, nat_lt}
use Rattle.std.specs.List.{flat_map, list_all, AllByRecursion}
use Rattle.terms.specs.declared.fault.Fault.{Fault}
use Rattle.terms.specs.declared.fault.Refusal.TheVariants.{RowNotAbove, TreeTooLarge}
use Rattle.terms.specs.Refusals.{fault}
use Rattle.theory.specs.Limits.{score_limit, option_limit}
use Rattle.theory.specs.Trees.{Score}
use Rattle.trees.specs.Written.{row_limit}
use Rattle.numbers.specs.Numbers.{written, decimal, upto, within, judged}
use Rattle.lines.specs.declared.key.Key.{Key}
use Rattle.lines.specs.declared.key.Key.TheVariants as key
use Rattle.lines.specs.Reading.{Reading, then, done, ◌>>=◌, walk, Along}
use Rattle.lines.specs.Lines.{entry, form, line, either}
use Rattle.lines.specs.Commas.{pieces, commas, all_of}

-- a row is ended, with its score, or has the rows of Left's options and of Right's
pub data Row : Type 0 where
  leaf : ℤ → Row
  fork : List ℕ → List ℕ → Row

-- where a row stands: its number, and how many picks the rows before it have
pub record Place : Type 0 where
  pub row : ℕ
  pub used : ℕ

-- no more than a side may have
abbrev pub few : Option (List ℕ) → Option (List ℕ)
few None = None
few (Some xs) = cond (nat_le (length xs) option_limit) (Some xs) None

-- the numbers of rows, the last of which is `last`
abbrev pub links : ℕ → List ℕ → Option (List ℕ)
links last text = few (all_of (upto last) (pieces text))

abbrev pub all_above : ℕ → List ℕ → Bool
all_above row = list_all (nat_lt row)

-- a row's list of options: first its form, then that each stands below the row, then that there is room for the picks
abbrev pub roomy : ℕ → Place → List ℕ → ℕ → Result (List ℕ) Fault
roomy room p xs n = cond (nat_le (p.used + length xs) room) (Ok xs) (Err (fault TreeTooLarge n))

abbrev pub placed : ℕ → Place → List ℕ → ℕ → Result (List ℕ) Fault
placed room p xs n = cond (all_above p.row xs) (roomy room p xs n) (Err (fault RowNotAbove n))

abbrev pub list_of : ℕ → ℕ → Place → List ℕ → ℕ → Result (List ℕ) Fault
list_of last room p text n = then (judged (links last text) n) (λ xs. placed room p xs n)

abbrev pub list_line : Key → ℕ → ℕ → Place → Reading (List ℕ)
list_line k last room p = entry k (list_of last room p)

abbrev pub behind : Place → List ℕ → Place
behind p xs = record { row = p.row; used = p.used + length xs }

abbrev pub leaf_line : Reading Row
leaf_line = do
  z ← entry key.End (form (within score_limit))
  done (leaf z)

-- an open row, of which the line left= has been read
abbrev pub fork_from : ℕ → ℕ → Place → List ℕ → ℕ → Reading Row
fork_from last room p text n s = then (list_of last room p text n) (λ left. then (list_line key.Right last room (behind p left) s) (λ q. Ok (fork left q.0, q.1)))

abbrev pub fork_lines : ℕ → ℕ → Place → Reading Row
fork_lines last room p = do
  left ← list_line key.Left last room p
  right ← list_line key.Right last room (behind p left)
  done (fork left right)

unfoldable pub row_lines : ℕ → ℕ → Place → Reading Row
row_lines last room p = either key.End leaf_line (fork_lines last room p)

-- the picks of a row, and where the row after it stands
abbrev pub picked : Row → List ℕ
picked (leaf z) = []
picked (fork left right) = left ++ right

abbrev pub after_row : Place → Row → Place
after_row p r = record { row = p.row + 1; used = p.used + length (picked r) }

abbrev pub top : Place
top = record { row = 0; used = 0 }

-- how many rows there are: at least one, and no more than there is room for
abbrev pub at_least_one : Option ℕ → Option ℕ
at_least_one None = None
at_least_one (Some zero) = None
at_least_one (Some (suc n)) = Some (suc n)

abbrev pub row_count : ℕ → List ℕ → ℕ → Result ℕ Fault
row_count lent text n = then (judged (at_least_one (upto row_limit text)) n) (λ k. cond (nat_le k lent) (Ok k) (Err (fault TreeTooLarge n)))

-- a tree part: how many rows, and then each
unfoldable pub tree_lines : ℕ → ℕ → Reading (List Row)
tree_lines lent room = do
  n ← entry key.Rows (row_count lent)
  walk (row_lines (n - 1) room) after_row top n

-- the texts
unfoldable pub links_text : List ℕ → List ℕ
links_text xs = commas (map written xs)

unfoldable pub row_text : Row → List ℕ
row_text (leaf z) = line key.End (decimal z)
row_text (fork left right) = line key.Left (links_text left) ++ line key.Right (links_text right)

unfoldable pub tree_text : List Row → List ℕ
tree_text rows = line key.Rows (written (length rows)) ++ flat_map row_text rows

-- what is asked of a tree part, with `lent` rows and room for `room` picks
abbrev pub GoodLinks : ℕ → ℕ → Place → List ℕ → Type 0
GoodLinks last room p xs = (0 < length xs) × (length xs ≤ option_limit) × AllByRecursion (λ x. x ≤ last) xs × AllByRecursion (λ x. p.row < x) xs × (p.used + length xs ≤ room)

abbrev pub GoodRow : ℕ → ℕ → Place → Row → Type 0
GoodRow last room p (leaf z) = Score z
GoodRow last room p (fork left right) = GoodLinks last room p left × GoodLinks last room (behind p left) right

abbrev pub GoodTree : ℕ → ℕ → List Row → Type 0
GoodTree lent room rows = ((0 < length rows) × (length rows ≤ row_limit) × (length rows ≤ lent)) × Along (GoodRow (length rows - 1) room) after_row top rows
