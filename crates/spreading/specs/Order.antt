-- A tree's positions in breadth-first order: row 0 is the tree, and each row in turn appends its Left options in order, then its Right ones.
use Rattle.std.specs.Prelude.{ℕ, zero, suc, ◌+◌, List, [], ◌∷◌, ◌++◌, length, pos, slice_index_or}
use Rattle.terms.specs.declared.side.Side.TheVariants.{Left, Right}
use Rattle.theory.specs.Trees.{Tree, ended, options, size}

-- the options of both sides, Left's before Right's
abbrev pub children : Tree → List Tree
children x = options x Left ++ options x Right

abbrev pub sizes : List Tree → ℕ
sizes [] = 0
sizes (x ∷ xs) = size x + sizes xs

-- what is read past a list's end: a tree without options
abbrev pub none : Tree
none = ended (pos 0)

-- the positions found once the first i have appended their options
unfoldable pub grown : Tree → ℕ → List Tree
grown t zero = t ∷ []
grown t (suc i) = grown t i ++ children (slice_index_or (grown t i) i none)

-- all of them
abbrev pub positions : Tree → List Tree
positions t = grown t (size t)

abbrev pub row : Tree → ℕ → Tree
row t i = slice_index_or (positions t) i none

-- where the options of row i begin
abbrev pub first : Tree → ℕ → ℕ
first t i = length (grown t i)

-- the same with a queue, n turns of it: the front leaves, and its options join at the back
unfoldable pub served : ℕ → List Tree → List Tree
served zero queue = []
served (suc n) [] = []
served (suc n) (x ∷ queue) = x ∷ served n (queue ++ children x)
