-- The keys and their names.
use Rattle.std.specs.Prelude.{ℕ, cond, List, [], ◌∷◌, Some, None, codes, Option}
use Rattle.std.specs.Str.{bytes_eq}
use Rattle.lines.specs.declared.key.Key.{Key}
use Rattle.lines.specs.declared.key.Key.TheVariants.{Side, First, Parts, Rules, Rows, End, Left, Right, Points, Edges, Moves, Move}

abbrev pub name : Key → List ℕ
name Side = codes "side"
name First = codes "first"
name Parts = codes "parts"
name Rules = codes "rules"
name Rows = codes "rows"
name End = codes "end"
name Left = codes "left"
name Right = codes "right"
name Points = codes "points"
name Edges = codes "edges"
name Moves = codes "moves"
name Move = codes "move"

abbrev pub keys : List Key
keys = Side ∷ First ∷ Parts ∷ Rules ∷ Rows ∷ End ∷ Left ∷ Right ∷ Points ∷ Edges ∷ Moves ∷ Move ∷ []

-- the first of some things of which this is the word
abbrev pub named_in : {A : Type 0} → (A → List ℕ) → List A → List ℕ → Option A
named_in word [] text = None
named_in word (x ∷ xs) text = cond (bytes_eq text (word x)) (Some x) (named_in word xs text)

abbrev pub named : List ℕ → Option Key
named text = named_in name keys text
