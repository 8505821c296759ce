-- A position made of a score and the options of both sides: ended where a side has none.
use Rattle.std.specs.Prelude.{List, [], ◌∷◌, ℤ}
use Rattle.theory.specs.Trees.{Tree, Forest, ended, branch, one, more}

-- the options, the first of them and the others
abbrev pub forest : Tree → List Tree → Forest
forest x [] = one x
forest x (y ∷ ys) = more x (forest y ys)

abbrev pub position : ℤ → List Tree → List Tree → Tree
position v [] R = ended v
position v (x ∷ L) [] = ended v
position v (x ∷ L) (y ∷ R) = branch (forest x L) (forest y R)
