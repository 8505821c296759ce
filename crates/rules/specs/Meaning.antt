-- What a rule set's answers say of the tree of a code: none where the code is unknown.
use Rattle.std.specs.Prelude.{◌≡◌, ℕ, Bool, true, false, List, [], ℤ, Some, None, Option}
use Rattle.terms.specs.declared.side.Side.{Side}
use Rattle.theory.specs.Trees.{Tree, ended, branch, options, Lawful}

abbrev pub known_in : Option Tree → Bool
known_in None = false
known_in (Some x) = true

abbrev pub score_of : Tree → Option ℤ
score_of (ended v) = Some v
score_of (branch L R) = None

abbrev pub score_in : Option Tree → Option ℤ
score_in None = None
score_in (Some x) = score_of x

abbrev pub options_in : Option Tree → Side → List Tree
options_in None s = []
options_in (Some x) s = options x s

-- what the answer about an option says: a code for that very tree, or none where there is no such option
abbrev pub Names : (ℕ → Option Tree) → Option Tree → Option ℕ → Type 0
Names tree o None = o ≡ None
Names tree o (Some c) = (tree c ≡ o) × (known_in o ≡ true)

abbrev pub LawfulIn : Option Tree → Type 0
LawfulIn None = Unit {0}
LawfulIn (Some x) = Lawful x
