-- Lists with single commas.
use Rattle.std.specs.Prelude.{ℕ, cond, List, [], ◌∷◌, ◌++◌, Some, None, Option, ◌==◌}

-- the pieces of a text between its commas, and the text of such pieces
abbrev pub onto_first : ℕ → List (List ℕ) → List (List ℕ)
onto_first x [] = (x ∷ []) ∷ []
onto_first x (l ∷ ls) = (x ∷ l) ∷ ls

abbrev pub pieces : List ℕ → List (List ℕ)
pieces [] = [] ∷ []
pieces (x ∷ xs) = cond (x == 44) ([] ∷ pieces xs) (onto_first x (pieces xs))

abbrev pub commas : List (List ℕ) → List ℕ
commas [] = []
commas (l ∷ []) = l
commas (l ∷ (m ∷ ms)) = l ++ (44 ∷ commas (m ∷ ms))

-- each piece read, or none
abbrev pub both : {A : Type 0} → Option A → Option (List A) → Option (List A)
both None o = None
both (Some a) None = None
both (Some a) (Some xs) = Some (a ∷ xs)

abbrev pub all_of : {A : Type 0} → (List ℕ → Option A) → List (List ℕ) → Option (List A)
all_of f [] = Some []
all_of f (l ∷ ls) = both (f l) (all_of f ls)

-- a list that was begun already
abbrev pub begun : {A : Type 0} → List A → Option (List A) → Option (List A)
begun xs None = None
begun xs (Some ys) = Some (xs ++ ys)
