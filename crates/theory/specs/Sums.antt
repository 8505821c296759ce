-- A sum: trees side by side, any number of them. The mover picks an open tree and one of his options there.
use Rattle.std.specs.Prelude.{ℕ, zero, suc, ◌+◌, max, List, [], ◌∷◌, ◌++◌, map, ℤ, pos, ◌+ℤ◌, ◌-ℤ◌, neg_ℤ}
use Rattle.std.specs.Int.{int_max}
use Rattle.terms.specs.declared.side.Side.{Side}
use Rattle.terms.specs.declared.side.Side.TheVariants.{Left, Right}
use Rattle.terms.specs.Sides.{other, own}
use Rattle.theory.specs.Trees.{Tree, ended, branch, options, Ended, height}
use Rattle.theory.specs.Walls.{temperature, mean}

-- x stands in the list, at this place
pub data Part {A : Type 0} (x : A) : List A → Type 0 where
  here : {xs : List A} → Part x (x ∷ xs)
  there : {y : A} {xs : List A} → Part x xs → Part x (y ∷ xs)

-- the list with o put at the place
abbrev pub put : {A : Type 0} {x : A} {xs : List A} → Part x xs → A → List A
put (here {xs = xs}) o = o ∷ xs
put (there {y = y} p) o = y ∷ put p o

-- what was put stands there
abbrev pub placed : {A : Type 0} {x : A} {xs : List A} (p : Part x xs) (o : A) → Part o (put p o)
placed here o = here
placed (there p) o = there (placed p o)

-- each tree of the list has the property
abbrev pub All : (Tree → Type 0) → List Tree → Type 0
All P [] = Unit {0}
All P (x ∷ xs) = P x × All P xs

-- what the sum can become by one move of the side
abbrev pub moves : Side → List Tree → List (List Tree)
moves s [] = []
moves s (x ∷ xs) = map (λ o. o ∷ xs) (options x s) ++ map (λ ys. x ∷ ys) (moves s xs)

abbrev pub sum_of : (Tree → ℤ) → List Tree → ℤ
sum_of f [] = pos 0
sum_of f (x ∷ xs) = f x +ℤ sum_of f xs

-- the score of an ended tree, as the side counts it
abbrev pub score : Side → Tree → ℤ
score s (ended v) = own s v
score s (branch L R) = pos 0

-- a sum is over when all its trees have ended
abbrev pub Over : List Tree → Type 0
Over xs = All Ended xs

-- its score then, as the side counts it
abbrev pub total : Side → List Tree → ℤ
total s xs = sum_of (score s) xs

-- the greatest value of f
abbrev pub greatest : {A : Type 0} → (A → ℤ) → A → List A → ℤ
greatest f x [] = f x
greatest f x (y ∷ ys) = int_max (f x) (greatest f y ys)

-- the greatest value over the list, or z where it is empty
abbrev pub best_by : {A : Type 0} → (A → ℤ) → ℤ → List A → ℤ
best_by f z [] = z
best_by f z (x ∷ xs) = greatest f x xs

-- best play of at most n moves, in the terms of the side that moves first
unfoldable pub sum_stop : ℕ → Side → List Tree → ℤ
sum_stop zero s xs = total s xs
sum_stop (suc n) s xs = best_by (λ ys. neg_ℤ (sum_stop n (other s) ys)) (total s xs) (moves s xs)

-- no play of the sum has more moves
abbrev pub span : List Tree → ℕ
span [] = 0
span (x ∷ xs) = height x + span xs

-- the score under best play by both, for Left, in points: the stop of the mover
unfoldable pub best_score : Side → List Tree → ℤ
best_score mover xs = own mover (sum_stop (span xs) mover xs)

-- the greatest temperature of the open trees, or 0 without any
abbrev pub hottest : List Tree → ℕ
hottest [] = 0
hottest (x ∷ xs) = max (temperature x) (hottest xs)

-- the bracket around the best score, for Left, in units: the means, and the greatest temperature for the mover's gain
abbrev pub low : Side → List Tree → ℤ
low Left xs = sum_of mean xs
low Right xs = sum_of mean xs -ℤ pos (hottest xs)

abbrev pub high : Side → List Tree → ℤ
high Left xs = sum_of mean xs +ℤ pos (hottest xs)
high Right xs = sum_of mean xs
