-- The rows of the worked trees, and that the trees are fair.
use Rattle.std.proofs.Common.{◌≡◌, ℕ, ◌≤◌, [], ◌∷◌, ℤ, pos, ◌≤ℤ◌, refl, arith}
use Rattle.std.proofs.lemmas.Int.{ints}
use Rattle.theory.specs.Limits.{score_limit}
use Rattle.theory.specs.Trees.{ended, size, height, Score}
use Rattle.theory.specs.Stops.{stop}
use Rattle.theory.specs.Fair.{Fair}
use Rattle.theory.specs.Figures.{switch}
use Rattle.spreading.specs.Order.{grown}
use Rattle.spreading.specs.Shapes.{shapes_of}
use Rattle.spreading.specs.declared.shape.Shape.{Shape}
use Rattle.spreading.specs.declared.shape.Shape.TheVariants.{Ended, Open}

abbrev score_row : ℤ → Shape
score_row v = Ended v

abbrev switch_row : ℕ → Shape
switch_row f = Open (record { first = f; lefts = 1; rights = 1 })

-- {a|b}
pub switch_fair : (a b : ℤ) → Score a → Score b → b ≤ℤ a → Fair (switch (ended a) (ended b))
unfolding height stop
switch_fair a b p q h = record { shallow = omega arith; warm = (omega (arith, ints), tt, tt); scores = (p, q) }

pub switch_rows : (a b : ℤ) → switch_row 1 ∷ score_row a ∷ score_row b ∷ [] ≡ shapes_of (switch (ended a) (ended b))
unfolding shapes_of grown size
switch_rows a b = refl

-- {{a|b}|c}
pub threat_fair : (a b c : ℤ) → Score a → Score b → Score c → b ≤ℤ a → c ≤ℤ b → Fair (switch (switch (ended a) (ended b)) (ended c))
unfolding height stop
threat_fair a b c p q r h k = record { shallow = omega arith; warm = (omega (arith, ints), (omega (arith, ints), tt, tt), tt); scores = ((p, q), r) }

pub threat_rows : (a b c : ℤ) → switch_row 1 ∷ switch_row 3 ∷ score_row c ∷ score_row a ∷ score_row b ∷ [] ≡ shapes_of (switch (switch (ended a) (ended b)) (ended c))
unfolding shapes_of grown size
threat_rows a b c = refl

pub score : (n : ℕ) → n ≤ score_limit → Score (pos n)
score n h = (omega (arith, ints), omega (arith, ints))
