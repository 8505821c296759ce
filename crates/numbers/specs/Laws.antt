-- What the readings of numbers are, in the words of what is written.
use Rattle.std.specs.Prelude.{◌≡◌, ℕ, List, ℤ, Some, nat_lt}
use Rattle.numbers.specs.Numbers.{natural, written, integer, decimal, less_text}

-- the texts that are read as n are just the one that is written of n
abbrev pub NaturalExact : Type 0
NaturalExact = (text : List ℕ) (n : ℕ) → (natural text ≡ Some n → text ≡ written n) × (text ≡ written n → natural text ≡ Some n)

abbrev pub IntegerExact : Type 0
IntegerExact = (text : List ℕ) (z : ℤ) → (integer text ≡ Some z → text ≡ decimal z) × (text ≡ decimal z → integer text ≡ Some z)

-- texts of numbers stand in the order of their numbers
abbrev pub Ordered : Type 0
Ordered = (xs ys : List ℕ) (m n : ℕ) → natural xs ≡ Some m → natural ys ≡ Some n → less_text xs ys ≡ nat_lt m n
