-- Which texts are numbers, and what is written of a number.
use Rattle.std.specs.Prelude.{ℕ, zero, suc, ◌+◌, ◌-◌, ◌*◌, min, Bool, false, cond, ◌&&◌, ◌||◌, List, [], ◌∷◌, map, length, ℤ, pos, negsuc, Some, None, Ok, Err, Option, Result, ◌==◌, nat_le, nat_lt}
use Rattle.std.specs.Int.Digits.{digits_of}
use Rattle.terms.specs.declared.fault.Fault.{Fault}
use Rattle.terms.specs.declared.fault.Refusal.TheVariants.{WrongForm}
use Rattle.terms.specs.Refusals.{fault}

abbrev pub digit : ℕ → Bool
digit b = nat_le 48 b && nat_le b 57

-- the number that the digits of a text go on to write after those that wrote n
abbrev pub after : ℕ → List ℕ → Option ℕ
after n [] = Some n
after n (b ∷ bs) = cond (digit b) (after (n * 10 + (b - 48)) bs) None

-- a number is digits, the first of which is 0 only where it stands alone
abbrev pub natural : List ℕ → Option ℕ
natural [] = None
natural (b ∷ []) = after 0 (b ∷ [])
natural (b ∷ (c ∷ cs)) = cond (b == 48) None (after 0 (b ∷ (c ∷ cs)))

-- a minus stands only before a number that is not 0
abbrev pub below_zero : Option ℕ → Option ℤ
below_zero None = None
below_zero (Some zero) = None
below_zero (Some (suc n)) = Some (negsuc n)

abbrev pub above_zero : Option ℕ → Option ℤ
above_zero None = None
above_zero (Some n) = Some (pos n)

abbrev pub integer : List ℕ → Option ℤ
integer [] = None
integer (b ∷ bs) = cond (b == 45) (below_zero (natural bs)) (above_zero (natural (b ∷ bs)))

-- what is written of a number
unfoldable pub written : ℕ → List ℕ
written zero = 48 ∷ []
written (suc n) = map (λ d. 48 + d) (digits_of 10 (suc n))

unfoldable pub decimal : ℤ → List ℕ
decimal (pos n) = written n
decimal (negsuc n) = 45 ∷ written (suc n)

-- a number within a range from 0
abbrev pub at_most : ℕ → Option ℕ → Option ℕ
at_most m None = None
at_most m (Some n) = cond (nat_le n m) (Some n) None

abbrev pub upto : ℕ → List ℕ → Option ℕ
upto m text = at_most m (natural text)

-- an integer of size at most m
abbrev pub in_range : ℕ → Option ℤ → Option ℤ
in_range m None = None
in_range m (Some (pos n)) = cond (nat_le n m) (Some (pos n)) None
in_range m (Some (negsuc n)) = cond (nat_lt n m) (Some (negsuc n)) None

abbrev pub within : ℕ → List ℕ → Option ℤ
within m text = in_range m (integer text)

-- a number as the code holds it: all that do not fit 32 bits are one
abbrev pub capped : Option ℕ → Option ℕ
capped None = None
capped (Some n) = Some (min n 0xffff_ffff)

-- of two texts of numbers, whether the first says less: it is shorter, or as long and first lower
abbrev pub lower : List ℕ → List ℕ → Bool
lower [] ys = false
lower (x ∷ xs) [] = false
lower (x ∷ xs) (y ∷ ys) = nat_lt x y || (x == y && lower xs ys)

abbrev pub less_text : List ℕ → List ℕ → Bool
less_text xs ys = nat_lt (length xs) (length ys) || (length xs == length ys && lower xs ys)

-- what a line's value is, or that it has the wrong form
abbrev pub judged : {A : Type 0} → Option A → ℕ → Result A Fault
judged None line = Err (fault WrongForm line)
judged (Some a) line = Ok a
