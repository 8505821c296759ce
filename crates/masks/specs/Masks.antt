-- Sets of numbers as masks: k is in a mask where its bit of value 2 ^ k is set.
use Rattle.std.specs.Prelude.{ℕ, zero, suc, ◌+◌, ◌^◌, Bool, cond, List, filter, ◌==◌}
use Rattle.std.specs.Int.{bit_at}
use Rattle.std.specs.List.{range_with_len, list_any}

unfoldable pub has : ℕ → ℕ → Bool
has m k = bit_at m k == 1

-- those of the n numbers from i on that pass the test, in rising order
unfoldable pub members : (ℕ → Bool) → ℕ → ℕ → List ℕ
members p i n = filter p (range_with_len i n)

-- some number below n passes the test
abbrev pub some_below : (ℕ → Bool) → ℕ → Bool
some_below p n = list_any p (range_with_len 0 n)

-- the mask of the numbers below n that pass the test
abbrev pub mask_of : (ℕ → Bool) → ℕ → ℕ
mask_of p zero = 0
mask_of p (suc n) = mask_of p n + cond (p n) (2 ^ n) 0
