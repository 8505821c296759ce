-- The known figures, in one theorem: those of the trees and sums of the books, and that Snort's tree on a path of three points is the one
-- whose figures stand among them.
use Rattle.std.specs.Prelude.{◌≡◌, ℕ, Bool, ◌&&◌, ◌||◌, Some, ◌==◌}
use Rattle.theory.specs.Figures.{WorkedFigures, snort_path}
use Rattle.snort.specs.Play.{snort_tree}

-- 0 - 1 - 2
abbrev pub link : ℕ → ℕ → ℕ → ℕ → Bool
link a b j k = (j == a && k == b) || (j == b && k == a)

abbrev pub path : ℕ → ℕ → Bool
path j k = link 0 1 j k || link 1 2 j k

pub record KnownFigures : Type 0 where
  pub books : WorkedFigures
  pub snort : snort_tree 3 path 0 ≡ Some snort_path
