-- The worked figures, all in one theorem over the definitions.
use Rattle.std.specs.Prelude.{◌≡◌, ℕ, true, List, [], ◌∷◌, ℤ, pos, negsuc, ◌*ℤ◌}
use Rattle.terms.specs.declared.side.Side.TheVariants.{Left, Right}
use Rattle.theory.specs.Limits.{unit}
use Rattle.theory.specs.Trees.{Tree, ended, branch, one, more, size}
use Rattle.theory.specs.Stops.{cold}
use Rattle.theory.specs.Walls.{temperature, mean}
use Rattle.theory.specs.Corners.{corners_of}
use Rattle.theory.specs.Sums.{best_score, hottest, low, high}
use Rattle.theory.specs.Sente.{idle, theirs, floor}

-- {a|b}
abbrev pub switch : Tree → Tree → Tree
switch a b = branch (one a) (one b)

abbrev pub points : ℕ → Tree
points n = ended (pos n)

-- {4|0}
abbrev pub four_or_nothing : Tree
four_or_nothing = switch (points 4) (points 0)

-- {{9|2}|0}: Left's move there threatens more than it is worth
abbrev pub nine_two : Tree
nine_two = switch (switch (points 9) (points 2)) (points 0)

-- {{5|2}|0}
abbrev pub five_two : Tree
five_two = switch (switch (points 5) (points 2)) (points 0)

-- the sum of the first two
abbrev pub two_regions : List Tree
two_regions = four_or_nothing ∷ nine_two ∷ []

-- Snort on a path of three points: who colours an end leaves the other end to both, and who colours the middle has all three
abbrev pub left_end : Tree
left_end = branch (more (points 3) (one (points 3))) (one (points 0))

abbrev pub right_end : Tree
right_end = branch (one (points 0)) (more (ended (negsuc 2)) (one (ended (negsuc 2))))

abbrev pub snort_path : Tree
snort_path = branch (more left_end (more (points 3) (one left_end))) (more right_end (more (ended (negsuc 2)) (one right_end)))

-- the tree has this mean, this temperature and these corners on its left and right wall
pub record Drawing (x : Tree) (m : ℤ) (t : ℕ) (lefts rights : List ℕ) : Type 0 where
  pub middle : mean x ≡ m
  pub heat : temperature x ≡ t
  pub left : corners_of x Left ≡ lefts
  pub right : corners_of x Right ≡ rights

pub record WorkedFigures : Type 0 where
  pub four : Drawing four_or_nothing (pos 8192) 8192 (8192 ∷ []) (8192 ∷ [])
  pub nine : Drawing nine_two (pos 8192) 8192 [] (8192 ∷ [])
  pub five : Drawing five_two (pos 7168) 7168 (6144 ∷ 7168 ∷ []) (7168 ∷ [])
  pub nothing : Drawing (switch (points 0) (points 0)) (pos 0) 0 [] []
  pub cold_switch : cold (switch (points 0) (points 1)) ≡ true
  pub cold_below : cold (switch (switch (points 0) (points 1)) (points 0)) ≡ true
  pub snort_size : size snort_path ≡ 19
  pub snort_mean : mean snort_path ≡ pos 0
  pub snort_heat : temperature snort_path ≡ 12288
  -- the two regions with Left as our side: ours first
  pub best_ours : (pos unit *ℤ best_score Left two_regions) ≡ pos 24576
  pub floor_ours : floor Left (hottest two_regions) two_regions idle ≡ pos 16384
  pub low_ours : low Left two_regions ≡ pos 16384
  pub high_ours : high Left two_regions ≡ pos 24576
  -- and theirs first
  pub best_theirs : (pos unit *ℤ best_score Right two_regions) ≡ pos 8192
  pub floor_theirs : floor Left (hottest two_regions) two_regions theirs ≡ pos 8192
  pub low_theirs : low Right two_regions ≡ pos 8192
  pub high_theirs : high Right two_regions ≡ pos 16384
