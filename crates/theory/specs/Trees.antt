-- Positions as finite trees: an ended one has a score in points, an open one has options for Left and for Right, at least one each.
use Rattle.std.specs.Prelude.{ℕ, zero, suc, ◌+◌, ◌≤◌, max, List, [], ◌∷◌, length, ℤ, pos, neg_ℤ, ◌≤ℤ◌, Some, None, Option}
use Rattle.terms.specs.declared.side.Side.{Side}
use Rattle.terms.specs.Sides.{pick}
use Rattle.theory.specs.Limits.{score_limit, option_limit}

mutual
  pub data Tree : Type 0 where
    ended : ℤ → Tree
    branch : Forest → Forest → Tree
    deriving IsSet as Tree-set

  -- the options of one side
  pub data Forest : Type 0 where
    one : Tree → Forest
    more : Tree → Forest → Forest
    deriving IsSet as Forest-set

abbrev pub trees : Forest → List Tree
trees (one x) = x ∷ []
trees (more x F) = x ∷ trees F

-- the options of the side, in their order; none where the tree is ended
abbrev pub options : Tree → Side → List Tree
options (ended v) s = []
options (branch L R) s = trees (pick s L R)

-- what stands at place k of a list
abbrev pub at : {A : Type 0} → List A → ℕ → Option A
at [] k = None
at (x ∷ xs) zero = Some x
at (x ∷ xs) (suc k) = at xs k

abbrev pub Open : Tree → Type 0
Open (ended v) = ⊥
Open (branch L R) = Unit {0}

abbrev pub Ended : Tree → Type 0
Ended (ended v) = Unit {0}
Ended (branch L R) = ⊥

-- a score within the limit
abbrev pub Score : ℤ → Type 0
Score v = (neg_ℤ (pos score_limit) ≤ℤ v) × (v ≤ℤ pos score_limit)

-- every score is within its limit, and every side has no more options than it may
abbrev mutual
  pub Lawful : Tree → Type 0
  Lawful (ended v) = Score v
  Lawful (branch L R) = (length (trees L) ≤ option_limit) × (length (trees R) ≤ option_limit) × LawfulF L × LawfulF R

  pub LawfulF : Forest → Type 0
  LawfulF (one x) = Lawful x
  LawfulF (more x F) = Lawful x × LawfulF F

-- every score is within its limit
abbrev mutual
  pub Within : Tree → Type 0
  Within (ended v) = Score v
  Within (branch L R) = WithinF L × WithinF R

  pub WithinF : Forest → Type 0
  WithinF (one x) = Within x
  WithinF (more x F) = Within x × WithinF F

-- the longest number of moves
unfoldable mutual
  pub height : Tree → ℕ
  height (ended v) = 0
  height (branch L R) = suc (max (height_f L) (height_f R))

  pub height_f : Forest → ℕ
  height_f (one x) = height x
  height_f (more x F) = max (height x) (height_f F)

-- the number of positions, itself among them
unfoldable mutual
  pub size : Tree → ℕ
  size (ended v) = 1
  size (branch L R) = suc (size_f L + size_f R)

  pub size_f : Forest → ℕ
  size_f (one x) = size x
  size_f (more x F) = size x + size_f F
