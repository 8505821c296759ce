-- The laws of hot sums. Each stands in the contract of a function of this crate, so each is proved.
use Rattle.std.specs.Prelude.{◌≡◌, ℕ, suc, ◌%◌, ◌<◌, ◌≤◌, min, true, false, List, [], ◌∷◌, length, ℤ, pos, ◌+ℤ◌, ◌-ℤ◌, ◌*ℤ◌, neg_ℤ, ◌≤ℤ◌, ◌<ℤ◌}
use Rattle.terms.specs.declared.side.Side.{Side}
use Rattle.terms.specs.declared.side.Side.TheVariants.{Left, Right}
use Rattle.terms.specs.Sides.{other, own}
use Rattle.theory.specs.Limits.{unit, greatest_height, wall_limit}
use Rattle.theory.specs.Trees.{Tree, Forest, branch, options, Open, Lawful, height}
use Rattle.theory.specs.Stops.{stop, Warm, cold}
use Rattle.theory.specs.Fair.{Fair}
use Rattle.theory.specs.Walls.{wall, temperature, mean, left_wall, right_wall, left_scaffold, right_scaffold}
use Rattle.theory.specs.Corners.{In, Ordered, Corners, rising, falling, corners_of}
use Rattle.theory.specs.Sums.{Part, put, placed, All, sum_of, sum_stop, span, best_score, hottest, low, high, Over, total}
use Rattle.theory.specs.Strategies.{Ours, Theirs}
use Rattle.theory.specs.Sente.{taxed, Best, Turn, idle, pending, theirs, floor, Run, Sente, Makes}
use Rattle.theory.specs.Mirror.{mirror}
use Rattle.theory.specs.Textbook.{left_stop, right_stop, book_left, book_right, book_temperature, book_mean, left_sum_stop, right_sum_stop}

-- ---- fair trees
-- the test for cold positions says whether the tree is warm, and a lawful tree of legal height that is warm is fair
pub record Judged (x : Tree) : Type 0 where
  pub yes : cold x ≡ true → Warm x → ⊥
  pub no : cold x ≡ false → Warm x
  pub fair : Lawful x → Warm x → height x ≤ greatest_height → Fair x

abbrev pub ColdIsJudged : Type 0
ColdIsJudged = (x : Tree) → Judged x

-- ---- walls
-- a left wall falls by 0 or 1 at each unit, a right wall rises by 0 or 1, and it is never above the left one; at 0 they are the stops
pub record Slopes (x : Tree) : Type 0 where
  pub falls : (t : ℕ) → (left_wall x (suc t) ≤ℤ left_wall x t) × (left_wall x t ≤ℤ (left_wall x (suc t) +ℤ pos 1))
  pub rises : (t : ℕ) → (right_wall x t ≤ℤ right_wall x (suc t)) × (right_wall x (suc t) ≤ℤ (right_wall x t +ℤ pos 1))
  pub order : (t : ℕ) → right_wall x t ≤ℤ left_wall x t
  pub start_left : left_wall x 0 ≡ (pos unit *ℤ stop x Left)
  pub start_right : right_wall x 0 ≡ (pos unit *ℤ neg_ℤ (stop x Right))

abbrev pub WallsSlope : Type 0
WallsSlope = (x : Tree) → Fair x → Slopes x

-- the scaffolds are equal at the temperature, and before it the left one is above; up to it they are the walls
pub record Meet (L R : Forest) : Type 0 where
  pub equal : left_scaffold L (temperature (branch L R)) ≡ right_scaffold R (temperature (branch L R))
  pub before : (t : ℕ) → t < temperature (branch L R) → right_scaffold R t <ℤ left_scaffold L t
  pub left : (t : ℕ) → t ≤ temperature (branch L R) → left_wall (branch L R) t ≡ left_scaffold L t
  pub right : (t : ℕ) → t ≤ temperature (branch L R) → right_wall (branch L R) t ≡ right_scaffold R t

abbrev pub ScaffoldsMeet : Type 0
ScaffoldsMeet = (L R : Forest) → Fair (branch L R) → Meet L R

-- from the temperature on both walls are the mean
pub record Mast (x : Tree) : Type 0 where
  pub left : (t : ℕ) → temperature x ≤ t → left_wall x t ≡ mean x
  pub right : (t : ℕ) → temperature x ≤ t → right_wall x t ≡ mean x

abbrev pub WallsJoin : Type 0
WallsJoin = (x : Tree) → Fair x → Mast x

-- no figure of a tree leaves the range of the scores
pub record Ranged (x : Tree) : Type 0 where
  pub walls : (s : Side) (t : ℕ) → (neg_ℤ (pos wall_limit) ≤ℤ wall x s t) × (wall x s t ≤ℤ pos wall_limit)
  pub means : (neg_ℤ (pos wall_limit) ≤ℤ mean x) × (mean x ≤ℤ pos wall_limit)
  pub heat : temperature x ≤ wall_limit

abbrev pub FiguresFit : Type 0
FiguresFit = (x : Tree) → Fair x → Ranged x

-- ---- corners
-- each wall has a list of corners, none above the temperature, which draws it from its value at 0; it begins sloped where their number is odd
pub record Drawn (x : Tree) : Type 0 where
  pub left : Corners (left_wall x) (corners_of x Left)
  pub right : Corners (right_wall x) (corners_of x Right)
  pub left_is : (t : ℕ) → left_wall x t ≡ falling (left_wall x 0) (corners_of x Left) t
  pub right_is : (t : ℕ) → right_wall x t ≡ rising (right_wall x 0) (corners_of x Right) t
  pub left_begins : left_wall x 0 ≡ (left_wall x 1 +ℤ pos (length (corners_of x Left) % 2))
  pub right_begins : right_wall x 1 ≡ (right_wall x 0 +ℤ pos (length (corners_of x Right) % 2))
  pub low : (s : Side) (t : ℕ) → In t (corners_of x s) → t ≤ temperature x

abbrev pub WallsAreDrawn : Type 0
WallsAreDrawn = (x : Tree) → Fair x → Drawn x

-- a start and a list that draw the wall are its value at 0 and its corners
pub record Sole (x : Tree) : Type 0 where
  pub left : (v : ℤ) (cs : List ℕ) → Ordered cs → ((t : ℕ) → left_wall x t ≡ falling v cs t) → (v ≡ left_wall x 0) × (cs ≡ corners_of x Left)
  pub right : (v : ℤ) (cs : List ℕ) → Ordered cs → ((t : ℕ) → right_wall x t ≡ rising v cs t) → (v ≡ right_wall x 0) × (cs ≡ corners_of x Right)

abbrev pub DrawingIsSole : Type 0
DrawingIsSole = (x : Tree) → Sole x

-- what any rising list draws has its corners there, and a function has one list of corners
pub record Turning (cs : List ℕ) : Type 0 where
  pub falls : (v : ℤ) → Corners (falling v cs) cs
  pub rises : (v : ℤ) → Corners (rising v cs) cs
  pub one : (f : ℕ → ℤ) (ds : List ℕ) → Corners f cs → Corners f ds → cs ≡ ds

abbrev pub ListsTurn : Type 0
ListsTurn = (cs : List ℕ) → Ordered cs → Turning cs

-- ---- sums
-- the score under best play lies in the bracket: the means, and the greatest temperature on the mover's side
abbrev pub SumBounds : Type 0
SumBounds = (mover : Side) (xs : List Tree) → All Fair xs
    → (low mover xs ≤ℤ (pos unit *ℤ best_score mover xs)) × ((pos unit *ℤ best_score mover xs) ≤ℤ high mover xs)

-- one tree alone has the tree's own stops
pub record Lone (x : Tree) : Type 0 where
  pub left : best_score Left (x ∷ []) ≡ stop x Left
  pub right : best_score Right (x ∷ []) ≡ neg_ℤ (stop x Right)

abbrev pub Alone : Type 0
Alone = (x : Tree) → Lone x

-- the stop is the most that the mover can make sure of, and the least that the other can hold him to
pub record Strategic (s : Side) (xs : List Tree) : Type 0 where
  pub ours : Ours s (sum_stop (span xs) s xs) xs
  pub most : (v : ℤ) → Ours s v xs → v ≤ℤ sum_stop (span xs) s xs
  pub theirs : Theirs (other s) (neg_ℤ (sum_stop (span xs) s xs)) xs
  pub least : (v : ℤ) → Theirs (other s) v xs → v ≤ℤ neg_ℤ (sum_stop (span xs) s xs)
  -- and no play has more moves than the sum of the heights
  pub long : (n : ℕ) → span xs ≤ n → sum_stop n s xs ≡ sum_stop (span xs) s xs

abbrev pub StopsAreValues : Type 0
StopsAreValues = (s : Side) (xs : List Tree) → Strategic s xs

-- ---- the steps of sentestrat
-- in one part: no option of a side, taxed, passes its wall, and up to the temperature some option reaches it
pub record Step (s : Side) (x : Tree) (a : ℕ) : Type 0 where
  pub over : (o : Tree) → Part o (options x s) → taxed s o a ≤ℤ wall x s a
  pub reached : Open x → a ≤ temperature x → (o : Tree) × Part o (options x s) × (taxed s o a ≡ wall x s a)

abbrev pub OptionsStep : Type 0
OptionsStep = (s : Side) (x : Tree) (a : ℕ) → Fair x → Step s x a

-- over a sum: the floor never falls
pub record Kept (s : Side) (a : ℕ) (xs : List Tree) : Type 0 where
  -- our best option in a pending part that is no cooler than the ambient
  pub answer : (x : Tree) (p : Part x xs) (o : Tree) → Open x → a ≤ temperature x → Best s x o a → floor s a xs (pending p) ≡ floor s a (put p o) theirs
  -- our best option in any part that is no cooler than the ambient, with nothing pending
  pub move : (x : Tree) (p : Part x xs) (o : Tree) → Open x → a ≤ temperature x → Best s x o a → floor s a xs idle ≤ℤ floor s a (put p o) theirs
  -- any move of theirs, which leaves its part pending
  pub reply : (x : Tree) (p : Part x xs) (o : Tree) → Part o (options x (other s)) → floor s a xs theirs ≤ℤ floor s a (put p o) (pending (placed p o))
  -- a part that is no hotter than the ambient need not be pending
  pub calm : (x : Tree) (p : Part x xs) → temperature x ≤ a → floor s a xs (pending p) ≡ floor s a xs idle
  -- the ambient may fall to any temperature that no part passes
  pub cool : (c : ℕ) → hottest xs ≤ c → floor s (min a c) xs idle ≡ floor s a xs idle
  -- when all is over it is no more than the score
  pub over : (t : Turn xs) → Over xs → floor s a xs t ≤ℤ (pos unit *ℤ total s xs)
  pub ended : Over xs → floor s a xs idle ≡ (pos unit *ℤ total s xs)

abbrev pub FloorNeverFalls : Type 0
FloorNeverFalls = (s : Side) (a : ℕ) (xs : List Tree) → All Fair xs → Kept s a xs

-- so a play by the rule ends no lower than the floor, whatever the other plays
abbrev pub FloorHolds : Type 0
FloorHolds = (s : Side) (a : ℕ) (xs : List Tree) (t : Turn xs) (v : ℤ) → All Fair xs → Run s a xs t v → floor s a xs t ≤ℤ (pos unit *ℤ v)

-- and the rule always has a move, so a play by it comes to an end
abbrev pub RuleTotal : Type 0
RuleTotal = (s : Side) (a : ℕ) (xs : List Tree) (t : Turn xs) → (v : ℤ) × Run s a xs t v

-- at any ambient, the side s can make sure of its floor
pub record Sure (s : Side) (a : ℕ) (xs : List Tree) : Type 0 where
  pub moving : (v : ℤ) → (pos unit *ℤ v) ≤ℤ floor s a xs idle → Ours s v xs
  pub waiting : (v : ℤ) → (pos unit *ℤ v) ≤ℤ floor s a xs theirs → Theirs s v xs

abbrev pub FloorIsSure : Type 0
FloorIsSure = (s : Side) (a : ℕ) (xs : List Tree) → All Fair xs → Sure s a xs

-- the rule itself is such a strategy
pub record Rules (s : Side) (a : ℕ) (xs : List Tree) (t : Turn xs) : Type 0 where
  -- it can be followed to the end, whatever they do
  pub follow : Sente s a xs t
  -- whoever follows it makes sure of the floor
  pub makes : All Fair xs → Sente s a xs t → (v : ℤ) → (pos unit *ℤ v) ≤ℤ floor s a xs t → Makes s v xs t

abbrev pub RuleKeeps : Type 0
RuleKeeps = (s : Side) (a : ℕ) (xs : List Tree) (t : Turn xs) → Rules s a xs t

-- with the greatest temperature for the ambient, the floor is the near end of the bracket:
-- it is not above the best score, and falls short of it by the greatest temperature at most
pub record Opened (s : Side) (xs : List Tree) : Type 0 where
  pub moving : floor s (hottest xs) xs idle ≡ own s (sum_of mean xs)
  pub waiting : floor s (hottest xs) xs theirs ≡ (own s (sum_of mean xs) -ℤ pos (hottest xs))
  pub moving_sure : floor s (hottest xs) xs idle ≤ℤ (pos unit *ℤ own s (best_score s xs))
  pub moving_loss : (pos unit *ℤ own s (best_score s xs)) ≤ℤ (floor s (hottest xs) xs idle +ℤ pos (hottest xs))
  pub waiting_sure : floor s (hottest xs) xs theirs ≤ℤ (pos unit *ℤ own s (best_score (other s) xs))
  pub waiting_loss : (pos unit *ℤ own s (best_score (other s) xs)) ≤ℤ (floor s (hottest xs) xs theirs +ℤ pos (hottest xs))

abbrev pub OpeningLoss : Type 0
OpeningLoss = (s : Side) (xs : List Tree) → All Fair xs → Opened s xs

-- ---- the mirror
pub record Mirrored (x : Tree) : Type 0 where
  pub stops : (s : Side) → stop (mirror x) s ≡ stop x (other s)
  pub walls : (s : Side) (t : ℕ) → wall (mirror x) s t ≡ wall x (other s) t
  pub heat : temperature (mirror x) ≡ temperature x
  pub middle : Fair x → mean (mirror x) ≡ neg_ℤ (mean x)

abbrev pub Mirror : Type 0
Mirror = (x : Tree) → Mirrored x

-- ---- the books' definitions, in the words of Left and Right, give the same figures
pub record Agrees (x : Tree) : Type 0 where
  pub stop_left : left_stop x ≡ stop x Left
  pub stop_right : right_stop x ≡ neg_ℤ (stop x Right)
  pub wall_left : (t : ℕ) → book_left x t ≡ left_wall x t
  pub wall_right : (t : ℕ) → book_right x t ≡ right_wall x t
  pub heat : book_temperature x ≡ temperature x
  pub middle : book_mean x ≡ mean x

abbrev pub TextbookAgrees : Type 0
TextbookAgrees = (x : Tree) → Fair x → Agrees x

pub record SumAgrees (xs : List Tree) : Type 0 where
  pub left : left_sum_stop (span xs) xs ≡ best_score Left xs
  pub right : right_sum_stop (span xs) xs ≡ best_score Right xs

abbrev pub TextbookSumsAgree : Type 0
TextbookSumsAgree = (xs : List Tree) → SumAgrees xs
