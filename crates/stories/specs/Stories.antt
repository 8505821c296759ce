-- A story: what was seated, how the game was opened, and the calls since. Its sum is told from these alone, apart from the game.
use Rattle.std.specs.Prelude.{◌≡◌, ℕ, zero, suc, ◌+◌, List, [], ◌∷◌, ℤ, Some, None, Option}
use Rattle.terms.specs.declared.side.Side.{Side}
use Rattle.terms.specs.declared.side.Mover.{Mover}
use Rattle.terms.specs.declared.side.Mover.TheVariants.{Ours, Theirs}
use Rattle.terms.specs.Sides.{other}
use Rattle.theory.specs.Trees.{Tree, options, at}
use Rattle.theory.specs.Sums.{best_score}
use Rattle.rules.specs.Meaning.{LawfulIn}
use Rattle.stories.specs.Seatings.{seated}
use Rattle.stories.specs.Calls.{Call, move, reply, ask}
use Rattle.stories.specs.Game.{Game, opening, step}

-- the trees that the codes stand for are lawful, as in every rule set
abbrev pub Meant : List (Option Tree) → Type 0
Meant [] = Unit {0}
Meant (m ∷ ms) = LawfulIn m × Meant ms

infixl 20 ◌then◌
pub data Story : Type 0 where
  -- what the code of each seating means, in an empty bank; our side; who moves first
  opens : (meanings : List (Option Tree)) → Meant meanings → Side → Mover → Story
  ◌then◌ : Story → Call → Story

abbrev pub our_side : Story → Side
our_side (opens ms l s m) = s
our_side (t then c) = our_side t

-- ---- the story's sum
pub record Sum : Type 0 where
  pub trees : List Tree
  pub mover : Mover

abbrev pub map_o : {A B : Type 0} → (A → B) → Option A → Option B
map_o f None = None
map_o f (Some x) = Some (f x)

-- the trees after the side's move in the tree p by its option k, where it has that option
abbrev pub by_move : Side → List Tree → ℕ → ℕ → Option (List Tree)
by_move s [] p k = None
by_move s (x ∷ xs) zero k = map_o (λ o. o ∷ xs) (at (options x s) k)
by_move s (x ∷ xs) (suc p) k = map_o (λ ys. x ∷ ys) (by_move s xs p k)

abbrev pub hand_to : Mover → Option (List Tree) → Option Sum
hand_to m = map_o (λ xs. record { trees = xs; mover = m })

-- what the sum becomes by a call that is a move of the side whose turn it is
abbrev pub played : Side → Sum → Call → Option Sum
played s z (move p k) = elim z.mover [ Ours ↦ hand_to Theirs (by_move s z.trees p k) | Theirs ↦ None ]
played s z (reply p k) = elim z.mover [ Ours ↦ None | Theirs ↦ hand_to Ours (by_move (other s) z.trees p k) ]
played s z (ask q) = None

abbrev pub or_same : Sum → Option Sum → Sum
or_same z None = z
or_same z (Some y) = y

abbrev pub sum_after : Story → Sum
sum_after (opens ms l s m) = record { trees = seated [] ms; mover = m }
sum_after (t then c) = or_same (sum_after t) (played (our_side t) (sum_after t) c)

-- the call is a move in the story's sum; or it is none
abbrev pub Allowed : Story → Call → Type 0
Allowed t c = (z : Sum) × (played (our_side t) (sum_after t) c ≡ Some z)

abbrev pub Refused : Story → Call → Type 0
Refused t c = played (our_side t) (sum_after t) c ≡ None

-- how many calls of the story were moves in its sum
abbrev pub count_if : Option Sum → ℕ
count_if None = 0
count_if (Some z) = 1

abbrev pub move_count : Story → ℕ
move_count (opens ms l s m) = 0
move_count (t then c) = move_count t + count_if (played (our_side t) (sum_after t) c)

abbrev pub first_trees : Story → List Tree
first_trees (opens ms l s m) = seated [] ms
first_trees (t then c) = first_trees t

-- the score under best play by both, for Left, in points
abbrev pub side_of : Side → Mover → Side
side_of s Ours = s
side_of s Theirs = other s

abbrev pub best_play : Side → Sum → ℤ
best_play s z = best_score (side_of s z.mover) z.trees

-- ---- the game's own account of the story
abbrev pub game_after : Story → Game
game_after (opens ms l s m) = opening (seated [] ms) s m
game_after (t then c) = step (game_after t) c
