-- What is answered at the end of a story promises about the story's sum. Scores are in units; 'best play' is best play by both from there on.
use Rattle.std.specs.Prelude.{◌≡◌, ℕ, ◌≤◌, ℤ, pos, ◌+ℤ◌, ◌*ℤ◌, ◌≤ℤ◌, Ok, Err, Result}
use Rattle.terms.specs.declared.side.Mover.TheVariants.{Ours, Theirs}
use Rattle.terms.specs.declared.fault.Refusal.{Refusal}
use Rattle.terms.specs.Sides.{own}
use Rattle.theory.specs.Limits.{unit}
use Rattle.theory.specs.Trees.{Tree}
use Rattle.theory.specs.Sums.{Over, total, span, hottest}
use Rattle.stories.specs.declared.turn.Turn.TheVariants as turn
use Rattle.stories.specs.Calls.{Question, Call, move, reply, ask}
use Rattle.stories.specs.Game.{our_pick, their_pick, floor_of, bracket_of, Advises}
use Rattle.stories.specs.Stories.{Story, ◌then◌, our_side, sum_after, Allowed, Refused, move_count, first_trees, best_play, game_after}

-- ---- what is answered at the end of a story
abbrev pub floor_answered : Story → ℤ
floor_answered t = floor_of (game_after t)

abbrev pub bracket_answered : Story → ℤ × ℤ
bracket_answered t = bracket_of (game_after t)

abbrev pub Advised : Story → ℕ → ℕ → Type 0
Advised t p k = Advises (game_after t) p k

-- ---- of the story's sum
abbrev pub IsEnded : Story → Type 0
IsEnded t = Over (sum_after t).trees

-- our score once it is ended
abbrev pub our_score : Story → ℤ
our_score t = pos unit *ℤ total (our_side t) (sum_after t).trees

-- the score under best play, for Left and for us
abbrev pub best_for_left : Story → ℤ
best_for_left t = pos unit *ℤ best_play (our_side t) (sum_after t)

abbrev pub best_for_us : Story → ℤ
best_for_us t = pos unit *ℤ own (our_side t) (best_play (our_side t) (sum_after t))

abbrev pub greatest_temperature : Story → ℤ
greatest_temperature t = pos (hottest (sum_after t).trees)

-- ---- we as advised, they as they like
-- the story goes on from s to t, and each move of ours on the way is the advised one, or is refused
pub data AsAdvised (s : Story) : Story → Type 0 where
  so_far : AsAdvised s s
  asked : {t : Story} (q : Question) → AsAdvised s t → AsAdvised s (t then ask q)
  advised : {t : Story} (p k : ℕ) → AsAdvised s t → Advised t p k → AsAdvised s (t then move p k)
  refused : {t : Story} (p k : ℕ) → AsAdvised s t → Refused t (move p k) → AsAdvised s (t then move p k)
  replied : {t : Story} (p k : ℕ) → AsAdvised s t → AsAdvised s (t then reply p k)

-- from the end of t the sum comes to its end so, whatever they do
pub data ComesToEnd : Story → Type 0 where
  ended : {t : Story} → IsEnded t → ComesToEnd t
  ours : {t : Story} (p k : ℕ) → Advised t p k → Allowed t (move p k) → ComesToEnd (t then move p k) → ComesToEnd t
  theirs : {t : Story} → (sum_after t).mover ≡ Theirs → ((p k : ℕ) → Allowed t (reply p k) → ComesToEnd (t then reply p k)) → ComesToEnd t

-- ---- the promises
-- a call is taken exactly where it is a move in the sum; r is the option that the game takes, or why it refuses
pub record Agrees (s : Story) (c : Call) (r : Result Tree Refusal) : Type 0 where
  pub taken : Allowed s c → (o : Tree) × (r ≡ Ok o)
  pub refused : Refused s c → (n : Refusal) × (r ≡ Err n)

-- the play at the end of t can go on, and not for ever
pub record GoesOn (t : Story) : Type 0 where
  -- at our turn one move is advised, and it is accepted
  pub ours : (sum_after t).mover ≡ Ours → (IsEnded t → ⊥) → (p : ℕ) × (k : ℕ) × Advised t p k
  pub only : (p k q j : ℕ) → Advised t p k → Advised t q j → (p ≡ q) × (k ≡ j)
  pub allowed : (p k : ℕ) → Advised t p k → Allowed t (move p k)
  pub accepted : (p k : ℕ) → Advised t p k → (o : Tree) × (our_pick (game_after t) p k ≡ Ok o)
  -- at their turn they have a move
  pub theirs : (sum_after t).mover ≡ Theirs → (IsEnded t → ⊥) → (p : ℕ) × (k : ℕ) × Allowed t (reply p k)
  -- so it comes to an end, and no more moves are made than the trees are high together
  pub end : ComesToEnd t
  pub few : move_count t ≤ span (first_trees t)

-- v, answered as the floor at the end of s
pub record SureFloor (s : Story) (v : ℤ) : Type 0 where
  -- while we move as advised the floor never falls and the play goes on, and once the sum is ended we have v or more
  pub never_falls : (t : Story) → AsAdvised s t → v ≤ℤ floor_answered t
  pub goes_on : (t : Story) → AsAdvised s t → GoesOn t
  pub kept : (t : Story) → AsAdvised s t → IsEnded t → v ≤ℤ our_score t
  -- v is no more than best play gives us, and before the first move it falls short of that by the greatest temperature at most
  pub sound : v ≤ℤ best_for_us s
  pub close : move_count s ≡ 0 → best_for_us s ≤ℤ (v +ℤ greatest_temperature s)

-- b, answered as the bracket at the end of s: best play lies from its low to its high
pub record SureBracket (s : Story) (b : ℤ × ℤ) : Type 0 where
  pub low : b.0 ≤ℤ best_for_left s
  pub high : best_for_left s ≤ℤ b.1

pub record Promised (s : Story) : Type 0 where
  -- the parts of the game are the trees of the sum, and it is over exactly when that has ended
  pub parts : (game_after s).parts ≡ (sum_after s).trees
  pub over : (game_after s).turn ≡ turn.Over → IsEnded s
  pub ended : IsEnded s → (game_after s).turn ≡ turn.Over
  -- no call makes the ambient rise
  pub ambient : (c : Call) → (game_after (s then c)).ambient ≤ (game_after s).ambient
  pub floor : SureFloor s (floor_answered s)
  pub bracket : SureBracket s (bracket_answered s)
  pub moves : (p k : ℕ) → Agrees s (move p k) (our_pick (game_after s) p k)
  pub replies : (p k : ℕ) → Agrees s (reply p k) (their_pick (game_after s) p k)

abbrev pub Promise : Type 0
Promise = (s : Story) → Promised s
