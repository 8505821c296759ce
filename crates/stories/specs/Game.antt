-- The rules of the game: its state, what each call does or why it is refused, and the answers to the three questions.
use Rattle.std.specs.Prelude.{◌≡◌, ℕ, zero, suc, ◌<◌, min, Bool, true, false, cond, ◌||◌, List, [], ◌∷◌, ℤ, pos, ◌+ℤ◌, ◌-ℤ◌, ◌*ℤ◌, neg_ℤ, ◌≤ℤ◌, ◌<ℤ◌, Some, None, Ok, Err, Option, Result, nat_lt, slice_set}
use Rattle.terms.specs.declared.side.Side.{Side}
use Rattle.terms.specs.declared.side.Side.TheVariants.{Left, Right}
use Rattle.terms.specs.declared.side.Mover.{Mover}
use Rattle.terms.specs.declared.side.Mover.TheVariants as mover
use Rattle.terms.specs.declared.fault.Refusal.{Refusal}
use Rattle.terms.specs.declared.fault.Refusal.TheVariants.{GameOver, NotOurTurn, NotTheirTurn, NoSuchPart, PartEnded, NoSuchOption}
use Rattle.terms.specs.Sides.{other}
use Rattle.theory.specs.Limits.{unit}
use Rattle.theory.specs.Trees.{Tree, ended, branch, options, at, Open}
use Rattle.theory.specs.Walls.{temperature, left_wall, right_wall}
use Rattle.theory.specs.Sums.{sum_of, total, hottest, low, high}
use Rattle.stories.specs.declared.turn.Turn.{Turn}
use Rattle.stories.specs.declared.turn.Turn.TheVariants.{Ours, Theirs, Over}
use Rattle.stories.specs.Calls.{Call, move, reply, ask}

-- ---- the state
-- the present trees of the parts, our side, the turn, the ambient, and the pending part if there is one
pub record Game : Type 0 where
  pub parts : List Tree
  pub side : Side
  pub turn : Turn
  pub ambient : ℕ
  pub pending : Option ℕ

abbrev pub is_open : Tree → Bool
is_open (ended v) = false
is_open (branch L R) = true

abbrev pub any_open : List Tree → Bool
any_open [] = false
any_open (x ∷ xs) = is_open x || any_open xs

-- the turn comes to t, or the game is over: exactly when no part is open
abbrev pub turn_to : Turn → List Tree → Turn
turn_to t xs = cond (any_open xs) t Over

-- over exactly when no part is open
pub record Settled (g : Game) : Type 0 where
  pub over : g.turn ≡ Over → any_open g.parts ≡ false
  pub shut : any_open g.parts ≡ false → g.turn ≡ Over

abbrev pub turn_of : Mover → Turn
turn_of mover.Ours = Ours
turn_of mover.Theirs = Theirs

-- the ambient is the greatest temperature of the open parts, or 0 without any
abbrev pub opening : List Tree → Side → Mover → Game
opening xs s m = record { parts = xs; side = s; turn = turn_to (turn_of m) xs; ambient = hottest xs; pending = None }

-- ---- moves and replies
abbrev pub or_else : {A E : Type 0} → E → Option A → Result A E
or_else r None = Err r
or_else r (Some o) = Ok o

-- the side's option k of a tree
abbrev pub choose : Side → Tree → ℕ → Result Tree Refusal
choose s (ended v) k = Err PartEnded
choose s (branch L R) k = or_else NoSuchOption (at (options (branch L R) s) k)

-- the same in the part p
abbrev pub find : Side → List Tree → ℕ → ℕ → Result Tree Refusal
find s xs p k = elim (at xs p) [ None ↦ Err NoSuchPart | Some x ↦ choose s x k ]

-- the option that our move takes, or why it is refused
abbrev pub our_pick : Game → ℕ → ℕ → Result Tree Refusal
our_pick g p k = elim g.turn [ Over ↦ Err GameOver | Theirs ↦ Err NotOurTurn | Ours ↦ find g.side g.parts p k ]

-- the option that their reply takes
abbrev pub their_pick : Game → ℕ → ℕ → Result Tree Refusal
their_pick g p k = elim g.turn [ Over ↦ Err GameOver | Ours ↦ Err NotTheirTurn | Theirs ↦ find (other g.side) g.parts p k ]

-- our move: the part p becomes o, nothing is pending, and the ambient stays
abbrev pub moved : Game → ℕ → Tree → Game
moved g p o =
    let xs : List Tree = slice_set g.parts p o in
    record { parts = xs; side = g.side; turn = turn_to Theirs xs; ambient = g.ambient; pending = None }

-- open, and hotter than a
abbrev pub hotter : ℕ → Tree → Bool
hotter a (ended v) = false
hotter a (branch L R) = nat_lt a (temperature (branch L R))

-- while play goes on, the ambient falls to the greatest temperature of the open parts
abbrev pub cooled : ℕ → List Tree → ℕ
cooled a xs = cond (any_open xs) (min a (hottest xs)) a

-- their reply: the part p becomes o, and is pending where it is hotter than the ambient; otherwise the ambient falls
abbrev pub replied : Game → ℕ → Tree → Game
replied g p o =
    let xs : List Tree = slice_set g.parts p o in
    cond (hotter g.ambient o)
    (record { parts = xs; side = g.side; turn = turn_to Ours xs; ambient = g.ambient; pending = Some p })
    (record { parts = xs; side = g.side; turn = turn_to Ours xs; ambient = cooled g.ambient xs; pending = None })

-- a refused call changes nothing, and neither does a question
abbrev pub unless_refused : Game → (Tree → Game) → Result Tree Refusal → Game
unless_refused g f (Err r) = g
unless_refused g f (Ok o) = f o

abbrev pub step : Game → Call → Game
step g (move p k) = unless_refused g (moved g p) (our_pick g p k)
step g (reply p k) = unless_refused g (replied g p) (their_pick g p k)
step g (ask q) = g

-- ---- advice
-- a tree's walls at a as the side sees them: near is what it has there if the other moves first, far if it moves first
abbrev pub near : Side → ℕ → Tree → ℤ
near Left a x = right_wall x a
near Right a x = neg_ℤ (left_wall x a)

abbrev pub far : Side → ℕ → Tree → ℤ
far Left a x = left_wall x a
far Right a x = neg_ℤ (right_wall x a)

-- of the items in the list that count, the one of number p has the greatest figure, and is the lowest number among equals
pub record First {A : Type 0} (Counts : A → Type 0) (figure : A → ℤ) (xs : List A) (p : ℕ) : Type 0 where
  pub item : A
  pub there : at xs p ≡ Some item
  pub counts : Counts item
  pub most : (q : ℕ) (y : A) → at xs q ≡ Some y → Counts y → figure y ≤ℤ figure item
  pub lowest : (q : ℕ) (y : A) → at xs q ≡ Some y → Counts y → q < p → figure y <ℤ figure item

abbrev pub heat : Tree → ℤ
heat x = pos (temperature x)

abbrev pub Any : Tree → Type 0
Any x = Unit {0}

-- the part to move in: the pending one, or else the open part of greatest temperature
abbrev pub Main : List Tree → Option ℕ → ℕ → Type 0
Main xs None p = First Open heat xs p
Main xs (Some q) p = p ≡ q

-- the advice is to take the option k in the part p: there k has the greatest near wall at the ambient
pub record Advises (g : Game) (p k : ℕ) : Type 0 where
  pub turn : g.turn ≡ Ours
  pub main : Main g.parts g.pending p
  pub tree : Tree
  pub there : at g.parts p ≡ Some tree
  pub option : First Any (near g.side g.ambient) (options tree g.side) k

-- why advice is refused
abbrev pub not_ours : Turn → Option Refusal
not_ours Ours = None
not_ours Theirs = Some NotOurTurn
not_ours Over = Some GameOver

-- what is answered when advice is asked for
abbrev pub AdviceIs : Game → Result (ℕ × ℕ) Refusal → Type 0
AdviceIs g (Ok a) = Advises g a.0 a.1
AdviceIs g (Err r) = not_ours g.turn ≡ Some r

-- ---- floor and bracket, in units
abbrev pub near_walls : Side → ℕ → List Tree → ℤ
near_walls s a xs = sum_of (near s a) xs

-- with the far wall of the part p in place of its near wall
abbrev pub near_walls_but : Side → ℕ → List Tree → ℕ → ℤ
near_walls_but s a [] p = pos 0
near_walls_but s a (x ∷ xs) zero = far s a x +ℤ near_walls s a xs
near_walls_but s a (x ∷ xs) (suc p) = near s a x +ℤ near_walls_but s a xs p

abbrev pub score_units : Side → List Tree → ℤ
score_units s xs = pos unit *ℤ total s xs

abbrev pub floor_here : Side → ℕ → List Tree → Option ℕ → ℤ
floor_here s a xs None = near_walls s a xs
floor_here s a xs (Some p) = near_walls_but s a xs p

-- for our side
abbrev pub floor_at : Side → List Tree → Turn → ℕ → Option ℕ → ℤ
floor_at s xs Ours a d = floor_here s a xs d
floor_at s xs Theirs a d = near_walls s a xs -ℤ pos a
floor_at s xs Over a d = score_units s xs

abbrev pub floor_of : Game → ℤ
floor_of g = floor_at g.side g.parts g.turn g.ambient g.pending

-- for Left, by the side to move
abbrev pub bracket_at : Side → List Tree → Turn → ℤ × ℤ
bracket_at s xs Ours = (low s xs, high s xs)
bracket_at s xs Theirs = (low (other s) xs, high (other s) xs)
bracket_at s xs Over = (score_units Left xs, score_units Left xs)

abbrev pub bracket_of : Game → ℤ × ℤ
bracket_of g = bracket_at g.side g.parts g.turn
