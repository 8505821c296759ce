-- The record of a play in a bank that holds the trees ts is a game; what the figures that it is handed are of those trees.
use Rattle.std.specs.Prelude.{◌≡◌, ℕ, ◌≤◌, cond, List, [], ◌∷◌, length, Some, None, Ok, Err, Option, Result, slice_set}
use Rattle.terms.specs.declared.side.Side.{Side}
use Rattle.terms.specs.declared.side.Mover.{Mover}
use Rattle.terms.specs.declared.fault.Refusal.{Refusal}
use Rattle.terms.specs.Sides.{other}
use Rattle.theory.specs.Trees.{Tree, ended, branch, at}
use Rattle.theory.specs.Walls.{temperature}
use Rattle.theory.specs.Sums.{hottest}
use Rattle.spreading.specs.Order.{row}
use Rattle.encoding.specs.Columns.{part_limit}
use Rattle.stories.specs.Calls.{move, reply}
use Rattle.stories.specs.Game.{Game, any_open, opening, find, our_pick, their_pick, step}
use Rattle.play.specs.declared.record.Play.{Play}
use Rattle.play.specs.declared.record.Landing.{Landing}
use Rattle.play.specs.Record.{done}

-- the present trees: that of each part at its present row
abbrev pub present : List Tree → List ℕ → List Tree
present [] rows = []
present (t ∷ ts) [] = []
present (t ∷ ts) (r ∷ rows) = row t r ∷ present ts rows

abbrev pub game_of : List Tree → Side → Play → Game
game_of ts s y = record { parts = present ts y.rows; side = s; turn = y.turn; ambient = y.ambient; pending = y.pending }

-- the temperature of an open tree
abbrev pub heat_of : Tree → Option ℕ
heat_of (ended v) = None
heat_of (branch L R) = Some (temperature (branch L R))

-- the greatest of the open trees
abbrev pub hottest_of : List Tree → Option ℕ
hottest_of xs = cond (any_open xs) (Some (hottest xs)) None

-- the landing l is that of the side's option k in the part p
pub record Lands (ts : List Tree) (s : Side) (rows : List ℕ) (p k : ℕ) (l : Landing) : Type 0 where
  pub tree : Tree
  pub held : at ts p ≡ Some tree
  pub part : l.part ≡ p
  pub found : find s (present ts rows) p k ≡ Ok (row tree l.row)
  pub heat : l.heat ≡ heat_of (row tree l.row)
  pub hottest : l.hottest ≡ hottest_of (slice_set (present ts rows) p (row tree l.row))

abbrev pub Leads : List Tree → Side → List ℕ → ℕ → ℕ → Result Landing Refusal → Type 0
Leads ts s rows p k (Ok l) = Lands ts s rows p k l
Leads ts s rows p k (Err n) = find s (present ts rows) p k ≡ Err n

-- ---- what the calls do: the record goes as the game does
abbrev pub Opens : Mover → Option ℕ → Play → Type 0
Opens first h y = (ts : List Tree) (s : Side) → length ts ≤ part_limit → h ≡ hottest_of ts → game_of ts s y ≡ opening ts s first

abbrev pub OurMove : Play → Result Landing Refusal → Play → Result (Unit {0}) Refusal → Type 0
OurMove y l z r =
    (ts : List Tree) (s : Side) (p k : ℕ) → Leads ts s y.rows p k l
    → (game_of ts s z ≡ step (game_of ts s y) (move p k)) × (r ≡ done (our_pick (game_of ts s y) p k))

abbrev pub TheirReply : Play → Result Landing Refusal → Play → Result (Unit {0}) Refusal → Type 0
TheirReply y l z r =
    (ts : List Tree) (s : Side) (p k : ℕ) → Leads ts (other s) y.rows p k l
    → (game_of ts s z ≡ step (game_of ts s y) (reply p k)) × (r ≡ done (their_pick (game_of ts s y) p k))
