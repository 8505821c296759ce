-- Floor, bracket and advice by the figures of the parts, and what they are of the game.
use Rattle.std.specs.Prelude.{◌≡◌, ℕ, List, [], ◌∷◌, map, ℤ, pos, ◌+ℤ◌, ◌-ℤ◌, Some, None, Ok, Err, Option, Result}
use Rattle.terms.specs.declared.side.Side.{Side}
use Rattle.terms.specs.declared.side.Side.TheVariants.{Left, Right}
use Rattle.terms.specs.declared.fault.Refusal.{Refusal}
use Rattle.terms.specs.declared.fault.Refusal.TheVariants.{GameOver, NotOurTurn}
use Rattle.terms.specs.Sides.{other}
use Rattle.theory.specs.Trees.{Tree, at}
use Rattle.theory.specs.Walls.{mean}
use Rattle.stories.specs.declared.turn.Turn.{Turn}
use Rattle.stories.specs.declared.turn.Turn.TheVariants.{Ours, Theirs, Over}
use Rattle.stories.specs.Game.{Game, First, Any, near, far, floor_of, bracket_of, Main, Settled, not_ours}
use Rattle.play.specs.declared.record.Play.{Play}
use Rattle.play.specs.declared.leads.Lead.{Lead}
use Rattle.play.specs.Standing.{present, game_of, hottest_of}
use Rattle.play.specs.Leads.{HottestOf}

unfoldable pub sum_z : List ℤ → ℤ
sum_z [] = pos 0
sum_z (v ∷ vs) = v +ℤ sum_z vs

-- w is the sum of the near walls, v what a pending part adds
abbrev pub floor_by : Turn → ℤ → ℤ → ℕ → ℤ
floor_by Ours w v a = w +ℤ v
floor_by Theirs w v a = w -ℤ pos a
floor_by Over w v a = w

-- m is the sum of the means, h the greatest temperature
abbrev pub bracket_by : Side → ℤ → ℕ → ℤ × ℤ
bracket_by Left m h = (m, m +ℤ pos h)
bracket_by Right m h = (m -ℤ pos h, m)

abbrev pub bracket_to : Turn → Side → ℤ → ℕ → ℤ × ℤ
bracket_to Ours s m h = bracket_by s m h
bracket_to Theirs s m h = bracket_by (other s) m h
bracket_to Over s m h = (m, m)

-- what the far wall of the pending part has above its near wall
abbrev pub GainIs : Side → ℕ → List Tree → Option ℕ → ℤ → Type 0
GainIs s a xs None v = v ≡ pos 0
GainIs s a xs (Some p) v = (x : Tree) × (at xs p ≡ Some x) × (v ≡ (far s a x -ℤ near s a x))

abbrev pub FloorIs : Play → List ℤ → ℤ → ℤ → Type 0
FloorIs y nears gain r =
    (ts : List Tree) (s : Side) → Settled (game_of ts s y) → nears ≡ map (near s y.ambient) (present ts y.rows)
    → GainIs s y.ambient (present ts y.rows) y.pending gain → r ≡ floor_of (game_of ts s y)

abbrev pub BracketIs : Play → Side → List ℤ → Option ℕ → ℤ × ℤ → Type 0
BracketIs y s means h r =
    (ts : List Tree) → Settled (game_of ts s y) → means ≡ map mean (present ts y.rows) → h ≡ hottest_of (present ts y.rows) → r ≡ bracket_of (game_of ts s y)

abbrev pub part_by : Option ℕ → Option Lead → Result ℕ Refusal
part_by (Some p) h = Ok p
part_by None (Some b) = Ok b.part
part_by None None = Err GameOver

abbrev pub advised_by : Turn → Option ℕ → Option Lead → Result ℕ Refusal
advised_by Ours d h = part_by d h
advised_by Theirs d h = Err NotOurTurn
advised_by Over d h = Err GameOver

-- the part that advice names, or why it is refused
abbrev pub MainOf : Game → Result ℕ Refusal → Type 0
MainOf g (Ok p) = (g.turn ≡ Ours) × Main g.parts g.pending p
MainOf g (Err n) = not_ours g.turn ≡ Some n

abbrev pub PartIs : Play → Option Lead → Result ℕ Refusal → Type 0
PartIs y h r = (ts : List Tree) (s : Side) → Settled (game_of ts s y) → HottestOf (present ts y.rows) h → MainOf (game_of ts s y) r

abbrev pub BestOption : List ℤ → ℕ → Type 0
BestOption nears k = (xs : List Tree) (f : Tree → ℤ) → nears ≡ map f xs → First Any f xs k
