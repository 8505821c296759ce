-- Which stories a play has behind it, and what its answers then promise.
use Rattle.std.specs.Prelude.{◌≡◌, ℕ, List, [], map, ℤ, Some, Ok, Err, Option, Result}
use Rattle.terms.specs.declared.side.Side.{Side}
use Rattle.terms.specs.declared.side.Mover.{Mover}
use Rattle.terms.specs.declared.fault.Refusal.{Refusal}
use Rattle.terms.specs.Sides.{other}
use Rattle.theory.specs.Trees.{Tree, at, options}
use Rattle.theory.specs.Walls.{mean}
use Rattle.stories.specs.Seatings.{seated}
use Rattle.stories.specs.Calls.{Question, move, reply, ask}
use Rattle.stories.specs.Game.{near, our_pick, their_pick, AdviceIs}
use Rattle.stories.specs.Stories.{Meant, Story, opens, ◌then◌, our_side, first_trees, game_after}
use Rattle.stories.specs.Promise.{Advised, SureFloor, SureBracket}
use Rattle.play.specs.declared.record.Play.{Play}
use Rattle.play.specs.declared.record.Landing.{Landing}
use Rattle.play.specs.declared.leads.Lead.{Lead}
use Rattle.play.specs.Record.{done}
use Rattle.play.specs.Standing.{present, game_of, hottest_of, Leads, Opens, OurMove, TheirReply}
use Rattle.play.specs.Leads.{HottestOf}
use Rattle.play.specs.Answers.{GainIs, FloorIs, BracketIs, PartIs, BestOption}

-- the story st filled the bank with the trees ts, and led our side's game on it to the play y
pub record Behind (st : Story) (ts : List Tree) (s : Side) (y : Play) : Type 0 where
  pub side : our_side st ≡ s
  pub held : first_trees st ≡ ts
  pub game : game_after st ≡ game_of ts s y

-- at an opening
abbrev pub OpeningTold : Type 0
OpeningTold =
    (ms : List (Option Tree)) (l : Meant ms) (s : Side) (first : Mover) (h : Option ℕ) (y : Play) → Opens first h y
    → h ≡ hottest_of (seated [] ms) → Behind (opens ms l s first) (seated [] ms) s y

-- with the story st behind the play y: what a call does, and what its answer promises
pub record Told (st : Story) (ts : List Tree) (s : Side) (y : Play) : Type 0 where
  pub moved : (l : Result Landing Refusal) (z : Play) (r : Result (Unit {0}) Refusal) (p k : ℕ) → OurMove y l z r → Leads ts s y.rows p k l
      → Behind (st then move p k) ts s z × (r ≡ done (our_pick (game_after st) p k))
  pub replied : (l : Result Landing Refusal) (z : Play) (r : Result (Unit {0}) Refusal) (p k : ℕ) → TheirReply y l z r → Leads ts (other s) y.rows p k l
      → Behind (st then reply p k) ts s z × (r ≡ done (their_pick (game_after st) p k))
  pub asked : (q : Question) → Behind (st then ask q) ts s y
  pub floor : (nears : List ℤ) (gain v : ℤ) → FloorIs y nears gain v → nears ≡ map (near s y.ambient) (present ts y.rows)
      → GainIs s y.ambient (present ts y.rows) y.pending gain → SureFloor st v
  pub bracket : (means : List ℤ) (h : Option ℕ) (b : ℤ × ℤ) → BracketIs y s means h b → means ≡ map mean (present ts y.rows)
      → h ≡ hottest_of (present ts y.rows) → SureBracket st b
  -- advice is the part, and there the option
  pub refused : (h : Option Lead) (n : Refusal) → PartIs y h (Err n) → HottestOf (present ts y.rows) h → AdviceIs (game_after st) (Err n)
  pub advised : (h : Option Lead) (p k : ℕ) (x : Tree) (nears : List ℤ) → PartIs y h (Ok p) → HottestOf (present ts y.rows) h
      → at (present ts y.rows) p ≡ Some x → nears ≡ map (near s y.ambient) (options x s) → BestOption nears k → Advised st p k

abbrev pub PlayTold : Type 0
PlayTold = (st : Story) (ts : List Tree) (s : Side) (y : Play) → Behind st ts s y → Told st ts s y
