-- The story of a job: its parts are seated in an empty bank, the game is opened, and each move is made by whoever is to move.
use Rattle.std.specs.Prelude.{◌≡◌, List, [], map, None, Option}
use Rattle.terms.specs.declared.side.Mover.{Mover}
use Rattle.terms.specs.declared.side.Mover.TheVariants.{Ours, Theirs}
use Rattle.theory.specs.Trees.{Tree}
use Rattle.stories.specs.Seatings.{cause, seat, seated}
use Rattle.stories.specs.Calls.{Call, move, reply}
use Rattle.stories.specs.Stories.{Meant, Story, opens, ◌then◌, sum_after, Allowed, game_after}
use Rattle.lines.specs.Reading.{Along, led}
use Rattle.job.specs.declared.moves.Move.{Move}
use Rattle.job.specs.Grammar.{Part, Job}
use Rattle.meanings.specs.Meaning.{meaning}
use Rattle.runner.specs.Runs.{Outcome}

-- what its parts mean
abbrev pub meanings : Job → List (Option Tree)
meanings j = map meaning j.parts

abbrev pub call_by : Mover → Move → Call
call_by Ours m = move m.part m.option
call_by Theirs m = reply m.part m.option

-- the move as a call of the side that is to move in the story's sum
abbrev pub call_in : Story → Move → Call
call_in st m = call_by (sum_after st).mover m

-- the story once it is made
abbrev pub tell : Story → Move → Story
tell st m = st then call_in st m

-- it is a move there
abbrev pub Moves : Story → Move → Type 0
Moves st m = Allowed st (call_in st m)

-- the trees held once a part is seated; nothing speaks against it
abbrev pub place : List Tree → Part → List Tree
place held p = seat held (meaning p)

abbrev pub Fits : List Tree → Part → Type 0
Fits held p = cause held (meaning p) ≡ None

abbrev pub opened : (j : Job) → Meant (meanings j) → Story
opened j l = opens (meanings j) l j.side j.first

abbrev pub story_of : (j : Job) → Meant (meanings j) → Story
story_of j l = led tell (opened j l) j.moves

-- each part fits beside those before it, and each move is one where those before it have led
pub record Legal (j : Job) (l : Meant (meanings j)) : Type 0 where
  pub parts : Along Fits place [] j.parts
  pub moves : Along Moves tell (opened j l) j.moves

-- the bank and the game that it leads to
abbrev pub outcome : (j : Job) → Meant (meanings j) → Outcome
outcome j l = record { trees = seated [] (meanings j); game = game_after (story_of j l) }
