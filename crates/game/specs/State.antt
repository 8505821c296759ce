-- The game that a game on a bank stands for, and the stories behind it.
use Rattle.std.specs.Prelude.{◌≡◌, ℕ, ℤ, pos, Some, None, Ok, Err, Option, Result}
use Rattle.terms.specs.declared.fault.Refusal.{Refusal}
use Rattle.theory.specs.Trees.{Tree, at}
use Rattle.theory.specs.Walls.{mean as mean_of}
use Rattle.stories.specs.Calls.{Call}
use Rattle.stories.specs.Game as rules
use Rattle.stories.specs.Stories.{Story, ◌then◌}
use Rattle.bank.specs.Contents.{trees}
use Rattle.play.specs.Answers.{GainIs}
use Rattle.play.specs.Standing.{game_of, heat_of}
use Rattle.play.specs.Behind.{Behind}
use Rattle.game.specs.Presents.{gain_in}
use Rattle.game.specs.declared.game.Game.{Game}
use Rattle.game.specs.declared.present.Present.{Present}
use Rattle.game.specs.declared.view.View.{View}

-- by the rules of stories: the parts are the trees at the present rows
abbrev pub state : Game → rules.Game
state g = game_of (trees g.bank.now) g.side g.play

-- the story st filled the bank and led to the game
abbrev pub Stands : Story → Game → Type 0
Stands st g = Behind st (trees g.bank.now) g.side g.play

-- the mean of a part, or 0 where there is none
abbrev pub mean_in : Option Tree → ℤ
mean_in None = pos 0
mean_in (Some x) = mean_of x

-- its temperature; none where it has ended, or there is no such part
abbrev pub tree_heat : Option Tree → Option ℕ
tree_heat None = None
tree_heat (Some x) = heat_of x

-- the story goes on by a call
abbrev pub after_call : Story → Call → Story
after_call st c = st then c

-- what was refused has changed nothing
abbrev pub Kept : Game → Game → Result (Unit {0}) Refusal → Type 0
Kept g h (Ok u) = Unit {0}
Kept g h (Err n) = h ≡ g

-- what the far wall of the part p has above its near wall, at the ambient; 0 where there is no such part
abbrev pub gain_of : rules.Game → ℕ → ℤ
gain_of g p = gain_in g.side g.ambient (at g.parts p)

-- v is what the far wall of the pending part has above its near wall, at the ambient; 0 without any
abbrev pub PendingGains : rules.Game → ℤ → Type 0
PendingGains g v = GainIs g.side g.ambient g.parts g.pending v

-- the parts as they stand
abbrev pub parts_now : Game → Present
parts_now g = record { bank = g.bank; rows = g.play.rows; enough = g.enough; on_rows = g.on_rows }

-- how our side sees positions
abbrev pub view_now : Game → View
view_now g = record { side = g.side; t = g.play.ambient }
