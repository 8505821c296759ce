-- What the sheet of a game says.
use Rattle.std.specs.Prelude.{◌≡◌, ℕ, ◌≤◌, map, length, take, Some, None, Option}
use Rattle.terms.specs.declared.fault.Refusal.{Refusal}
use Rattle.theory.specs.Trees.{Tree}
use Rattle.theory.specs.Walls.{mean}
use Rattle.stories.specs.Game.{Game, Advises, not_ours, floor_of, bracket_of}
use Rattle.stories.specs.Stories.{Story, game_after}
use Rattle.play.specs.Standing.{heat_of}
use Rattle.sheet.specs.declared.values.PartLines.{PartLines}
use Rattle.sheet.specs.declared.values.Sheet.{Sheet}
use Rattle.sheet.specs.Page.{page_size}
use Rattle.sheet.specs.Sheet.{sheet_text}
use Rattle.sheet.specs.Fitting.{Fitting}

-- of a part: its present mean, and its temperature where it is open
abbrev pub part_lines : Tree → PartLines
part_lines x = record { mean = mean x; heat = heat_of x }

-- the advice, or none away from our turn
abbrev pub SaysAdvice : Game → Option (ℕ × ℕ) → Type 0
SaysAdvice g None = (n : Refusal) × (not_ours g.turn ≡ Some n)
SaysAdvice g (Some (part, option)) = Advises g part option

pub record Sheets (g : Game) (s : Sheet) : Type 0 where
  pub side : s.side ≡ g.side
  pub turn : s.turn ≡ g.turn
  pub count : s.count ≡ length g.parts
  pub parts : take s.count s.parts ≡ map part_lines g.parts
  pub ambient : s.ambient ≡ g.ambient
  pub floor : s.floor ≡ floor_of g
  pub bracket : (s.low, s.high) ≡ bracket_of g
  pub advice : SaysAdvice g s.advice

-- ---- laws: at the end of every story
-- the sheet of the game fits a page
abbrev pub SheetsFit : Type 0
SheetsFit = (st : Story) (s : Sheet) → Sheets (game_after st) s → Fitting s × (length (sheet_text s) ≤ page_size)

-- there is one, and only one text
pub record SoleSheet (st : Story) : Type 0 where
  pub some : (s : Sheet) × Sheets (game_after st) s
  pub one : (s u : Sheet) → Sheets (game_after st) s → Sheets (game_after st) u → sheet_text s ≡ sheet_text u

abbrev pub OneSheet : Type 0
OneSheet = (st : Story) → SoleSheet st
