-- What the run of a job writes and leaves.
use Rattle.std.specs.Prelude.{◌≡◌, ℕ, List, [], Some, Ok, Err, Result, Option}
use Rattle.terms.specs.declared.fault.Fault.{Fault}
use Rattle.theory.specs.Trees.{Tree}
use Rattle.stories.specs.Game.{Game}
use Rattle.stories.specs.Stories.{Meant, Story, game_after}
use Rattle.stories.specs.Promise.{Advised, SureFloor, SureBracket, Promised}
use Rattle.game.specs.State.{mean_in, tree_heat}
use Rattle.sheet.specs.declared.values.PartLines.{PartLines}
use Rattle.sheet.specs.declared.values.Sheet.{Sheet}
use Rattle.sheet.specs.Sheet.{sheet_text, answer, written_over}
use Rattle.sheet.specs.Sheets.{Sheets}
use Rattle.lines.specs.declared.reader.Reader.{Reader}
use Rattle.lines.specs.Reading.{State}
use Rattle.lines.specs.Seen.{seen}
use Rattle.job.specs.Grammar.{Job}
use Rattle.job.specs.Law.{Says}
use Rattle.runner.specs.Runs.{Outcome}
use Rattle.runner.specs.Stories.{meanings, story_of, Legal}

-- what a sheet says of a part, if there is one
abbrev pub lines_in : Option Tree → PartLines
lines_in o = record { mean = mean_in o; heat = tree_heat o }

-- ---- by the run of the job
-- the sheet of its game is written over the output, where it fits
pub record Printed (x : Outcome) (old : List ℕ) (r : Result ℕ Fault) (new : List ℕ) : Type 0 where
  pub sheet : Sheet
  pub shows : Sheets x.game sheet
  pub answers : r ≡ answer (sheet_text sheet) old
  pub output : new ≡ written_over (sheet_text sheet) old

-- or its fault is answered, and the output stays as it was
pub record Faulted (e : Fault) (old : List ℕ) (r : Result ℕ Fault) (new : List ℕ) : Type 0 where
  pub answers : r ≡ Err e
  pub output : new ≡ old

-- the answer and the output after a run
abbrev pub Ran : Result Outcome Fault → List ℕ → Result ℕ Fault → List ℕ → Type 0
Ran (Ok x) old r new = Printed x old r new
Ran (Err e) old r new = Faulted e old r new

-- the trees that the bank holds then: none where the job is refused
abbrev pub trees_of : Result Outcome Fault → List Tree
trees_of (Ok x) = x.trees
trees_of (Err e) = []

abbrev pub trees_after : Result ℕ Fault → Result Outcome Fault → List Tree
trees_after (Ok n) q = trees_of q
trees_after (Err e) q = []

-- ---- in the words of jobs and stories
-- a sheet at the end of a story, and what its figures promise
pub record Promises (st : Story) (s : Sheet) : Type 0 where
  pub shows : Sheets (game_after st) s
  pub promised : Promised st
  pub floor : SureFloor st s.floor
  pub bracket : SureBracket st (s.low, s.high)
  pub advice : (p k : ℕ) → s.advice ≡ Some (p, k) → Advised st p k

-- the bytes are the text of a legal job, and the page is the sheet of its story
pub record Page (lent room : ℕ) (bytes page : List ℕ) : Type 0 where
  pub job : Job
  pub says : Says lent room bytes job
  pub meant : Meant (meanings job)
  pub legal : Legal job meant
  pub sheet : Sheet
  pub text : page ≡ sheet_text sheet
  pub promises : Promises (story_of job meant) sheet

-- ---- on the way
-- the sheet of the game that some lines lead to, or their fault
abbrev pub Sheeted : Result Sheet Fault → Reader → Result (Game × State) Fault → Type 0
Sheeted (Ok s) t r = (g : Game) × (r ≡ Ok (g, seen t)) × Sheets g s
Sheeted (Err e) t r = r ≡ Err e

-- with the trees that are held then
abbrev pub Lined : Result Sheet Fault → Reader → List Tree → Result (Outcome × State) Fault → Type 0
Lined (Ok s) t held r = (x : Outcome) × (r ≡ Ok (x, seen t)) × Sheets x.game s × (held ≡ x.trees)
Lined (Err e) t held r = r ≡ Err e

abbrev pub Ended : Result Sheet Fault → List Tree → Result Outcome Fault → Type 0
Ended (Ok s) held r = (x : Outcome) × (r ≡ Ok x) × Sheets x.game s × (held ≡ x.trees)
Ended (Err e) held r = r ≡ Err e

-- with a sheet written the bank holds the job's trees
abbrev pub HoldsThen : Result ℕ Fault → List Tree → Result Outcome Fault → Type 0
HoldsThen (Ok n) held r = held ≡ trees_of r
HoldsThen (Err e) held r = Unit {0}
