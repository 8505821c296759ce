-- The run of a job, line by line: each part is seated and each move is made as soon as it is read.
use Rattle.std.specs.Prelude.{ℕ, zero, suc, ◌-◌, List, [], ◌∷◌, Some, None, Ok, Err, Option, Result}
use Rattle.terms.specs.declared.fault.Fault.{Fault}
use Rattle.terms.specs.declared.fault.Refusal.{Refusal}
use Rattle.terms.specs.declared.fault.Refusal.TheVariants.{BytesAfterJob, GameOver}
use Rattle.terms.specs.Refusals.{fault}
use Rattle.theory.specs.Trees.{Tree}
use Rattle.stories.specs.declared.turn.Turn.TheVariants.{Ours, Theirs, Over}
use Rattle.stories.specs.Seatings.{cause, seat}
use Rattle.stories.specs.Calls.{move, reply}
use Rattle.stories.specs.Game.{Game, opening, our_pick, their_pick, step}
use Rattle.numbers.specs.Numbers.{upto}
use Rattle.lines.specs.declared.key.Key.TheVariants as key
use Rattle.lines.specs.Reading.{State, at, Reading, then, on_line, done, ◌>>=◌, fits}
use Rattle.lines.specs.Lines.{entry, form}
use Rattle.job.specs.declared.kind.Kind.{Kind}
use Rattle.job.specs.declared.moves.Move.{Move}
use Rattle.job.specs.Grammar.{part_limit, move_limit}
use Rattle.job.specs.Reads.{side_line, first_line, body_lines, part_lines, move_line}
use Rattle.meanings.specs.Meaning.{meaning}

-- what is answered once some lines were read: a refusal carries the last of them
abbrev pub there : {A : Type 0} → Result A Refusal → Reading A
there r s = then (on_line r (s.line - 1)) (λ a. Ok (a, s))

-- what a call leaves, unless it is refused
abbrev pub leaving : {X A E : Type 0} → Result X E → A → Result A E
leaving (Ok x) a = Ok a
leaving (Err r) a = Err r

-- so many steps, each from where the one before it has led
abbrev pub chain : {A : Type 0} → (A → Reading A) → ℕ → A → Reading A
chain step zero a = done a
chain step (suc n) a = do
  b ← step a
  chain step n b

-- ---- the parts
-- the trees held once a code with this meaning is seated, or why it is refused
abbrev pub seating : List Tree → Option Tree → Result (List Tree) Refusal
seating held m = elim (cause held m) [ None ↦ Ok (seat held m) | Some r ↦ Err r ]

-- the lines of a part after its line rules=
unfoldable pub seat_body : ℕ → ℕ → List Tree → Kind → Reading (List Tree)
seat_body lent room held k = do
  p ← body_lines lent room k
  there (seating held (meaning p))

unfoldable pub seat_part : ℕ → ℕ → List Tree → Reading (List Tree)
seat_part lent room held = do
  p ← part_lines lent room
  there (seating held (meaning p))

abbrev pub part_count : Reading ℕ
part_count = entry key.Parts (form (upto part_limit))

unfoldable pub seat_parts : ℕ → ℕ → Reading (List Tree)
seat_parts lent room = do
  n ← part_count
  chain (seat_part lent room) n []

-- ---- the moves
-- a move by whoever is to move
abbrev pub making : Game → Move → Result Game Refusal
making g m = elim g.turn [
  | Ours ↦ leaving (our_pick g m.part m.option) (step g (move m.part m.option))
  | Theirs ↦ leaving (their_pick g m.part m.option) (step g (reply m.part m.option))
  | Over ↦ Err GameOver
]

unfoldable pub play_move : Game → Reading Game
play_move g = do
  m ← move_line
  there (making g m)

abbrev pub moves_line : Reading ℕ
moves_line = entry key.Moves (form (upto move_limit))

unfoldable pub play_moves : Game → Reading Game
play_moves g = do
  n ← moves_line
  chain play_move n g

-- ---- the whole job
-- the trees that the bank holds then, and the game on them
pub record Outcome : Type 0 where
  pub trees : List Tree
  pub game : Game

unfoldable pub run_lines : ℕ → ℕ → Reading Outcome
run_lines lent room = do
  side ← side_line
  first ← first_line
  trees ← seat_parts lent room
  game ← play_moves (opening trees side first)
  done (record { trees = trees; game = game })

-- bytes after the last line are refused
abbrev pub finished : Outcome × State → Result Outcome Fault
finished (x, s) = elim s.rest [ [] ↦ Ok x | b ∷ bs ↦ Err (fault BytesAfterJob (s.line - 1)) ]

unfoldable pub run_job : ℕ → ℕ → List ℕ → Result Outcome Fault
run_job lent room bytes = then (fits bytes) (λ u. then (run_lines lent room (at bytes 1)) finished)
