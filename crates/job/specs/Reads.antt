-- A job, read line by line.
use Rattle.std.specs.Prelude.{ℕ, ◌-◌, List, [], ◌∷◌, Ok, Err, Result}
use Rattle.terms.specs.declared.fault.Fault.{Fault}
use Rattle.terms.specs.declared.fault.Refusal.TheVariants.{BytesAfterJob}
use Rattle.terms.specs.Refusals.{fault}
use Rattle.terms.specs.declared.side.Side.{Side}
use Rattle.terms.specs.declared.side.Mover.{Mover}
use Rattle.numbers.specs.Numbers.{upto}
use Rattle.lines.specs.declared.key.Key.TheVariants as key
use Rattle.lines.specs.Reading.{State, at, Reading, then, done, ◌>>=◌, times, fits}
use Rattle.lines.specs.Lines.{entry, form}
use Rattle.tree_text.specs.Rows.{tree_lines}
use Rattle.map_text.specs.Maps.{read_map}
use Rattle.job.specs.declared.kind.Kind.{Kind}
use Rattle.job.specs.declared.kind.Kind.TheVariants as kinds
use Rattle.job.specs.declared.moves.Move.{Move}
use Rattle.job.specs.Grammar.{Part, tree, snort, Job, part_limit, move_limit}
use Rattle.job.specs.Values.{side_of, first_of, move_of, kind_of}

abbrev pub side_line : Reading Side
side_line = entry key.Side (form side_of)

abbrev pub first_line : Reading Mover
first_line = entry key.First (form first_of)

abbrev pub move_line : Reading Move
move_line = entry key.Move (form move_of)

abbrev pub body_lines : ℕ → ℕ → Kind → Reading Part
body_lines lent room kinds.Tree = do
  rows ← tree_lines lent room
  done (tree rows)
body_lines lent room kinds.Snort = do
  map ← read_map
  done (snort map)

unfoldable pub part_lines : ℕ → ℕ → Reading Part
part_lines lent room = do
  k ← entry key.Rules (form kind_of)
  body_lines lent room k

unfoldable pub parts_lines : ℕ → ℕ → Reading (List Part)
parts_lines lent room = do
  n ← entry key.Parts (form (upto part_limit))
  times n (part_lines lent room)

unfoldable pub moves_lines : Reading (List Move)
moves_lines = do
  n ← entry key.Moves (form (upto move_limit))
  times n move_line

unfoldable pub job_lines : ℕ → ℕ → Reading Job
job_lines lent room = do
  side ← side_line
  first ← first_line
  parts ← parts_lines lent room
  moves ← moves_lines
  done (record { side = side; first = first; parts = parts; moves = moves })

-- the job and the number of its last line; bytes after that line are refused
abbrev pub ended : Job × State → Result (Job × ℕ) Fault
ended (j, s) = elim s.rest [ [] ↦ Ok (j, s.line - 1) | x ∷ xs ↦ Err (fault BytesAfterJob (s.line - 1)) ]

unfoldable pub read_job : ℕ → ℕ → List ℕ → Result (Job × ℕ) Fault
read_job lent room bytes = then (fits bytes) (λ u. then (job_lines lent room (at bytes 1)) ended)
