-- What the code holds, as the definitions speak of it.
use Rattle.std.specs.Prelude.{◌≡◌, ℕ, min, List, length, Ok, Err, Result}
use Rattle.arrayvec.specs.ArrayVec.{ArrayVec}
use Rattle.terms.specs.declared.fault.Fault.{Fault}
use Rattle.lines.specs.declared.reader.Reader.{Reader}
use Rattle.lines.specs.Reading.{State}
use Rattle.lines.specs.Seen.{seen}
use Rattle.trees.specs.Written.{pick_limit}
use Rattle.tree_text.specs.declared.lent.Lent.{Lent}
use Rattle.tree_text.specs.declared.place.Place as code_place
use Rattle.tree_text.specs.declared.row.Row as code
use Rattle.tree_text.specs.declared.row.Row.TheVariants.{Ended, Open}
use Rattle.tree_text.specs.Rows.{Place, Row, leaf, fork}

-- the place that the code holds, which knows the last row and the room besides
abbrev pub spot : code_place.Place → Place
spot p = record { row = p.row; used = p.used }

-- the links that were read, or the fault
abbrev pub linked : Result (ArrayVec ℕ) Fault → Result (List ℕ) Fault
linked (Ok k) = Ok k.items
linked (Err e) = Err e

abbrev pub gave_links : Result (ArrayVec ℕ) Fault → Reader → Result (List ℕ × State) Fault
gave_links (Ok k) r = Ok (k.items, seen r)
gave_links (Err e) r = Err e

-- a row that the code holds
abbrev pub as_row : code.Row → Row
as_row (Ended z) = leaf z
as_row (Open left right) = fork left.items right.items

abbrev pub gave_row : Result code.Row Fault → Reader → Result (Row × State) Fault
gave_row (Ok a) r = Ok (as_row a, seen r)
gave_row (Err e) r = Err e

-- how many rows are lent, and for how many picks there is room
abbrev pub lent_rows : Lent → ℕ
lent_rows l = length l.rows.now

abbrev pub lent_room : Lent → ℕ
lent_room l = min (length l.picks.now) pick_limit

-- the same buffers, as long as they were
abbrev pub Kept : Lent → Lent → Type 0
Kept a b =
    (b.rows.ghost_name ≡ a.rows.ghost_name) × (b.picks.ghost_name ≡ a.picks.ghost_name) ×
    (length b.rows.now ≡ length a.rows.now) × (length b.picks.now ≡ length a.picks.now)
