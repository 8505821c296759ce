use Rattle.std.proofs.Common.{◌≡◌, ◌-◌, ◌≤◌, List, length}
use Rattle.lines.specs.Reading.{walk, onto, led}
use Rattle.lines.specs.Seen.{seen}
use Rattle.tree_text.specs.Rows.{Row, row_lines, after_row, top}
use Rattle.tree_text.specs.Written.{Holds}
use Rattle.tree_text.proofs.tree.read_rows.Given as goal

abbrev pub invariant-loop-i : goal.invariant-loop-i
invariant-loop-i l =
    let n = length l.initial.rows in
    (l.used ≤ l.room) × ((xs : List Row) × (length xs ≡ l.i) × (led after_row top xs ≡ record { row = l.i; used = l.used }) × Holds xs l.rows l.picks
    × (onto xs (walk (row_lines (n - 1) l.room) after_row (record { row = l.i; used = l.used }) (n - l.i) (seen l.reader)) ≡ walk (row_lines (n - 1) l.room) after_row top n (seen l.initial.reader)))
