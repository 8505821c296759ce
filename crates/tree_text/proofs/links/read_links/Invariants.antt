use Rattle.std.proofs.Common.{◌≡◌, ◌≤◌, length}
use Rattle.numbers.specs.Numbers.{upto}
use Rattle.lines.specs.Commas.{begun, all_of}
use Rattle.lines.specs.Seen.{left}
use Rattle.tree_text.specs.Rows.{few, links}
use Rattle.tree_text.proofs.links.read_links.Given as goal

abbrev pub invariant-loop-piece : goal.invariant-loop-piece
invariant-loop-piece l = (l.piece-iterator.line ≡ l.text.line) × (length l.links.items ≤ 16) × (few (begun l.links.items (all_of (upto l.last) (left l.piece-iterator))) ≡ links l.last l.text.bytes.now)
