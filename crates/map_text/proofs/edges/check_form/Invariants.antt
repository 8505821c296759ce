use Rattle.std.proofs.Common.{◌≡◌, None}
use Rattle.lines.specs.Commas.{pieces, all_of}
use Rattle.lines.specs.Seen.{left}
use Rattle.map_text.specs.Maps.{edge_of}
use Rattle.map_text.specs.Pairs.{last_said, goes_on}
use Rattle.map_text.proofs.edges.check_form.Given as goal

abbrev pub invariant-loop-piece : goal.invariant-loop-piece
invariant-loop-piece l = (l.piece-iterator.line ≡ l.text.line) × (goes_on (last_said l.last) (all_of edge_of (left l.piece-iterator)) ≡ goes_on None (all_of edge_of (pieces l.text.bytes.now)))
