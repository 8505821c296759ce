use Rattle.std.proofs.Common.{◌≡◌, List, Some, Result}
use Rattle.terms.specs.declared.fault.Fault.{Fault}
use Rattle.lines.specs.Commas.{pieces, all_of}
use Rattle.lines.specs.Seen.{left}
use Rattle.snort.specs.declared.map.Snort.{Snort}
use Rattle.map_text.specs.Maps.{Edge, edge_of}
use Rattle.map_text.specs.Shows.{Joined}
use Rattle.map_text.proofs.read.join_edges.Given as goal

abbrev pub invariant-loop-piece : goal.invariant-loop-piece
invariant-loop-piece l =
    (l.piece-iterator.line ≡ l.text.line)
    × ((es : List Edge) → all_of edge_of (pieces l.text.bytes.now) ≡ Some es → (gs : List Edge) × (all_of edge_of (left l.piece-iterator) ≡ Some gs) × ((t : Snort) (r : Result (Unit {0}) Fault) → Joined gs l.text.line l.map t r → Joined es l.text.line l.initial.map t r))
