use Rattle.std.proofs.Common.{◌≡◌, length}
use Rattle.std.specs.Iterator.Adapters.{rev_source, enumerate_source, enumerate_count}
use Rattle.std.specs.Slice.Iter.{iter_rest}
use Rattle.theory.specs.Trees.{Tree}
use Rattle.spreading.specs.Shapes.{row_limit, shapes_of}
use Rattle.spreading.proofs.Passes.{Noted, Front}
use Rattle.measures.proofs.StopPass.{Seen}
use Rattle.measures.proofs.cold.any_cold.Given as goal

abbrev pub invariant-loop-i : goal.invariant-loop-i
invariant-loop-i l =
    let rows = rev_source l.i-iterator in
    let rest = iter_rest (enumerate_source rows) in
    (enumerate_count rows ≡ 0) × Front l.shapes rest
    × (length l.stops ≡ row_limit)
    × ((t : Tree) → l.shapes ≡ shapes_of t → Noted (Seen l.stops) t (length rest))
