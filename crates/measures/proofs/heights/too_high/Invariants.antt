use Rattle.std.proofs.Common.{◌≡◌, ℕ, ◌≤◌, length, get_or}
use Rattle.std.specs.Iterator.Adapters.{rev_source, enumerate_source, enumerate_count}
use Rattle.std.specs.Slice.Iter.{iter_rest}
use Rattle.theory.specs.Limits.{greatest_height}
use Rattle.theory.specs.Trees.{Tree, height}
use Rattle.spreading.specs.Shapes.{row_limit, shapes_of}
use Rattle.spreading.proofs.Passes.{Noted, Kept, Front}
use Rattle.measures.proofs.heights.too_high.Given as goal

abbrev pub invariant-loop-i : goal.invariant-loop-i
invariant-loop-i l =
    let rows = rev_source l.i-iterator in
    let rest = iter_rest (enumerate_source rows) in
    (enumerate_count rows ≡ 0) × Front l.shapes rest
    × (length l.heights ≡ row_limit) × ((k : ℕ) → get_or l.heights k 0 ≤ greatest_height)
    × ((t : Tree) → l.shapes ≡ shapes_of t → Noted (Kept height 0 l.heights) t (length rest))
