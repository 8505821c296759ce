use Rattle.std.proofs.Common.{◌≡◌, length}
use Rattle.std.specs.Iterator.Adapters.{rev_source, enumerate_source, enumerate_count}
use Rattle.std.specs.Slice.Iter.{iter_rest}
use Rattle.theory.specs.Trees.{Tree}
use Rattle.theory.specs.Fair.{Fair}
use Rattle.spreading.specs.Shapes.{shapes_of}
use Rattle.spreading.proofs.Passes.{Front}
use Rattle.thermographs.proofs.Pass.{Pass}
use Rattle.thermographs.proofs.rows.figure_rows.Given as goal

abbrev pub invariant-loop-i : goal.invariant-loop-i
invariant-loop-i l =
    let rows = rev_source l.i-iterator in
    let rest = iter_rest (enumerate_source rows) in
    record {
      same : l.strip.places.ghost_name ≡ l.initial.strip.places.ghost_name;
      count : enumerate_count rows ≡ 0;
      front : Front l.shapes rest;
      pass : (t : Tree) → Fair t → l.shapes ≡ shapes_of t → Pass t l.initial.figures l.initial.strip l.figures l.strip (length rest);
    }
