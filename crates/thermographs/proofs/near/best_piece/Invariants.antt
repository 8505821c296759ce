use Rattle.std.proofs.Common.{◌≡◌, ◌<◌, length, take, drop}
use Rattle.walls.specs.Pieces.{Linear}
use Rattle.thermographs.specs.Near.{best}
use Rattle.thermographs.proofs.near.best_piece.Given as goal

-- the best of the options behind those that are still to come
abbrev pub invariant-loop-option : goal.invariant-loop-option
invariant-loop-option l =
    let rest = l.option-iterator.iter.rest.now in
    record {
      ahead : l.t < l.best.until;
      front : rest ≡ take (length rest) l.options;
      more : length rest < length l.options;
      linear : Linear (best l.side l.corners (drop (length rest) l.options)) l.t l.best;
    }
