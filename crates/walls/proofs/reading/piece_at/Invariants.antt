use Rattle.std.proofs.Common.{◌≡◌, ℕ, ◌-◌, ◌%◌, ◌<◌, ◌≤◌, ◌∷◌, length, get_or}
use Rattle.walls.specs.Pieces.{bit}
use Rattle.theory.specs.Corners.{rise}
use Rattle.walls.proofs.reading.piece_at.Given as goal

abbrev pub invariant-loop-c : goal.invariant-loop-c
invariant-loop-c l =
    (l.last ≤ l.t) × (l.last ≡ get_or (0 ∷ l.corners) l.c-index 0) × (l.moved ≡ rise l.corners l.last)
    × ((length l.corners - l.c-index) % 2 ≡ bit l.slope) × ((k : ℕ) → k < l.c-index → get_or l.corners k 0 ≤ l.last)
