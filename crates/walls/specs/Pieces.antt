-- Linear pieces of functions that rise by 0 or 1 at each unit.
use Rattle.std.specs.Prelude.{◌≡◌, ℕ, ◌+◌, ◌≤◌, Bool, true, false, ◌⊎◌, ℤ, pos, ◌+ℤ◌, ◌<ℤ◌}
use Rattle.std.specs.Int.{int_max}
use Rattle.walls.specs.declared.piece.Piece.{Piece}

-- 1 for a slope, 0 for none
abbrev pub bit : Bool → ℕ
bit true = 1
bit false = 0

-- how far j steps of one slope go
abbrev pub climb : Bool → ℕ → ℕ
climb true j = j
climb false j = 0

-- from t on, up to the end of the piece, f goes as p says
abbrev pub Linear : (ℕ → ℤ) → ℕ → Piece → Type 0
Linear f t p = (j : ℕ) → t + j ≤ p.until → f (t + j) ≡ (p.value +ℤ pos (climb p.slope j))

-- the greater of two functions
abbrev pub greater_of : (ℕ → ℤ) → (ℕ → ℤ) → ℕ → ℤ
greater_of a b u = int_max (a u) (b u)

-- of two pieces, the one with the value v and the slope s is the greater: its value is, or it climbs no less from the same value
abbrev pub Over : ℤ → Bool → ℤ → Bool → Type 0
Over v s w r = (w <ℤ v) ⊎ ((w ≡ v) × (bit r ≤ bit s))
