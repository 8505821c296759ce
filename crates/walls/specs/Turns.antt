-- Corners as they are written on the way along a wall.
use Rattle.std.specs.Prelude.{◌≡◌, ℕ, ◌+◌, ◌≤◌, Bool, true, false, cond, not, ◌&&◌, List, length, Some, None, Option, nat_lt, slice_set}
use Rattle.walls.specs.declared.corner.Route.{Route}

-- whether two slopes differ
abbrev pub differ : Bool → Bool → Bool
differ true s = not s
differ false s = s

-- there is a corner at t where the slope changes, but none at 0
abbrev pub turns : Bool → Bool → ℕ → Bool
turns was slope t = nat_lt 0 t && differ was slope

-- where the route stands after t, with the new slope; where a corner has no room it stays where it was
abbrev pub After : Route → Bool → ℕ → Option (Unit {0}) → Route → Type 0
After route slope t None next =
    (turns route.trail.slope slope t ≡ true) × (length route.places.now ≤ route.trail.len) × (next.trail.slope ≡ route.trail.slope) × (next.trail.len ≡ route.trail.len)
After route slope t (Some _) next = (next.trail.slope ≡ slope) × (next.trail.len ≡ cond (turns route.trail.slope slope t) (route.trail.len + 1) route.trail.len)

-- and what is written: the corner, behind those before it
abbrev pub written : Route → Bool → ℕ → List ℕ
written route slope t = cond (turns route.trail.slope slope t) (slice_set route.places.now route.trail.len t) route.places.now
