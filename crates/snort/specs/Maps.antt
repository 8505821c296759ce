-- A map: so many points, and for each point the mask of its neighbours.
use Rattle.std.specs.Prelude.{ℕ, Bool, not, ◌&&◌, ◌||◌, List, ◌==◌, nat_le, nat_lt, slice_index}
use Rattle.masks.specs.Masks.{has}

-- the most points of a map
abbrev pub point_limit : ℕ
point_limit = 12

-- whether an edge joins the two points
abbrev pub joined : List ℕ → ℕ → ℕ → Bool
joined near a b = has (slice_index near a) b

-- the edge from a to b, in either direction
abbrev pub edge : ℕ → ℕ → ℕ → ℕ → Bool
edge a b x y = (x == a && y == b) || (x == b && y == a)

-- a number of points that a map may have
abbrev pub size_fits : ℕ → Bool
size_fits n = nat_le 1 n && nat_le n point_limit

-- an edge that a map of so many points may have
abbrev pub edge_fits : ℕ → ℕ → ℕ → Bool
edge_fits points a b = nat_lt a points && (nat_lt b points && not (a == b))
