-- A map of points and edges, and how its two lines are read and written.
use Rattle.std.specs.Prelude.{◌≡◌, ℕ, ◌<◌, ◌≤◌, Bool, true, cond, ◌&&◌, ◌||◌, List, [], ◌∷◌, ◌++◌, map, ℤ, pos, negsuc, Some, None, Ok, Err, codes, Option, Result, ◌==◌, nat_le, nat_lt}
use Rattle.std.specs.List.{AllByRecursion}
use Rattle.std.specs.Str.{bytes_eq}
use Rattle.terms.specs.declared.fault.Fault.{Fault}
use Rattle.terms.specs.declared.fault.Refusal.TheVariants.{WrongPoints, WrongEdge}
use Rattle.terms.specs.Refusals.{fault}
use Rattle.numbers.specs.Numbers.{natural, integer, written, judged}
use Rattle.lines.specs.declared.key.Key.TheVariants.{Points, Edges}
use Rattle.lines.specs.Reading.{Reading, done, ◌>>=◌, then, cut}
use Rattle.lines.specs.Lines.{entry, line}
use Rattle.lines.specs.Commas.{pieces, commas, all_of}
use Rattle.snort.specs.Maps.{point_limit, size_fits}

pub record Edge : Type 0 where
  pub from : ℕ
  pub to : ℕ

pub record Map : Type 0 where
  pub points : ℕ
  pub edges : List Edge

abbrev pub edge : ℕ → ℕ → Edge
edge a b = record { from = a; to = b }

-- the number of points is an integer; one that no map may have is a wrong number of points
abbrev pub lawful_points : ℕ → ℤ → Result ℕ Fault
lawful_points n (pos k) = cond (size_fits k) (Ok k) (Err (fault WrongPoints n))
lawful_points n (negsuc k) = Err (fault WrongPoints n)

abbrev pub points_of : List ℕ → ℕ → Result ℕ Fault
points_of v n = then (judged (integer v) n) (lawful_points n)

-- an edge is a pair of numbers, the first not above the second
abbrev pub pair_of : Option ℕ → Option ℕ → Option Edge
pair_of None o = None
pair_of (Some a) None = None
pair_of (Some a) (Some b) = cond (nat_le a b) (Some (edge a b)) None

abbrev pub ends : Option (List ℕ × List ℕ) → Option Edge
ends None = None
ends (Some (l, r)) = pair_of (natural l) (natural r)

abbrev pub edge_of : List ℕ → Option Edge
edge_of v = ends (cut 45 v)

-- edges rise strictly, by the first point and then by the second
abbrev pub before_edge : Edge → Edge → Bool
before_edge e f = nat_lt e.from f.from || (e.from == f.from && nat_lt e.to f.to)

abbrev pub rising : List Edge → Bool
rising [] = true
rising (e ∷ []) = true
rising (e ∷ (f ∷ fs)) = before_edge e f && rising (f ∷ fs)

abbrev pub if_rising : Option (List Edge) → Option (List Edge)
if_rising None = None
if_rising (Some es) = cond (rising es) (Some es) None

abbrev pub edges_form : List ℕ → Option (List Edge)
edges_form v = cond (bytes_eq v (codes "none")) (Some []) (if_rising (all_of edge_of (pieces v)))

-- an edge off the map or from a point to itself is a wrong edge, once the line has its form
abbrev pub on_map : ℕ → List Edge → Bool
on_map points [] = true
on_map points (e ∷ es) = (nat_lt e.from e.to && nat_lt e.to points) && on_map points es

abbrev pub edges_of : ℕ → List ℕ → ℕ → Result (List Edge) Fault
edges_of points v n = then (judged (edges_form v) n) (λ es. cond (on_map points es) (Ok es) (Err (fault WrongEdge n)))

-- the two lines
unfoldable pub read_map : Reading Map
read_map = do
  points ← entry Points points_of
  edges ← entry Edges (edges_of points)
  done (record { points = points; edges = edges })

-- what is written of a map
unfoldable pub edge_text : Edge → List ℕ
edge_text e = written e.from ++ (45 ∷ written e.to)

unfoldable pub edges_text : List Edge → List ℕ
edges_text [] = codes "none"
edges_text (e ∷ es) = commas (map edge_text (e ∷ es))

unfoldable pub map_text : Map → List ℕ
map_text m = line Points (written m.points) ++ line Edges (edges_text m.edges)

-- the maps that may be written
abbrev pub OnMap : ℕ → List Edge → Type 0
OnMap points es = AllByRecursion (λ e. (e.from < e.to) × (e.to < points)) es

abbrev pub GoodEdges : ℕ → List Edge → Type 0
GoodEdges points es = (rising es ≡ true) × OnMap points es

abbrev pub GoodMap : Map → Type 0
GoodMap m = ((1 ≤ m.points) × (m.points ≤ point_limit)) × GoodEdges m.points m.edges
