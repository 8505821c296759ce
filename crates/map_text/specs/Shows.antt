-- What the map of a rule set shows of a map that was read.
use Rattle.std.specs.Prelude.{◌≡◌, ℕ, Bool, true, false, cond, ◌||◌, List, [], ◌∷◌, Ok, Err, Result}
use Rattle.terms.specs.declared.fault.Fault.{Fault}
use Rattle.terms.specs.declared.fault.Refusal.TheVariants.{WrongEdge}
use Rattle.terms.specs.Refusals.{fault}
use Rattle.lines.specs.declared.reader.Reader.{Reader}
use Rattle.lines.specs.Reading.{State}
use Rattle.lines.specs.Seen.{seen}
use Rattle.snort.specs.declared.map.Snort.{Snort}
use Rattle.snort.specs.Maps.{edge as joins}
use Rattle.snort.specs.Boards.{points_on, joined_on}
use Rattle.map_text.specs.Maps.{Edge, Map, on_map}

-- whether some edge joins the two points, in either direction
abbrev pub has_edge : List Edge → ℕ → ℕ → Bool
has_edge [] x y = false
has_edge (e ∷ es) x y = joins e.from e.to x y || has_edge es x y

-- it has the points of the map, and joins two of them just where an edge does
abbrev pub Shows : Snort → Map → Type 0
Shows s m = (points_on s ≡ m.points) × ((x y : ℕ) → joined_on s x y ≡ has_edge m.edges x y)

-- a map was read as the reading says, or refused with its very fault
abbrev pub ReadAs : Result Snort Fault → Reader → Result (Map × State) Fault → Type 0
ReadAs (Ok s) t r = (m : Map) × (r ≡ Ok (m, seen t)) × Shows s m
ReadAs (Err d) t r = r ≡ Err d

-- a map of so many points and no edges
abbrev pub Blank : Result Snort Fault → Result ℕ Fault → Type 0
Blank (Ok s) r = (r ≡ Ok (points_on s)) × ((x y : ℕ) → joined_on s x y ≡ false)
Blank (Err d) r = r ≡ Err d

-- these edges and no others were added
abbrev pub Added : List Edge → Snort → Snort → Type 0
Added es s t = (points_on t ≡ points_on s) × ((x y : ℕ) → joined_on t x y ≡ (joined_on s x y || has_edge es x y))

-- they were added where all lie on the map
pub record Joined (es : List Edge) (n : ℕ) (s t : Snort) (r : Result (Unit {0}) Fault) : Type 0 where
  pub answer : r ≡ cond (on_map (points_on s) es) (Ok tt) (Err (fault WrongEdge n))
  pub added : on_map (points_on s) es ≡ true → Added es s t

abbrev pub Edged : Result (Unit {0}) Fault → Snort → Snort → Result (List Edge) Fault → Type 0
Edged (Ok u) s t r = (es : List Edge) × (r ≡ Ok es) × Added es s t
Edged (Err d) s t r = r ≡ Err d
