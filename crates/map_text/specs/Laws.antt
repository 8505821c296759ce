-- What the reading of maps is, in the words of what is written.
use Rattle.std.specs.Prelude.{◌≡◌, ℕ, List, ◌++◌, Ok}
use Rattle.lines.specs.Reading.{State, at}
use Rattle.map_text.specs.Maps.{Map, read_map, map_text, GoodMap}

-- a map is read just where the text of a good map stands, and what follows it is left
abbrev pub MapExact : Type 0
MapExact = ((s t : State) (m : Map) → read_map s ≡ Ok (m, t) → GoodMap m × (s.rest ≡ map_text m ++ t.rest)) × ((m : Map) (r : List ℕ) (n : ℕ) → GoodMap m → (k : ℕ) × (read_map (at (map_text m ++ r) n) ≡ Ok (m, at r k)))
