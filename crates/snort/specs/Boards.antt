-- A map of the code, in the words of the game: its points, its edges and the trees of its codes.
use Rattle.std.specs.Prelude.{ℕ, Bool, Option}
use Rattle.theory.specs.Trees.{Tree}
use Rattle.snort.specs.declared.map.Snort.{Snort}
use Rattle.snort.specs.Maps.{joined}
use Rattle.snort.specs.Play.{snort_tree}

abbrev pub points_on : Snort → ℕ
points_on map = map.points

abbrev pub joined_on : Snort → ℕ → ℕ → Bool
joined_on map = joined map.near

abbrev pub tree_on : Snort → ℕ → Option Tree
tree_on map = snort_tree (points_on map) (joined_on map)
