-- The present rows of a game's parts, and the rows where an option may land.
use Rattle.std.specs.Prelude.{ℕ, ◌<◌, List, length, Ok, Err, Result, slice_index, slice_index_or}
use Rattle.terms.specs.declared.side.Side.{Side}
use Rattle.terms.specs.declared.fault.Refusal.{Refusal}
use Rattle.theory.specs.Trees.{Tree, size}
use Rattle.spreading.specs.Order.{none, row}
use Rattle.stories.specs.Stories.{Story}
use Rattle.bank.specs.Parts.{There}
use Rattle.play.specs.declared.record.Play.{Play}
use Rattle.play.specs.declared.record.Landing.{Landing}
use Rattle.play.specs.Behind.{Behind}

-- row i of part p
abbrev pub position : List Tree → ℕ → ℕ → Tree
position ts p i = row (slice_index_or ts p none) i

-- each part's present row is one of its rows
abbrev pub OnRows : List Tree → List ℕ → Type 0
OnRows ts rows = (p : ℕ) → p < length ts → slice_index rows p < size (slice_index_or ts p none)

-- some story led here
abbrev pub Storied : List Tree → Side → Play → Type 0
Storied ts s y = ∥ ((st : Story) × Behind st ts s y) ∥₁

-- a landing is on a row that there is
abbrev pub OnRow : List Tree → Result Landing Refusal → Type 0
OnRow ts (Ok l) = There ts l.part l.row
OnRow ts (Err n) = Unit {0}
