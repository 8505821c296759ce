-- The hottest part, by the temperatures of the parts; an ended part has none.
use Rattle.std.specs.Prelude.{◌≡◌, ℕ, ◌<◌, ◌≤◌, false, List, map, get_or, Some, None, Option, slice_index_or}
use Rattle.theory.specs.Trees.{Tree, Open}
use Rattle.theory.specs.Sums.{hottest}
use Rattle.stories.specs.Game.{First, heat, any_open}
use Rattle.play.specs.Standing.{heat_of}
use Rattle.play.specs.declared.leads.Lead.{Lead}

abbrev pub lead : ℕ → ℕ → Lead
lead p t = record { part = p; heat = t }

-- of the first n temperatures b is the greatest, at the lowest number
pub record Foremost (hs : List (Option ℕ)) (n : ℕ) (b : Lead) : Type 0 where
  pub within : b.part < n
  pub there : get_or hs b.part None ≡ Some b.heat
  pub most : (j t : ℕ) → j < n → slice_index_or hs j None ≡ Some t → t ≤ b.heat
  pub lowest : (j t : ℕ) → j < b.part → slice_index_or hs j None ≡ Some t → t < b.heat

abbrev pub Front : List (Option ℕ) → ℕ → Option Lead → Type 0
Front hs n None = (j : ℕ) → j < n → slice_index_or hs j None ≡ None
Front hs n (Some b) = Foremost hs n b

-- of the trees: the first of the hottest open ones, and its temperature
abbrev pub HottestOf : List Tree → Option Lead → Type 0
HottestOf xs None = any_open xs ≡ false
HottestOf xs (Some b) = First Open heat xs b.part × (b.heat ≡ hottest xs)

abbrev pub Hottest : List (Option ℕ) → Option Lead → Type 0
Hottest hs r = (xs : List Tree) → hs ≡ map heat_of xs → HottestOf xs r
