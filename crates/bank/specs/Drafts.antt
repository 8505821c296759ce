-- A part in the free rows and corners of a bank, or why it has no place there.
use Rattle.std.specs.Prelude.{◌≡◌, ℕ, ◌≤◌, List, [], ◌∷◌, ◌++◌, length, drop, replicate, Some, None, Ok, Err, Option, Result, nat_lt}
use Rattle.terms.specs.declared.fault.Refusal.{Refusal}
use Rattle.terms.specs.declared.fault.Refusal.TheVariants.{RowsFull, TooHigh, ColdPosition, CornersFull}
use Rattle.theory.specs.Limits.{greatest_height}
use Rattle.theory.specs.Trees.{Tree, height, size}
use Rattle.theory.specs.Stops.{cold}
use Rattle.spreading.specs.Shapes.{shapes_of, blank as blank_shape}
use Rattle.spreading.specs.declared.shape.Shape.{Shape}
use Rattle.thermographs.specs.Figures.{strip_of, blank}
use Rattle.thermographs.specs.declared.figures.Figures.{Figures}
use Rattle.encoding.specs.Columns.{Seatable}
use Rattle.stories.specs.Seatings.{first_cause}
use Rattle.bank.specs.Held.{part_figures}
use Rattle.bank.specs.declared.columns.Extent.{Extent}

-- why the tree has no place in so many free rows and corners
abbrev pub lacks : ℕ → ℕ → Tree → Option Refusal
lacks rows corners t =
    first_cause (
    (nat_lt rows (size t), RowsFull) ∷
    (nat_lt greatest_height (height t), TooHigh) ∷
    (cold t, ColdPosition) ∷
    (nat_lt corners (length (strip_of t)), CornersFull) ∷ []
    )

-- written at the front of the free ones, and the others stay
abbrev pub onto : {A : Type 0} → List A → List A → List A
onto xs free = xs ++ drop (length xs) free

-- the part of t stands in the free rows and corners
pub record Drafted (t : Tree) (e : Extent) (shapes : List Shape) (figures : List Figures) (corners : List ℕ) (shapes' : List Shape) (figures' : List Figures) (corners' : List ℕ) : Type 0 where
  pub fits : lacks (length shapes) (length corners) t ≡ None
  pub rows : e.rows ≡ size t
  pub turns : e.turns ≡ length (strip_of t)
  pub room : e.rows ≤ length shapes
  pub space : e.turns ≤ length corners
  pub seatable : Seatable t
  pub shaped : shapes' ≡ onto (shapes_of t) shapes
  pub figured : figures' ≡ onto (part_figures t) figures
  pub drawn : corners' ≡ onto (strip_of t) corners

abbrev pub DraftInto : Tree → List Shape → List Figures → List ℕ → Result Extent Refusal → List Shape → List Figures → List ℕ → Type 0
DraftInto t shapes figures corners (Ok e) shapes' figures' corners' = Drafted t e shapes figures corners shapes' figures' corners'
DraftInto t shapes figures corners (Err r) shapes' figures' corners' = lacks (length shapes) (length corners) t ≡ Some r

abbrev pub FillInto : Tree → List Shape → List Figures → List ℕ → Result Extent Refusal → List Shape → List Figures → List ℕ → Type 0
FillInto t shapes figures corners (Ok e) shapes' figures' corners' = Drafted t e shapes figures corners shapes' figures' corners'
FillInto t shapes figures corners (Err r) shapes' figures' corners' =
    (lacks (length shapes) (length corners) t ≡ Some r) × (shapes' ≡ replicate (length shapes) blank_shape) ×
    (figures' ≡ replicate (length figures) blank) × (corners' ≡ replicate (length corners) 0)
