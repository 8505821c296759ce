-- What a diagram shows.
use Rattle.std.specs.Prelude.{◌≡◌, ℕ, ◌<◌, ◌≤◌, List, [], ℤ, pos, ◌≤ℤ◌, Some, None}
use Rattle.terms.specs.declared.side.Side.TheVariants.{Left, Right}
use Rattle.theory.specs.Trees.{Tree, at, size}
use Rattle.theory.specs.Walls.{left_wall, right_wall, temperature as heat_of, mean as mean_of}
use Rattle.theory.specs.Corners.{Ordered, rising, falling, corners_of}
use Rattle.spreading.specs.Order.{row}
use Rattle.thermographs.specs.Figures.{run}
use Rattle.thermographs.specs.declared.figures.Figures.{Figures}
use Rattle.bank.specs.declared.diagram.Diagram.{Diagram}

-- the walls as the diagram draws them
abbrev pub left_of : Diagram → ℕ → ℤ
left_of d t = falling d.left_start d.left.now t

abbrev pub right_of : Diagram → ℕ → ℤ
right_of d t = rising d.right_start d.right.now t

-- as the figures of a row tell them, by the corners of its part
pub record DrawnBy (f : Figures) (corners : List ℕ) (d : Diagram) : Type 0 where
  pub left : d.left.now ≡ run f.left corners
  pub right : d.right.now ≡ run f.right corners
  pub left_start : d.left_start ≡ f.left.start
  pub right_start : d.right_start ≡ f.right.start
  pub means : d.mean ≡ f.mean
  pub heat : d.temperature ≡ f.temperature

-- the thermograph of x: its corners rise, its walls are drawn by them and never cross, and they meet at the temperature
pub record Pictures (x : Tree) (d : Diagram) : Type 0 where
  pub left_corners : d.left.now ≡ corners_of x Left
  pub right_corners : d.right.now ≡ corners_of x Right
  pub left_start : d.left_start ≡ left_wall x 0
  pub right_start : d.right_start ≡ right_wall x 0
  pub means : d.mean ≡ mean_of x
  pub heat : d.temperature ≡ heat_of x
  pub left_rises : Ordered d.left.now
  pub right_rises : Ordered d.right.now
  pub left : (t : ℕ) → left_of d t ≡ left_wall x t
  pub right : (t : ℕ) → right_of d t ≡ right_wall x t
  pub order : (t : ℕ) → right_of d t ≤ℤ left_of d t
  pub meet : (t : ℕ) → d.temperature ≤ t → (left_of d t ≡ d.mean) × (right_of d t ≡ d.mean)

-- nothing
pub record Nothing (d : Diagram) : Type 0 where
  pub left_corners : d.left.now ≡ []
  pub right_corners : d.right.now ≡ []
  pub left_start : d.left_start ≡ pos 0
  pub right_start : d.right_start ≡ pos 0
  pub means : d.mean ≡ pos 0
  pub heat : d.temperature ≡ 0

-- row i of part p, or nothing where there is none
pub record Shows (ts : List Tree) (p i : ℕ) (d : Diagram) : Type 0 where
  pub present : (t : Tree) → at ts p ≡ Some t → i < size t → Pictures (row t i) d
  pub past : (t : Tree) → at ts p ≡ Some t → size t ≤ i → Nothing d
  pub absent : at ts p ≡ None → Nothing d
