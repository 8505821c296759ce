-- What a seating does to the columns of a bank that holds some trees.
use Rattle.std.specs.Prelude.{◌≡◌, ℕ, ◌+◌, cond, List, [], ◌∷◌, ◌++◌, Some, None, Ok, Err, Option, Result, nat_le, nat_lt}
use Rattle.terms.specs.declared.fault.Refusal.{Refusal}
use Rattle.terms.specs.declared.fault.Refusal.TheVariants.{PartsFull, UnknownCode, RowsFull, TooHigh, ColdPosition, CornersFull}
use Rattle.theory.specs.Limits.{greatest_height}
use Rattle.theory.specs.Trees.{Tree, height, size}
use Rattle.theory.specs.Stops.{cold}
use Rattle.spreading.specs.Shapes.{row_limit}
use Rattle.thermographs.specs.Figures.{corner_limit}
use Rattle.encoding.specs.Columns.{part_limit}
use Rattle.stories.specs.Seatings.{first_cause, corner_count}
use Rattle.bank.specs.Held.{Held}
use Rattle.bank.specs.declared.columns.Columns.{Columns}

-- why a code with this meaning is refused, by how many parts, rows and corners are used
abbrev pub misfit_by : ℕ → ℕ → Tree → Option Refusal
misfit_by rows turns x =
    first_cause (
    (nat_lt row_limit (rows + size x), RowsFull) ∷
    (nat_lt greatest_height (height x), TooHigh) ∷
    (cold x, ColdPosition) ∷
    (nat_lt corner_limit (turns + corner_count x), CornersFull) ∷ []
    )

abbrev pub cause_by : ℕ → ℕ → ℕ → Option Tree → Option Refusal
cause_by parts rows turns meaning =
    cond (nat_le part_limit parts) (Some PartsFull) (elim meaning [ None ↦ Some UnknownCode | Some x ↦ misfit_by rows turns x ])

-- refused for the first cause; or there is none, and the part is numbered
abbrev pub Judged : Columns → Option Tree → Result ℕ Refusal → Type 0
Judged c o (Err r) = cause_by c.parts c.used.rows c.used.turns o ≡ Some r
Judged c o (Ok k) = (cause_by c.parts c.used.rows c.used.turns o ≡ None) × (k ≡ c.parts)

-- and nothing changed; or the tree is the last part
abbrev pub Placed : List Tree → Option Tree → Result ℕ Refusal → Columns → Columns → Type 0
Placed ts o (Err r) c c' = c' ≡ c
Placed ts o (Ok k) c c' = (t : Tree) → o ≡ Some t → Held c' (ts ++ (t ∷ []))
