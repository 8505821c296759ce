-- What a seating does.
use Rattle.std.specs.Prelude.{◌≡◌, ℕ, [], ◌∷◌, ◌++◌, length, Some, None, Ok, Err, Option, Result}
use Rattle.terms.specs.declared.fault.Refusal.{Refusal}
use Rattle.theory.specs.Trees.{Tree}
use Rattle.stories.specs.Seatings.{cause}
use Rattle.bank.specs.Contents.{trees}
use Rattle.bank.specs.declared.bank.Bank.{Bank}

-- the bank holds one tree more
abbrev pub Gains : Bank → Option Tree → Bank → Type 0
Gains b None b' = ⊥
Gains b (Some t) b' = trees b' ≡ trees b ++ (t ∷ [])

-- refused for the first cause in the table, and nothing changed; or there is no cause, and the tree is the last part
abbrev pub Seated : Bank → Option Tree → Result ℕ Refusal → Bank → Type 0
Seated b o (Err r) b' = (cause (trees b) o ≡ Some r) × (b' ≡ b)
Seated b o (Ok k) b' = (cause (trees b) o ≡ None) × (k ≡ length (trees b)) × Gains b o b'
