-- A text that has each byte of a word is that word.
use Rattle.std.proofs.Common.{◌≡◌, ℕ, List, [], ◌∷◌, length, get_or, arith}

pub six : (xs : List ℕ) (a b c d e f : ℕ) → length xs ≡ 6 → get_or xs 0 0 ≡ a → get_or xs 1 0 ≡ b → get_or xs 2 0 ≡ c → get_or xs 3 0 ≡ d → get_or xs 4 0 ≡ e → get_or xs 5 0 ≡ f → xs ≡ a ∷ b ∷ c ∷ d ∷ e ∷ f ∷ []
six (u ∷ v ∷ w ∷ x ∷ y ∷ z ∷ []) a b c d e f l p q r s t o = λ i. p i ∷ q i ∷ r i ∷ s i ∷ t i ∷ o i ∷ []
six _ a b c d e f l p q r s t o = absurd (omega arith)
