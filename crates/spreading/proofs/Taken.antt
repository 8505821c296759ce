-- What a caller has of the rows that spreading took.
use Rattle.std.proofs.Common.{◌≡◌, ℕ, true, List, take, drop, Some, None, Option, sym, refl, ◌∙◌, subst, arith}
use Rattle.std.proofs.lemmas.List.{take_at}
use Rattle.theory.specs.Trees.{Tree}
use Rattle.rules.specs.Meaning.{known_in, LawfulIn}
use Rattle.spreading.specs.Shapes.{shapes_of, SpreadInto, Sound}
use Rattle.spreading.specs.declared.shape.Shape.{Shape}
use Rattle.spreading.proofs.Shapes.{length_shapes, sound_shapes}

-- the tree of a known code
pub known_tree : (o : Option Tree) → known_in o ≡ true → (t : Tree) × (o ≡ Some t)
known_tree None e = let z : ◌≡◌ {A = ℕ} 0 1 = cc in absurd (omega arith)
known_tree (Some t) e = (t, refl)

-- the rows taken are all those of the tree
pub taken_rows : (t : Tree) (free after : List Shape) (n : ℕ) → SpreadInto t free (Some n) after → take n after ≡ shapes_of t
taken_rows t free after n h = subst (λ l. take n l ≡ shapes_of t) (sym h.2) (take_at (shapes_of t) (drop n free) n (length_shapes t ∙ sym h.0))

-- and they are sound
pub taken_sound : (o : Option Tree) → known_in o ≡ true → LawfulIn o → (free after : List Shape) (n : ℕ) → ((t : Tree) → o ≡ Some t → SpreadInto t free (Some n) after) → Sound (take n after)
taken_sound None e l free after n h = let z : ◌≡◌ {A = ℕ} 0 1 = cc in absurd (omega arith)
taken_sound (Some t) e l free after n h = subst Sound (sym (taken_rows t free after n (h t refl))) (sound_shapes t l)
