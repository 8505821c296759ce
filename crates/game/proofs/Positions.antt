-- The figures of one position, by what a bank keeps of it.
use mathlib.Core.Logic.{∥∥₁_elim}
use Rattle.std.proofs.Common.{◌≡◌, ℕ, ◌≤◌, length, ℤ, pos, neg_ℤ, ◌≤ℤ◌, refl, subst, arith}
use Rattle.bank.proofs.Showing.{≤ℤ_prop}
use Rattle.std.proofs.lemmas.Int.{ints}
use Rattle.terms.specs.declared.side.Side.{Side}
use Rattle.terms.specs.declared.side.Side.TheVariants.{Left, Right}
use Rattle.terms.specs.Sides.{other, own, pick}
use Rattle.theory.specs.Limits.{wall_limit}
use Rattle.theory.specs.Trees.{Tree}
use Rattle.theory.specs.Fair.{Fair}
use Rattle.theory.specs.Walls.{left_wall, right_wall}
use Rattle.theory.proofs.Range.{figures_fit_lem}
use Rattle.encoding.specs.Columns.{part_limit}
use Rattle.stories.specs.Game.{near, far}
use Rattle.bank.specs.declared.bank.Bank.{Bank}
use Rattle.bank.specs.Contents.{trees}
use Rattle.bank.specs.Parts.{There}
use Rattle.bank.proofs.Showing.{fair_row}
use Rattle.bank.proofs.Trees.{trees_held, parts_trees}
use Rattle.game.specs.Rows.{position}

-- ---- walls
pub near_own : (s : Side) (t : ℕ) (x : Tree) → own s (pick (other s) (left_wall x t) (right_wall x t)) ≡ near s t x
near_own Left t x = refl
near_own Right t x = refl

pub far_own : (s : Side) (t : ℕ) (x : Tree) → own s (pick s (left_wall x t) (right_wall x t)) ≡ far s t x
far_own Left t x = refl
far_own Right t x = refl

-- within their limit
abbrev pub Small : ℤ → Type 0
Small v = (neg_ℤ (pos wall_limit) ≤ℤ v) × (v ≤ℤ pos wall_limit)

pick_small : (s : Side) (a b : ℤ) → Small a → Small b → Small (pick s a (neg_ℤ b))
pick_small Left a b h k = h
pick_small Right a b h k = (omega (arith, ints, k.0, k.1), omega (arith, ints, k.0, k.1))

own_small : (s : Side) (v : ℤ) → Small v → Small (own s v)
own_small Left v h = h
own_small Right v h = (omega (arith, ints, h.0, h.1), omega (arith, ints, h.0, h.1))

both_small : (x : Tree) (s : Side) (t : ℕ) → Fair x → Small (pick s (left_wall x t) (right_wall x t))
both_small x s t f = pick_small s (left_wall x t) _ ((figures_fit_lem x f).walls Left t) ((figures_fit_lem x f).walls Right t)

pub wall_small : (b : Bank) (p i : ℕ) → There (trees b) p i → (s : Side) (t : ℕ) → Small (pick s (left_wall (position (trees b) p i) t) (right_wall (position (trees b) p i) t))
wall_small b p i h s t = (
  ∥∥₁_elim (trees_held b) ≤ℤ_prop (λ held. (both_small (position (trees b) p i) s t (fair_row b.columns (trees b) p i h held)).0),
  ∥∥₁_elim (trees_held b) ≤ℤ_prop (λ held. (both_small (position (trees b) p i) s t (fair_row b.columns (trees b) p i h held)).1),
)

pub near_small : (b : Bank) (p i : ℕ) → There (trees b) p i → (s : Side) (t : ℕ) → Small (near s t (position (trees b) p i))
near_small b p i h s t = let x : Tree = position (trees b) p i in subst Small (near_own s t x) (own_small s _ (wall_small b p i h (other s) t))

pub far_small : (b : Bank) (p i : ℕ) → There (trees b) p i → (s : Side) (t : ℕ) → Small (far s t (position (trees b) p i))
far_small b p i h s t = let x : Tree = position (trees b) p i in subst Small (far_own s t x) (own_small s _ (wall_small b p i h s t))

-- ---- how many parts and rows there are
pub few_parts : (b : Bank) → length (trees b) ≤ part_limit
few_parts b = omega (arith, parts_trees b, b.within.0)
