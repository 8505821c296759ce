-- The trees of the towers: what the four questions answer of them; and that the trees of the toys are lawful.
use Rattle.std.specs.Prelude.{◌≡◌, ℕ, zero, suc, ◌-◌, length, pos, Some, None, ◌≢◌, refl}
use Rattle.std.proofs.Common.{ap, ◌∙◌, arith, rules}
use Rattle.std.proofs.lemmas.Int.{ints}
use Rattle.theory.specs.Trees.{ended, options, at, Lawful}
use Rattle.rules.specs.Meaning.{score_of, LawfulIn}
use Rattle.terms.specs.declared.side.Side.{Side}
use Rattle.terms.specs.declared.side.Side.TheVariants.{Left, Right}
use Rattle.toys.specs.Toys.{tower, sample}

pub count_tower : (n : ℕ) (s : Side) → (n ≢ 0) → 1 ≡ length (options (tower n) s)
count_tower zero s h = absurd (h refl)
count_tower (suc m) Left h = refl
count_tower (suc m) Right h = refl

pub score_tower : (n : ℕ) → (n ≢ 0) → None ≡ score_of (tower n)
score_tower zero h = absurd (h refl)
score_tower (suc m) h = refl

pub past_tower : (n : ℕ) (s : Side) (k : ℕ) → (k ≢ 0) → at (options (tower n) s) k ≡ None
past_tower zero s k h = refl
past_tower (suc m) s zero h = absurd (h refl)
past_tower (suc m) Left (suc k) h = refl
past_tower (suc m) Right (suc k) h = refl

pub left_tower : (n k : ℕ) → (n ≢ 0) → k ≡ 0 → at (options (tower n) Left) k ≡ Some (tower (n - 1))
left_tower zero k h e = absurd (h refl)
left_tower (suc m) k h e = ap (at (options (tower (suc m)) Left)) e ∙ ap (λ j. Some (tower j)) (omega arith)

pub right_tower : (n k : ℕ) → (n ≢ 0) → k ≡ 0 → at (options (tower n) Right) k ≡ Some (ended (pos 0))
right_tower zero k h e = absurd (h refl)
right_tower (suc m) k h e = ap (at (options (tower (suc m)) Right)) e

pub lawful_tower : (n : ℕ) → Lawful (tower n)
lawful_tower zero = (omega (arith, ints), omega (arith, ints))
lawful_tower (suc m) = (omega arith, omega arith, lawful_tower m, (omega (arith, ints), omega (arith, ints)))

-- each score is within its limit, and each list of options
pub lawful_sample : (n : ℕ) → LawfulIn (sample n)
lawful_sample n = search rules
