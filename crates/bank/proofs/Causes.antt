-- The first cause of a refusal, from what the passes tell.
use Rattle.std.proofs.Common.{◌≡◌, ℕ, ◌+◌, ◌-◌, ◌<◌, ◌≤◌, Bool, true, false, cond, ltb, leb, List, length, Some, None, Option, sym, refl, ap, ◌∙◌, subst, inl, inr, arith}
use Rattle.std.proofs.lemmas.Bool.{lt-ltb, le-ltb, ltb-false, lt-leb, cond-false, cond-true, cases_lt, cases_Bool}
use Rattle.terms.specs.declared.fault.Refusal.{Refusal}
use Rattle.terms.specs.declared.fault.Refusal.TheVariants.{PartsFull, UnknownCode, RowsFull, TooHigh, ColdPosition, CornersFull}
use Rattle.theory.specs.Limits.{greatest_height}
use Rattle.theory.specs.Trees.{Tree, height, size, Lawful}
use Rattle.theory.specs.Stops.{cold}
use Rattle.theory.specs.Fair.{Fair}
use Rattle.theory.proofs.Fairness.{cold_warm, fair}
use Rattle.rules.specs.Meaning.{LawfulIn}
use Rattle.spreading.specs.Order.{sizes}
use Rattle.spreading.specs.Shapes.{row_limit}
use Rattle.thermographs.specs.Figures.{corner_limit, strip_of}
use Rattle.encoding.specs.Columns.{part_limit, Seatable}
use Rattle.stories.specs.Seatings.{cause, corner_count, corner_counts}
use Rattle.bank.specs.Drafts.{lacks}
use Rattle.bank.proofs.Placing.{misfit_by, cause_by}
use Rattle.bank.proofs.Counts.{length_strip_of}

past_rows : (r c : ℕ) (t : Tree) → size t ≤ r
    → lacks r c t ≡ cond (ltb greatest_height (height t)) (Some TooHigh) (cond (cold t) (Some ColdPosition) (cond (ltb c (length (strip_of t))) (Some CornersFull) None))
past_rows r c t room = cond-false (ltb r (size t)) (Some RowsFull) _ (le-ltb r (size t) room)

past_height : (r c : ℕ) (t : Tree) → size t ≤ r → ltb greatest_height (height t) ≡ false
    → lacks r c t ≡ cond (cold t) (Some ColdPosition) (cond (ltb c (length (strip_of t))) (Some CornersFull) None)
past_height r c t room low = past_rows r c t room ∙ cond-false (ltb greatest_height (height t)) (Some TooHigh) _ low

past_cold : (r c : ℕ) (t : Tree) → size t ≤ r → ltb greatest_height (height t) ≡ false → cold t ≡ false
    → lacks r c t ≡ cond (ltb c (length (strip_of t))) (Some CornersFull) None
past_cold r c t room low warm = past_height r c t room low ∙ cond-false (cold t) (Some ColdPosition) _ warm

pub lacks_rows : (r c : ℕ) (t : Tree) → r < size t → lacks r c t ≡ Some RowsFull
lacks_rows r c t full = cond-true (ltb r (size t)) (Some RowsFull) _ (lt-ltb r (size t) full)

pub lacks_height : (r c : ℕ) (t : Tree) → size t ≤ r → ltb greatest_height (height t) ≡ true → lacks r c t ≡ Some TooHigh
lacks_height r c t room high = past_rows r c t room ∙ cond-true (ltb greatest_height (height t)) (Some TooHigh) _ high

pub lacks_warmth : (r c : ℕ) (t : Tree) → size t ≤ r → ltb greatest_height (height t) ≡ false → cold t ≡ true → lacks r c t ≡ Some ColdPosition
lacks_warmth r c t room low chill = past_height r c t room low ∙ cond-true (cold t) (Some ColdPosition) _ chill

pub lacks_corners : (r c : ℕ) (t : Tree) → size t ≤ r → ltb greatest_height (height t) ≡ false → cold t ≡ false → c < length (strip_of t) → lacks r c t ≡ Some CornersFull
lacks_corners r c t room low warm full = past_cold r c t room low warm ∙ cond-true (ltb c (length (strip_of t))) (Some CornersFull) None (lt-ltb c (length (strip_of t)) full)

pub lacks_nothing : (r c : ℕ) (t : Tree) → size t ≤ r → ltb greatest_height (height t) ≡ false → cold t ≡ false → length (strip_of t) ≤ c → lacks r c t ≡ None
lacks_nothing r c t room low warm space = past_cold r c t room low warm ∙ cond-false (ltb c (length (strip_of t))) (Some CornersFull) None (le-ltb c (length (strip_of t)) space)

-- ---- what the passes leave of a lawful tree
pub lawful_of : (o : Option Tree) (t : Tree) → o ≡ Some t → LawfulIn o → Lawful t
lawful_of o t e l = subst LawfulIn e l

pub seatable_of : (t : Tree) → Lawful t → ltb greatest_height (height t) ≡ false → cold t ≡ false → Seatable t
seatable_of t l low warm = record { lawful = l; low = ltb-false greatest_height (height t) low; warm = cold_warm t warm }

pub fair_of : (t : Tree) → Lawful t → ltb greatest_height (height t) ≡ false → cold t ≡ false → Fair t
fair_of t l low warm = fair t l (cold_warm t warm) (ltb-false greatest_height (height t) low)

-- ---- the table, by what is used
free_of : (limit used n k : ℕ) → used ≤ limit → n ≡ k → ltb (limit - used) n ≡ ltb limit (used + k)
free_of limit used n k room f =
    elim (cases_lt limit (used + k)) [
      | inl h ↦ lt-ltb (limit - used) n (omega arith) ∙ sym (lt-ltb limit (used + k) h)
      | inr h ↦ le-ltb (limit - used) n (omega arith) ∙ sym (le-ltb limit (used + k) h)
    ]

-- what the free rows and corners lack is what the table says
pub lacks_misfit : (t : Tree) (rows turns : ℕ) → rows ≤ row_limit → turns ≤ corner_limit → lacks (row_limit - rows) (corner_limit - turns) t ≡ misfit_by rows turns t
lacks_misfit t rows turns room space =
    let rest : Bool → Option Refusal = λ b. cond (ltb greatest_height (height t)) (Some TooHigh) (cond (cold t) (Some ColdPosition) (cond b (Some CornersFull) None)) in
    ap (λ b. cond b (Some RowsFull) (rest (ltb (corner_limit - turns) (length (strip_of t))))) (free_of row_limit rows (size t) (size t) room refl)
    ∙ ap (λ b. cond (ltb row_limit (rows + size t)) (Some RowsFull) (rest b)) (free_of corner_limit turns (length (strip_of t)) (corner_count t) space (sym (length_strip_of t)))

pub cause_misfit : (parts rows turns : ℕ) (o : Option Tree) (t : Tree) → parts < part_limit → o ≡ Some t → cause_by parts rows turns o ≡ misfit_by rows turns t
cause_misfit parts rows turns o t few e =
    cond-false (leb part_limit parts) (Some PartsFull) _ (lt-leb part_limit parts few) ∙ ap (λ (m : Option Tree). elim m as (λ _. Option Refusal) [ None ↦ Some UnknownCode | Some x ↦ misfit_by rows turns x ]) e

-- an unknown code has a cause
pub no_cause_known : (parts rows turns : ℕ) → cause_by parts rows turns None ≡ None → ⊥
no_cause_known parts rows turns e =
    elim (cases_Bool (leb part_limit parts)) [
      | inl f ↦ let q : Some PartsFull ≡ None = sym (cond-true (leb part_limit parts) (Some PartsFull) (Some UnknownCode) f) ∙ e in let z : ◌≡◌ {A = ℕ} 0 1 = cc in omega arith
      | inr f ↦ let q : Some UnknownCode ≡ None = sym (cond-false (leb part_limit parts) (Some PartsFull) (Some UnknownCode) f) ∙ e in let z : ◌≡◌ {A = ℕ} 0 1 = cc in omega arith
    ]

-- a bank that holds the trees has used what they take
pub cause_held : (parts rows turns : ℕ) (ts : List Tree) (o : Option Tree) → parts ≡ length ts → rows ≡ sizes ts → turns ≡ corner_counts ts → cause ts o ≡ cause_by parts rows turns o
cause_held parts rows turns ts o a b d =
    ap (λ n. cause_by n (sizes ts) (corner_counts ts) o) (sym a) ∙ ap (λ n. cause_by parts n (corner_counts ts) o) (sym b) ∙ ap (λ n. cause_by parts rows n o) (sym d)
