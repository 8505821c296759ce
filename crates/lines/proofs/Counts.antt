-- Numbers as values of lines.
use Rattle.std.proofs.Common.{◌≡◌, ℕ, ◌<◌, ◌≤◌, Bool, true, false, cond, leb, List, Some, None, Option, refl, ap, ◌∙◌, subst, arith}
use Rattle.std.proofs.ByRecursion.{All-weaker}
use Rattle.std.proofs.lemmas.Bool.{leb-true, le-leb, cond-true}
use Rattle.numbers.specs.Numbers.{natural, written, at_most, upto}
use Rattle.numbers.proofs.Written.{none_some, natural_exact, natural_written, written_digits}
use Rattle.lines.specs.declared.key.Key.{Key}
use Rattle.lines.specs.Lines.{entry, form, line}
use Rattle.lines.proofs.Splits.{Clear, some_same}
use Rattle.lines.proofs.Laws.{Reads, entry_reads, form_whole}

at_most_some : (m : ℕ) (o : Option ℕ) (n : ℕ) → at_most m o ≡ Some n → (n ≤ m) × (o ≡ Some n)
at_most_some m None n e = none_some e
at_most_some m (Some k) n e = go (leb k m) refl e
  where
    go : (t : Bool) → leb k m ≡ t → cond t (Some k) None ≡ Some n → (n ≤ m) × (Some k ≡ Some n)
    go true t e = let q = some_same e in (subst (λ x. x ≤ m) q (leb-true k m t), e)
    go false t e = none_some e

pub upto_sound : (m : ℕ) (v : List ℕ) (n : ℕ) → upto m v ≡ Some n → (n ≤ m) × (v ≡ written n)
upto_sound m v n e = let h = at_most_some m (natural v) n e in (h.0, (natural_exact v n).0 h.1)

pub upto_complete : (m n : ℕ) → n ≤ m → upto m (written n) ≡ Some n
upto_complete m n h = ap (at_most m) (natural_written n) ∙ cond-true (leb n m) _ _ (le-leb n m h)

pub written_clear : (b n : ℕ) → b < 48 → Clear b (written n)
written_clear b n h = All-weaker (λ x. (48 ≤ x) × (x ≤ 57)) (λ x. x ≡ b → ⊥) (λ x d e. omega arith) (written n) (written_digits n)

-- a line that says how many
pub count_reads : (k : Key) (m : ℕ) → Reads (entry k (form (upto m))) (λ n. line k (written n)) (λ n. n ≤ m)
count_reads k m = entry_reads k (form (upto m)) written (λ n. n ≤ m) (form_whole (upto m) written (λ n. n ≤ m) (upto_sound m) (upto_complete m) (λ n g. written_clear 10 n (omega arith)))
