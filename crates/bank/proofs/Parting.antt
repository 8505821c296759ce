-- Reading one part of a column.
use Rattle.std.proofs.Common.{◌≡◌, ℕ, suc, ◌+◌, ◌-◌, ◌<◌, ◌≤◌, cond, ltb, List, [], map, length, get_or, take, drop, sym, ap, ◌∙◌, inl, inr, arith}
use Rattle.std.specs.List.{flat_map}
use Rattle.std.proofs.Math.ListN.{get_or-map}
use Rattle.std.proofs.lemmas.List.{take_all}
use Rattle.std.proofs.lemmas.Bool.{lt-ltb, le-ltb, cond-true, cond-false, cases_lt}
use Rattle.theory.specs.Trees.{Tree}
use Rattle.spreading.specs.Order.{none}
use Rattle.encoding.specs.Columns.{Column}
use Rattle.encoding.proofs.Columns.{column_start, column_end, column_part, next_part}
use Rattle.bank.specs.Parts.{nothing, before_part, part_of}
use Rattle.bank.specs.declared.columns.Columns.{Columns}
use Rattle.bank.specs.declared.columns.Extent.{Extent}

-- where the entries of part k begin; behind all that are used where there is no such part
abbrev pub begin_of : List ℕ → ℕ → ℕ → ℕ → ℕ
begin_of starts parts used k = cond (ltb k parts) (get_or starts k 0) used

-- of the rows or of the corners that stand before a part
pub before_is : (f : Extent → ℕ) → f nothing ≡ 0 → (c : Columns) (k : ℕ) → f (before_part c k) ≡ begin_of (map f c.starts) c.parts (f c.used) k
before_is f z c k =
    elim (cases_lt k c.parts) [
      | inl lt ↦
          ap f (cond-true (ltb k c.parts) (get_or c.starts k nothing) c.used (lt-ltb k c.parts lt)) ∙ sym (get_or-map f c.starts k nothing)
          ∙ ap (get_or (map f c.starts) k) z ∙ sym (cond-true (ltb k c.parts) (get_or (map f c.starts) k 0) (f c.used) (lt-ltb k c.parts lt))
      | inr ge ↦
          ap f (cond-false (ltb k c.parts) (get_or c.starts k nothing) c.used (le-ltb k c.parts ge))
          ∙ sym (cond-false (ltb k c.parts) (get_or (map f c.starts) k 0) (f c.used) (le-ltb k c.parts ge))
    ]

module _ {A : Type 0} (entries : Tree → List A) (d : A) (column : List A) (starts : List ℕ) (parts used : ℕ) (ts : List Tree) (many : parts ≡ length ts) (h : Column entries d column starts used ts) where
  begins : (k : ℕ) → k ≤ parts → begin_of starts parts used k ≡ length (flat_map entries (take k ts))
  begins k le =
      elim (cases_lt k parts) [
        | inl lt ↦ cond-true (ltb k parts) (get_or starts k 0) used (lt-ltb k parts lt) ∙ column_start h k (omega arith)
        | inr ge ↦
            cond-false (ltb k parts) (get_or starts k 0) used (le-ltb k parts ge) ∙ h.filled
            ∙ ap (λ l. length (flat_map entries l)) (sym (take_all k ts (omega arith)))
      ]

  past : (k : ℕ) → parts ≤ k → begin_of starts parts used k ≡ used
  past k ge = cond-false (ltb k parts) (get_or starts k 0) used (le-ltb k parts ge)

  -- a part ends where the next begins
  ends : (p : ℕ) → p < parts → begin_of starts parts used (p + 1) ≡ begin_of starts parts used p + length (entries (get_or ts p none))
  ends p lt =
      let up : p + 1 ≡ suc p = omega arith in
      ap (begin_of starts parts used) up ∙ begins (suc p) lt ∙ next_part entries ts p (omega arith) ∙ ap (λ n. n + length (entries (get_or ts p none))) (sym (begins p (omega arith)))

  -- it lies within what is used
  pub inside : (p : ℕ) → (begin_of starts parts used p ≤ begin_of starts parts used (p + 1)) × (begin_of starts parts used (p + 1) ≤ used)
  inside p =
      elim (cases_lt p parts) [
        | inl lt ↦ (omega (arith, ends p lt), omega (arith, ends p lt, begins p (omega arith), column_start h p (omega arith), column_end h p (omega arith)))
        | inr ge ↦ (omega (arith, past p ge, past (p + 1) (omega arith)), omega (arith, past (p + 1) (omega arith)))
      ]

  -- and is the tree's own entries
  part_is : used ≤ length column → (p : ℕ) → take (begin_of starts parts used (p + 1) - begin_of starts parts used p) (drop (begin_of starts parts used p) column) ≡ part_of entries ts p
  part_is room p =
      let from = begin_of starts parts used p in
      let to = begin_of starts parts used (p + 1) in
      elim (cases_lt p parts) [
        | inl lt ↦
            let wide : to - from ≡ length (entries (get_or ts p none)) = omega (arith, ends p lt) in
            ap (λ n. take (to - from) (drop n column)) (cond-true (ltb p parts) (get_or starts p 0) used (lt-ltb p parts lt))
            ∙ column_part h room p (to - from) (omega arith) wide
            ∙ sym (cond-true (ltb p (length ts)) (entries (get_or ts p none)) [] (lt-ltb p (length ts) (omega arith)))
        | inr ge ↦
            let none_left : to - from ≡ 0 = omega (arith, past p ge, past (p + 1) (omega arith)) in
            ap (λ n. take n (drop from column)) none_left
            ∙ sym (cond-false (ltb p (length ts)) (entries (get_or ts p none)) [] (le-ltb p (length ts) (omega arith)))
      ]

  pub part_at : used ≤ length column → (p from to : ℕ) → from ≡ begin_of starts parts used p → to ≡ begin_of starts parts used (p + 1) → take (to - from) (drop from column) ≡ part_of entries ts p
  part_at room p from to e f =
      ap (λ n. take (n - from) (drop from column)) f ∙ ap (λ n. take (begin_of starts parts used (p + 1) - n) (drop n column)) e ∙ part_is room p
