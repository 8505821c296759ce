-- The trees that a bank holds, and what a seating does to them.
use Rattle.std.proofs.Common.{◌≡◌, ℕ, List, [], ◌∷◌, ◌++◌, length, Some, None, Ok, Err, Option, Result, sym, refl, ap, ◌∙◌, subst}
use mathlib.Core.Logic.{∥∥₁_elim, ∥∥₁_prop}
use native.Mathlib.Nat.{ℕ_set}
use Rattle.terms.specs.declared.fault.Refusal.{Refusal}
use Rattle.theory.specs.Trees.{Tree}
use Rattle.spreading.specs.Order.{sizes}
use Rattle.encoding.proofs.Contents.{content, content_is, lists_set}
use Rattle.encoding.proofs.Holding.{held_used}
use Rattle.stories.specs.Seatings.{cause, corner_counts, seat}
use Rattle.bank.specs.Held.{row_starts, Held, Filled}
use Rattle.bank.proofs.Placing.{cause_by, Judged, Placed}
use Rattle.bank.specs.Contents.{held_once, trees}
use Rattle.bank.specs.Seats.{Gains, Seated}
use Rattle.bank.specs.declared.bank.Bank.{Bank}
use Rattle.bank.specs.declared.columns.Columns.{Columns}
use Rattle.bank.proofs.Counts.{length_strips}
use Rattle.bank.proofs.Causes.{no_cause_known, cause_held}
use Rattle.bank.proofs.Sets.{columns_set, one_bank}

pub trees_held : (b : Bank) → ∥ Held b.columns (trees b) ∥₁
unfolding trees
trees_held b = (content (Held b.columns) (held_once b.columns) b.filled).1

pub trees_are : (b : Bank) (ts : List Tree) → Held b.columns ts → trees b ≡ ts
unfolding trees
trees_are b ts h = content_is (Held b.columns) (held_once b.columns) b.filled ts h

pub parts_trees : (b : Bank) → b.columns.parts ≡ length (trees b)
parts_trees b = ∥∥₁_elim (trees_held b) (ℕ_set b.columns.parts (length (trees b))) (λ h. h.rows.many)

pub rows_trees : (b : Bank) → b.columns.used.rows ≡ sizes (trees b)
rows_trees b =
    let c = b.columns in
    ∥∥₁_elim (trees_held b) (ℕ_set c.used.rows (sizes (trees b))) (λ h. held_used c.shapes (row_starts c) c.parts c.used.rows (trees b) h.rows)

pub turns_trees : (b : Bank) → b.columns.used.turns ≡ corner_counts (trees b)
turns_trees b = ∥∥₁_elim (trees_held b) (ℕ_set b.columns.used.turns (corner_counts (trees b))) (λ h. h.corners.filled ∙ sym (length_strips (trees b)))

cause_trees : (b : Bank) (o : Option Tree) → cause (trees b) o ≡ cause_by b.columns.parts b.columns.used.rows b.columns.used.turns o
cause_trees b o = cause_held b.columns.parts b.columns.used.rows b.columns.used.turns (trees b) o (parts_trees b) (rows_trees b) (turns_trees b)

-- some trees are held after a seating too
pub still_filled : (c c' : Columns) (o : Option Tree) (r : Result ℕ Refusal) → Judged c o r → ((ts : List Tree) → Held c ts → Placed ts o r c c') → Filled c → Filled c'
still_filled c c' o (Err r) j h f = ∥∥₁_elim f ∥∥₁_prop (λ p. ∣ (p.0, subst (λ d. Held d p.0) (sym (h p.0 p.1)) p.1) ∣₁)
still_filled c c' None (Ok k) j h f = absurd (no_cause_known c.parts c.used.rows c.used.turns j.0)
still_filled c c' (Some t) (Ok k) j h f = ∥∥₁_elim f ∥∥₁_prop (λ p. ∣ (p.0 ++ (t ∷ []), h p.0 p.1 t refl) ∣₁)

gains_one : (b b' : Bank) (o : Option Tree) (k : ℕ) → Judged b.columns o (Ok k) → ((ts : List Tree) → Held b.columns ts → Placed ts o (Ok k) b.columns b'.columns) → Gains b o b'
gains_one b b' None k j h = no_cause_known b.columns.parts b.columns.used.rows b.columns.used.turns j.0
gains_one b b' (Some t) k j h =
    ∥∥₁_elim (trees_held b) (lists_set (trees b') (trees b ++ (t ∷ []))) (λ g. trees_are b' (trees b ++ (t ∷ [])) (h (trees b) g t refl))

pub seated_by_trees : (b b' : Bank) (o : Option Tree) (r : Result ℕ Refusal) → Judged b.columns o r → ((ts : List Tree) → Held b.columns ts → Placed ts o r b.columns b'.columns) → Seated b o r b'
seated_by_trees b b' o (Err r) j h = (
  cause_trees b o ∙ j,
  one_bank b' b (∥∥₁_elim b.filled (columns_set b'.columns b.columns) (λ p. h p.0 p.1)),
)
seated_by_trees b b' o (Ok k) j h = (cause_trees b o ∙ j.0, j.1 ∙ parts_trees b, gains_one b b' o k j h)

-- the trees held after a seating are those that the story of the seatings tells
pub seat_trees : (b b' : Bank) (o : Option Tree) (r : Result ℕ Refusal) → Seated b o r b' → trees b' ≡ seat (trees b) o
seat_trees b b' None (Err r) h = ap trees h.1
seat_trees b b' (Some t) (Err r) h =
    ap trees h.1 ∙ sym (ap (λ (q : Option Refusal). elim q as (λ _. List Tree) [ None ↦ trees b ++ (t ∷ []) | Some n ↦ trees b ]) h.0)
seat_trees b b' None (Ok k) h = absurd h.2
seat_trees b b' (Some t) (Ok k) h =
    h.2 ∙ sym (ap (λ (q : Option Refusal). elim q as (λ _. List Tree) [ None ↦ trees b ++ (t ∷ []) | Some n ↦ trees b ]) h.0)
