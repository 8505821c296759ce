-- What is seated is fair.
use Rattle.std.proofs.Common.{◌≡◌, suc, ◌+◌, ◌<◌, ◌≤◌, Bool, true, false, cond, not, T, ltb, leb, List, [], ◌∷◌, ◌++◌, length, Some, None, Option, sym, refl, ap, subst, arith, nltb→le}
use Rattle.std.proofs.lemmas.Bool.{leb-false}
use Rattle.terms.specs.declared.fault.Refusal.{Refusal}
use Rattle.terms.specs.declared.fault.Refusal.TheVariants.{PartsFull, RowsFull, TooHigh, ColdPosition, CornersFull}
use Rattle.theory.specs.Limits.{greatest_height}
use Rattle.theory.specs.Trees.{Tree, height, size, Lawful}
use Rattle.theory.specs.Stops.{cold}
use Rattle.theory.specs.Fair.{Fair}
use Rattle.theory.specs.Sums.{All}
use Rattle.theory.proofs.Fairness.{cold_warm, fair}
use Rattle.spreading.specs.Order.{sizes}
use Rattle.spreading.specs.Shapes.{row_limit}
use Rattle.encoding.specs.Columns.{part_limit}
use Rattle.stories.specs.Seatings.{corner_limit, corner_count, corner_counts, first_cause, misfit, cause, seat, seated}
use Rattle.stories.specs.Stories.{Meant}
use Rattle.stories.proofs.Places.{none_some}

-- no cause: not this one, and none after it
next : (b : Bool) (n : Refusal) (r : Option Refusal) → cond b (Some n) r ≡ None → (b ≡ false) × (r ≡ None)
next true n r e = none_some n (sym e)
next false n r e = (refl, e)

pub no_cause : (held : List Tree) (x : Tree) → cause held (Some x) ≡ None → Lawful x → Fair x
no_cause held x e l =
    let corners : Option Refusal = first_cause ((ltb corner_limit (corner_counts held + corner_count x), CornersFull) ∷ []) in
    let warmth : Option Refusal = cond (cold x) (Some ColdPosition) corners in
    let heights : Option Refusal = cond (ltb greatest_height (height x)) (Some TooHigh) warmth in
    let a = next (leb part_limit (length held)) PartsFull (misfit held x) e in
    let b = next _ RowsFull heights a.1 in
    let c = next (ltb greatest_height (height x)) TooHigh warmth b.1 in
    let d = next (cold x) ColdPosition corners c.1 in
    fair x l (cold_warm x d.0) (nltb→le greatest_height (height x) (subst (λ b. T (not b)) (sym c.0) tt))

all_snoc : (P : Tree → Type 0) (xs : List Tree) (x : Tree) → All P xs → P x → All P (xs ++ (x ∷ []))
all_snoc P [] x f h = (h, tt)
all_snoc P (y ∷ xs) x f h = (f.0, all_snoc P xs x f.1 h)

seat_fair : (held : List Tree) (x : Tree) → Lawful x → All Fair held → All Fair (seat held (Some x))
seat_fair held x l f = go (cause held (Some x)) refl
  where
    go : (m : Option Refusal) → cause held (Some x) ≡ m → All Fair (elim m [ None ↦ held ++ (x ∷ []) | Some r ↦ held ])
    go None e = all_snoc Fair held x f (no_cause held x e l)
    go (Some n) e = f

pub seated_fair : (held : List Tree) (ms : List (Option Tree)) → Meant ms → All Fair held → All Fair (seated held ms)
seated_fair held [] l f = f
seated_fair held (None ∷ ms) l f = seated_fair held ms l.1 f
seated_fair held (Some x ∷ ms) l f = seated_fair (seat held (Some x)) ms l.1 (seat_fair held x l.0 f)

-- ---- what is seated is not too much
length_snoc : (xs : List Tree) (x : Tree) → length (xs ++ (x ∷ [])) ≡ suc (length xs)
length_snoc [] x = refl
length_snoc (y ∷ xs) x = ap suc (length_snoc xs x)

seat_few : (held : List Tree) (x : Tree) → length held ≤ part_limit → length (seat held (Some x)) ≤ part_limit
seat_few held x h = go (cause held (Some x)) refl
  where
    go : (m : Option Refusal) → cause held (Some x) ≡ m → length {A = Tree} (elim m [ None ↦ held ++ (x ∷ []) | Some r ↦ held ]) ≤ part_limit
    go None e =
        let room : length held < part_limit = leb-false part_limit (length held) (next (leb part_limit (length held)) PartsFull (misfit held x) e).0 in
        omega (arith, length_snoc held x)
    go (Some n) e = h

pub seated_few : (held : List Tree) (ms : List (Option Tree)) → length held ≤ part_limit → length (seated held ms) ≤ part_limit
seated_few held [] h = h
seated_few held (None ∷ ms) h = seated_few held ms h
seated_few held (Some x ∷ ms) h = seated_few (seat held (Some x)) ms (seat_few held x h)
