-- The play goes on: there is an advised move, only one, and it is a move; they have a move; each move shortens what is left.
use Rattle.std.proofs.Common.{◌≡◌, ℕ, ◌+◌, ◌<◌, ◌≤◌, List, set, ℤ, Some, None, Ok, Err, Option, Result, sym, refl, ap, ◌∙◌, subst, inl, arith}
use native.Mathlib.Decide.{dec_lt}
use borrow.Author.Differences.{ints}
use Rattle.terms.specs.declared.side.Side.{Side}
use Rattle.terms.specs.declared.side.Mover.{Mover}
use Rattle.terms.specs.declared.side.Mover.TheVariants as mover
use Rattle.terms.specs.declared.fault.Refusal.{Refusal}
use Rattle.terms.specs.Sides.{other}
use Rattle.theory.specs.Trees.{Tree, options, at, height, Open, Ended}
use Rattle.theory.specs.Sums.{Part, span, All}
use Rattle.theory.proofs.Parts.{span_put}
use Rattle.theory.proofs.Sente as sente
use Rattle.theory.proofs.Plays.{option_lower}
use Rattle.stories.specs.declared.turn.Turn.TheVariants.{Ours, Theirs, Over}
use Rattle.stories.specs.Calls.{Call, move, reply, ask}
use Rattle.stories.specs.Game.{First, Any, heat, Game, find, near, Main, Advises}
use Rattle.stories.specs.Stories.{Sum, by_move, hand_to, played, or_same, count_if}
use Rattle.stories.proofs.Places.{some_same, place, number, leads}
use Rattle.stories.proofs.Moves.{ok_map, ties, found, finds, open_or}
use Rattle.stories.proofs.Floors.{Ready}
use Rattle.stories.proofs.Fits.{state, sum, Fit, fit_over, fit_ours, fit_theirs, not_ours_lem}

abbrev IsWe : Mover → Type 0
IsWe mover.Ours = Unit {0}
IsWe mover.Theirs = ⊥

-- ---- an advised move
option_of : (s : Side) (x : Tree) → Open x → (o : Tree) × Part o (options x s)
option_of s x i = let (o, q, e) = sente.best s x 0 i (omega arith) in (o, q)

advise : (s : Side) (xs : List Tree) (a : ℕ) (d : Option ℕ) (p : ℕ) (x : Tree) → Main xs d p → at xs p ≡ Some x → Open x
    → (q : ℕ) × (k : ℕ) × Advises (state s xs Ours a d) q k
advise s xs a d p x m e i =
    let (o, l) = option_of s x i in
    let (k, F) = leads Any (near s a) (λ _. inl tt) (options x s) o l tt in
    (p, k, record { turn = refl; main = m; tree = x; there = e; option = F })

choose_main : (s : Side) (xs : List Tree) (a : ℕ) (d : Option ℕ) → sente.Hottest xs → Ready xs a d → (q : ℕ) × (k : ℕ) × Advises (state s xs Ours a d) q k
choose_main s xs a None (x, q, i, c) r =
    let (p, F) = leads Open heat open_or xs x q i in advise s xs a None p F.item F F.there F.counts
choose_main s xs a (Some p) h (x, e, l) = advise s xs a (Some p) p x refl e (sente.hot_open x a l)

pub one_advised : (s : Side) (g : Game) (z : Sum) → Fit s g z → z.mover ≡ mover.Ours → (All Ended z.trees → ⊥) → (p : ℕ) × (k : ℕ) × Advises g p k
one_advised s g z (fit_over xs w a d f e) m n = absurd (n e)
one_advised s g z (fit_ours xs a d f h r) m n = choose_main s xs a d h r
one_advised s g z (fit_theirs xs a f h) m n = absurd (subst IsWe (sym m) tt)

pub advised_moves : (s : Side) (g : Game) (z : Sum) (p k : ℕ) → Fit s g z → Advises g p k → (y : Sum) × (played s z (move p k) ≡ Some y)
advised_moves s g z p k (fit_over xs w a d f e) A = not_ours_lem Over (λ i. i) A.turn
advised_moves s g z p k (fit_theirs xs a f h) A = not_ours_lem Theirs (λ i. i) A.turn
advised_moves s g z p k (fit_ours xs a d f h r) A =
    let e = finds s xs p k A.tree A.option.item A.there A.option.there in
    (sum (set xs p A.option.item) mover.Theirs, ap (hand_to mover.Theirs) (ties s xs p k ∙ ap (ok_map (λ o. set xs p o)) e))

pub they_move : (s : Side) (g : Game) (z : Sum) → Fit s g z → z.mover ≡ mover.Theirs → (All Ended z.trees → ⊥)
    → (p : ℕ) × (k : ℕ) × ((y : Sum) × (played s z (reply p k) ≡ Some y))
they_move s g z (fit_over xs w a d f e) m n = absurd (n e)
they_move s g z (fit_ours xs a d f h r) m n = absurd (subst IsWe m tt)
they_move s g z (fit_theirs xs a f (x, q, i, c)) m n =
    let (o, l) = option_of (other s) x i in
    let (p, e) = number q in
    let (k, u) = number l in
    let t = finds (other s) xs p k x o e u in
    (p, k, (sum (set xs p o) mover.Ours, ap (hand_to mover.Ours) (ties (other s) xs p k ∙ ap (ok_map (λ o. set xs p o)) t)))

-- ---- only one
first_first : {A : Type 0} (C : A → Type 0) (f : A → ℤ) (xs : List A) (p q : ℕ) → First C f xs p → First C f xs q → p < q → ⊥
first_first C f xs p q F G l = omega (arith, ints, G.lowest p F.item F.there F.counts l, F.most q G.item G.there G.counts)

first_only : {A : Type 0} (C : A → Type 0) (f : A → ℤ) (xs : List A) (p q : ℕ) → First C f xs p → First C f xs q → p ≡ q
first_only C f xs p q F G =
    elim (dec_lt p q) [
      | yes l ↦ absurd (first_first C f xs p q F G l)
      | no n ↦ elim (dec_lt q p) [ yes l ↦ absurd (first_first C f xs q p G F l) | no m ↦ omega arith ]
    ]

main_only : (xs : List Tree) (d : Option ℕ) (p q : ℕ) → Main xs d p → Main xs d q → p ≡ q
main_only xs None p q m n = first_only Open heat xs p q m n
main_only xs (Some r) p q m n = m ∙ sym n

pub advised_only : (g : Game) (p k q j : ℕ) → Advises g p k → Advises g q j → (p ≡ q) × (k ≡ j)
advised_only g p k q j A B =
    let e = main_only g.parts g.pending p q A.main B.main in
    let t : A.tree ≡ B.tree = some_same A.tree B.tree (sym A.there ∙ ap (at g.parts) e ∙ B.there) in
    let F = subst (λ x. First Any (near g.side g.ambient) (options x g.side) k) t A.option in
    (e, first_only Any (near g.side g.ambient) (options B.tree g.side) k j F B.option)

-- ---- shorter
by_found : (s : Side) (xs : List Tree) (p k : ℕ) (u w : Mover) (r : Result Tree Refusal) → find s xs p k ≡ r
    → count_if (hand_to u (ok_map (λ o. set xs p o) r)) + span (or_same (sum xs w) (hand_to u (ok_map (λ o. set xs p o) r))).trees ≤ span xs
by_found s xs p k u w (Err n) e = omega arith
by_found s xs p k u w (Ok o) e =
    let F = found s xs p k o e in
    let P = place xs p F.tree F.place in
    let l = option_lower s F.tree o (place (options F.tree s) k o F.option).part in
    let h : span (set xs p o) + height F.tree ≡ span xs + height o = subst (λ zs. span zs + height F.tree ≡ span xs + height o) (P.sets o) (span_put P.part o) in
    omega arith

by_call : (s : Side) (xs : List Tree) (p k : ℕ) (u w : Mover)
    → count_if (hand_to u (by_move s xs p k)) + span (or_same (sum xs w) (hand_to u (by_move s xs p k))).trees ≤ span xs
by_call s xs p k u w =
    subst (λ m. count_if (hand_to u m) + span (or_same (sum xs w) (hand_to u m)).trees ≤ span xs) (sym (ties s xs p k))
    (by_found s xs p k u w (find s xs p k) refl)

pub shorter : (s : Side) (xs : List Tree) (w : Mover) (c : Call)
    → count_if (played s (sum xs w) c) + span (or_same (sum xs w) (played s (sum xs w) c)).trees ≤ span xs
shorter s xs mover.Ours (move p k) = by_call s xs p k mover.Theirs mover.Ours
shorter s xs mover.Theirs (move p k) = omega arith
shorter s xs mover.Ours (reply p k) = omega arith
shorter s xs mover.Theirs (reply p k) = by_call (other s) xs p k mover.Ours mover.Theirs
shorter s xs mover.Ours (ask q) = omega arith
shorter s xs mover.Theirs (ask q) = omega arith
