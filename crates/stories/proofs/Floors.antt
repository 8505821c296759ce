-- The floor, step by step: it never falls.
use Rattle.std.proofs.Common.{◌≡◌, ℕ, zero, suc, ◌<◌, ◌≤◌, min, true, cond, List, [], ◌∷◌, set, ℤ, pos, ◌+ℤ◌, ◌-ℤ◌, neg_ℤ, ◌≤ℤ◌, Some, None, Option, sym, refl, ap, ◌∙◌, subst, inl, inr, arith}
use borrow.Author.Differences.{ints}
use Rattle.terms.specs.declared.side.Side.{Side}
use Rattle.terms.specs.declared.side.Side.TheVariants.{Left, Right}
use Rattle.terms.specs.Sides.{other}
use Rattle.theory.specs.Trees.{Tree, options, at, Ended}
use Rattle.theory.specs.Fair.{Fair}
use Rattle.theory.specs.Walls.{wall, temperature}
use Rattle.theory.specs.Sums.{Part, put, sum_of, hottest, All}
use Rattle.theory.specs.Sente.{idle, pending, theirs as waiting, Best, wall_sum, floor}
use Rattle.theory.proofs.Parts.{sum_put, all_put, all_at}
use Rattle.theory.proofs.Sente as sente
use Rattle.theory.proofs.Plays.{keeps, their_option, floor_ended}
use Rattle.theory.proofs.Floors.{all_cool}
use Rattle.stories.specs.declared.turn.Turn.{Turn}
use Rattle.stories.specs.declared.turn.Turn.TheVariants.{Ours, Theirs, Over}
use Rattle.stories.specs.Game.{First, Any, any_open, turn_to, near, far, near_walls, near_walls_but, floor_here, floor_at, cooled, Main}
use Rattle.stories.proofs.Places.{none_some, some_same, place, number, at_set}
use Rattle.stories.proofs.Moves.{Found, all_shut, some_open, option_open, hottest_under, open_under}

-- ---- near and far
pub near_is : (s : Side) (a : ℕ) (x : Tree) → near s a x ≡ neg_ℤ (wall x (other s) a)
near_is Left a x = refl
near_is Right a x = refl

far_is : (s : Side) (a : ℕ) (x : Tree) → far s a x ≡ wall x s a
far_is Left a x = refl
far_is Right a x = omega (arith, ints)

pub near_sum : (s : Side) (a : ℕ) (xs : List Tree) → near_walls s a xs ≡ neg_ℤ (wall_sum (other s) a xs)
near_sum s a [] = refl
near_sum s a (x ∷ xs) = omega (arith, ints, near_is s a x, near_sum s a xs)

pub but_sum : (s : Side) (a : ℕ) (xs : List Tree) (p : ℕ) (x : Tree) → at xs p ≡ Some x
    → near_walls_but s a xs p ≡ ((wall x s a +ℤ wall x (other s) a) -ℤ wall_sum (other s) a xs)
but_sum s a [] p x e = none_some x e
but_sum s a (y ∷ xs) zero x e =
    let E : Tree → Type 0 = λ z. near_walls_but s a (y ∷ xs) zero ≡ ((wall z s a +ℤ wall z (other s) a) -ℤ wall_sum (other s) a (y ∷ xs)) in
    let k : E y = omega (arith, ints, far_is s a y, near_sum s a xs) in
    subst E (some_same y x e) k
but_sum s a (y ∷ xs) (suc p) x e = omega (arith, ints, near_is s a y, but_sum s a xs p x e)

-- ---- the turn comes to t, or it is over
pub settle : (P : Turn → Type 0) (t : Turn) (xs : List Tree) → (All Ended xs → P Over) → (any_open xs ≡ true → sente.Hottest xs → P t) → P (turn_to t xs)
settle P t xs f g =
    elim (sente.hot xs) [
      | inl e ↦ subst (λ b. P (cond b t Over)) (sym (all_shut xs e)) (f e)
      | inr h ↦ let i = some_open h.1 h.2 in subst (λ b. P (cond b t Over)) (sym i) (g i h)
    ]

settle_Theirs : (s : Side) (a : ℕ) (xs : List Tree) → All Fair xs → floor s a xs waiting ≤ℤ floor_at s xs (turn_to Theirs xs) a None
settle_Theirs s a xs f =
    settle (λ t. floor s a xs waiting ≤ℤ floor_at s xs t a None) Theirs xs (λ e. floor_ended s a xs waiting f e)
    (λ i h. omega (arith, ints, near_sum s a xs))

settle_idle : (s : Side) (a : ℕ) (xs : List Tree) → All Fair xs → floor s a xs idle ≤ℤ floor_at s xs (turn_to Ours xs) (cooled a xs) None
settle_idle s a xs f =
    settle (λ t. floor s a xs idle ≤ℤ floor_at s xs t (cooled a xs) None) Ours xs (λ e. floor_ended s a xs idle f e)
    (λ i h. subst (λ b. floor s a xs idle ≤ℤ near_walls s (cond b (min a (hottest xs)) a) xs) (sym i)
    (omega (arith, ints, near_sum s (min a (hottest xs)) xs, sente.cool_same (other s) a (hottest xs) xs (all_cool (hottest xs) xs (omega arith)))))

settle_pending : (s : Side) (a : ℕ) (xs : List Tree) (p : ℕ) (x : Tree) (q : Part x xs) → at xs p ≡ Some x → All Fair xs
    → floor s a xs (pending q) ≤ℤ floor_at s xs (turn_to Ours xs) a (Some p)
settle_pending s a xs p x q e f =
    settle (λ t. floor s a xs (pending q) ≤ℤ floor_at s xs t a (Some p)) Ours xs (λ e. floor_ended s a xs (pending q) f e)
    (λ i h. omega (arith, ints, but_sum s a xs p x e))

-- ---- our move as advised
-- what is known at our turn
abbrev pub Ready : List Tree → ℕ → Option ℕ → Type 0
Ready xs a None = a ≤ hottest xs
Ready xs a (Some p) = (x : Tree) × (at xs p ≡ Some x) × (a < temperature x)

best_is : (s : Side) (a : ℕ) (x : Tree) (k : ℕ) → (F : First Any (near s a) (options x s) k) → Best s x F.item a
best_is s a x k F = record {
  legal = (place (options x s) k F.item F.there).part;
  top = λ q l. let (j, e) = number l in omega (arith, ints, F.most j q e tt, near_is s a q, near_is s a F.item);
}

-- the part to move in is no cooler than the ambient
main_hot : (xs : List Tree) (a : ℕ) (d : Option ℕ) (p : ℕ) (x : Tree) → Ready xs a d → Main xs d p → at xs p ≡ Some x → a ≤ temperature x
main_hot xs a None p x r m e =
    let same : m.item ≡ x = some_same m.item x (sym m.there ∙ e) in
    let h : hottest xs ≤ temperature m.item =
    hottest_under xs (temperature m.item) (λ q y k. open_under y (temperature m.item) (λ i. omega (arith, ints, m.most q y k i))) in
    subst (λ z. a ≤ temperature z) same (omega arith)
main_hot xs a (Some q) p x (y, k, l) m e =
    let same : y ≡ x = some_same y x (sym k ∙ ap (at xs) (sym m) ∙ e) in
    subst (λ z. a ≤ temperature z) same (omega arith)

-- what mover.Ours have before it is at most what is there with the part pending
main_floor : (s : Side) (xs : List Tree) (a : ℕ) (d : Option ℕ) (p : ℕ) (x : Tree) (q : Part x xs) → All Fair xs → Main xs d p → at xs p ≡ Some x
    → floor_here s a xs d ≤ℤ floor s a xs (pending q)
main_floor s xs a None p x q f m e = omega (arith, ints, near_sum s a xs, sente.both s x a (all_at Fair q f))
main_floor s xs a (Some r) p x q f m e = omega (arith, ints, but_sum s a xs r x (ap (at xs) (sym m) ∙ e))

pub our_move : (s : Side) (xs : List Tree) (a : ℕ) (d : Option ℕ) (p k : ℕ) (x : Tree) (F : First Any (near s a) (options x s) k)
    → All Fair xs → Ready xs a d → Main xs d p → at xs p ≡ Some x
    → floor_here s a xs d ≤ℤ floor_at s (set xs p F.item) (turn_to Theirs (set xs p F.item)) a None
our_move s xs a d p k x F f r m e =
    let P = place xs p x e in
    let q = P.part in
    let o : Tree = F.item in
    let ys : List Tree = set xs p o in
    let b = best_is s a x k F in
    let g = all_at Fair q f in
    let fs : All Fair ys = subst (All Fair) (P.sets o) (all_put Fair q o (sente.option_fair s x o b.legal g).1 f) in
    let w : ℤ = floor_at s ys (turn_to Theirs ys) a None in
    let l : floor s a (put q o) waiting ≤ℤ w = subst (λ zs. floor s a zs waiting ≤ℤ w) (sym (P.sets o)) (settle_Theirs s a ys fs) in
    let n = keeps s q o a w g (option_open s x k o F.there) (main_hot xs a d p x r m e) b l in
    omega (arith, ints, main_floor s xs a d p x q f m e)

-- ---- their reply
pub fair_after : (s : Side) (xs : List Tree) (p k : ℕ) (o : Tree) → Found s xs p k o → All Fair xs → All Fair (set xs p o)
fair_after s xs p k o F f =
    let P = place xs p F.tree F.place in
    let q = (place (options F.tree s) k o F.option).part in
    subst (All Fair) (P.sets o) (all_put Fair P.part o (sente.option_fair s F.tree o q (all_at Fair P.part f)).1 f)

-- the part in which mover.Theirs moved, as if pending
reply_floor : (s : Side) (xs : List Tree) (a : ℕ) (p k : ℕ) (o : Tree) (F : Found (other s) xs p k o) → All Fair xs
    → (near_walls s a xs -ℤ pos a) ≤ℤ floor s a (set xs p o) (pending (place (set xs p o) p o (at_set xs p F.tree o F.place)).part)
reply_floor s xs a p k o F f =
    let x : Tree = F.tree in
    let P = place xs p x F.place in
    let l = (place (options x (other s)) k o F.option).part in
    let c : (sum_of (λ y. wall y (other s) a) (set xs p o) +ℤ wall x (other s) a) ≡ (sum_of (λ y. wall y (other s) a) xs +ℤ wall o (other s) a) =
    subst (λ zs. (sum_of (λ y. wall y (other s) a) zs +ℤ wall x (other s) a) ≡ (sum_of (λ y. wall y (other s) a) xs +ℤ wall o (other s) a)) (P.sets o)
    (sum_put (λ y. wall y (other s) a) P.part o) in
    omega (arith, ints, near_sum s a xs, c, their_option s x o a (all_at Fair P.part f) l)

pub reply_pending : (s : Side) (xs : List Tree) (a : ℕ) (p k : ℕ) (o : Tree) → Found (other s) xs p k o → All Fair xs
    → (near_walls s a xs -ℤ pos a) ≤ℤ floor_at s (set xs p o) (turn_to Ours (set xs p o)) a (Some p)
reply_pending s xs a p k o F f =
    let e = at_set xs p F.tree o F.place in
    omega (
      arith,
      ints,
      reply_floor s xs a p k o F f,
      settle_pending s a (set xs p o) p o (place (set xs p o) p o e).part e (fair_after (other s) xs p k o F f),
    )

pub reply_cool : (s : Side) (xs : List Tree) (a : ℕ) (p k : ℕ) (o : Tree) → Found (other s) xs p k o → All Fair xs → temperature o ≤ a
    → (near_walls s a xs -ℤ pos a) ≤ℤ floor_at s (set xs p o) (turn_to Ours (set xs p o)) (cooled a (set xs p o)) None
reply_cool s xs a p k o F f h =
    let e = at_set xs p F.tree o F.place in
    let fs = fair_after (other s) xs p k o F f in
    omega (
      arith,
      ints,
      reply_floor s xs a p k o F f,
      sente.mast s o a (all_at Fair (place (set xs p o) p o e).part fs) h,
      settle_idle s a (set xs p o) fs,
    )
