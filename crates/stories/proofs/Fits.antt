-- The game of a story and its sum go together, call by call.
use Rattle.std.proofs.Common.{◌≡◌, ℕ, ◌<◌, ◌≤◌, min, Bool, true, false, cond, not, T, List, set, ◌≤ℤ◌, Some, None, Ok, Err, Option, Result, sym, refl, ap, ◌∙◌, subst, arith, ltb→lt, nltb→le}
use borrow.Author.Differences.{ints}
use Rattle.terms.specs.declared.side.Side.{Side}
use Rattle.terms.specs.declared.side.Mover.{Mover}
use Rattle.terms.specs.declared.side.Mover.TheVariants as mover
use Rattle.terms.specs.declared.fault.Refusal.{Refusal}
use Rattle.terms.specs.declared.fault.Refusal.TheVariants.{GameOver, NotOurTurn, NotTheirTurn}
use Rattle.terms.specs.Sides.{other}
use Rattle.theory.specs.Trees.{Tree, ended, branch, Ended}
use Rattle.theory.specs.Fair.{Fair}
use Rattle.theory.specs.Walls.{temperature}
use Rattle.theory.specs.Sums.{hottest, All}
use Rattle.theory.proofs.Parts.{all_at}
use Rattle.theory.proofs.Sente as sente
use Rattle.theory.proofs.Plays.{clash}
use Rattle.theory.proofs.Search.{by_bool}
use Rattle.stories.specs.declared.turn.Turn.{Turn}
use Rattle.stories.specs.declared.turn.Turn.TheVariants.{Ours, Theirs, Over}
use Rattle.stories.specs.Calls.{Call, move, reply, ask}
use Rattle.stories.specs.Game.{Game, any_open, turn_to, opening, find, our_pick, their_pick, moved, hotter, cooled, replied, unless_refused, step, floor_at, floor_of, Advises, Settled}
use Rattle.stories.specs.Stories.{Sum, by_move, hand_to, played, or_same}
use Rattle.stories.proofs.Places.{none_some, at_set}
use Rattle.stories.proofs.Moves.{ok_map, ties, found, finds, no_move, all_shut, shut_ended}
use Rattle.stories.proofs.Floors.{settle, Ready, our_move, fair_after, reply_pending, reply_cool}

abbrev pub state : Side → List Tree → Turn → ℕ → Option ℕ → Game
state s xs t a d = record { parts = xs; side = s; turn = t; ambient = a; pending = d }

abbrev pub sum : List Tree → Mover → Sum
sum xs w = record { trees = xs; mover = w }

pub data Fit (s : Side) : Game → Sum → Type 0 where
  fit_over : (xs : List Tree) (w : Mover) (a : ℕ) (d : Option ℕ) → All Fair xs → All Ended xs → Fit s (state s xs Over a d) (sum xs w)
  fit_ours : (xs : List Tree) (a : ℕ) (d : Option ℕ) → All Fair xs → sente.Hottest xs → Ready xs a d → Fit s (state s xs Ours a d) (sum xs mover.Ours)
  fit_theirs : (xs : List Tree) (a : ℕ) → All Fair xs → sente.Hottest xs → Fit s (state s xs Theirs a None) (sum xs mover.Theirs)

to_us : (s : Side) (xs : List Tree) (a : ℕ) (d : Option ℕ) → All Fair xs → (any_open xs ≡ true → Ready xs a d) → Fit s (state s xs (turn_to Ours xs) a d) (sum xs mover.Ours)
to_us s xs a d f r = settle (λ t. Fit s (state s xs t a d) (sum xs mover.Ours)) Ours xs (λ e. fit_over xs mover.Ours a d f e) (λ i h. fit_ours xs a d f h (r i))

to_them : (s : Side) (xs : List Tree) (a : ℕ) → All Fair xs → Fit s (state s xs (turn_to Theirs xs) a None) (sum xs mover.Theirs)
to_them s xs a f = settle (λ t. Fit s (state s xs t a None) (sum xs mover.Theirs)) Theirs xs (λ e. fit_over xs mover.Theirs a None f e) (λ i h. fit_theirs xs a f h)

pub at_opening : (s : Side) (w : Mover) (xs : List Tree) → All Fair xs → Fit s (opening xs s w) (sum xs w)
at_opening s mover.Ours xs f = to_us s xs (hottest xs) None f (λ _. omega arith)
at_opening s mover.Theirs xs f = to_them s xs (hottest xs) f

-- ---- a call
-- in an ended sum, or out of turn
same_move : (s : Side) (xs : List Tree) (p k : ℕ) (w u : Mover) → All Ended xs → or_same (sum xs w) (hand_to u (by_move s xs p k)) ≡ sum xs w
same_move s xs p k w u e = ap (λ m. or_same (sum xs w) (hand_to u m)) (no_move s xs p k e)

over_same : (s : Side) (xs : List Tree) (w : Mover) (c : Call) → All Ended xs → or_same (sum xs w) (played s (sum xs w) c) ≡ sum xs w
over_same s xs mover.Ours (move p k) e = same_move s xs p k mover.Ours mover.Theirs e
over_same s xs mover.Theirs (move p k) e = refl
over_same s xs mover.Ours (reply p k) e = refl
over_same s xs mover.Theirs (reply p k) e = same_move (other s) xs p k mover.Theirs mover.Ours e
over_same s xs mover.Ours (ask q) e = refl
over_same s xs mover.Theirs (ask q) e = refl

over_step : (s : Side) (xs : List Tree) (a : ℕ) (d : Option ℕ) (c : Call) → step (state s xs Over a d) c ≡ state s xs Over a d
over_step s xs a d (move p k) = refl
over_step s xs a d (reply p k) = refl
over_step s xs a d (ask q) = refl

hotter_so : (a : ℕ) (o : Tree) → hotter a o ≡ true → a < temperature o
hotter_so a (ended v) e = absurd (subst T (sym e) tt)
hotter_so a (branch L R) e = ltb→lt a (temperature (branch L R)) (subst T (sym e) tt)

cooler_so : (a : ℕ) (o : Tree) → hotter a o ≡ false → temperature o ≤ a
cooler_so a (ended v) e = sente.ended_cool a (ended v) tt
cooler_so a (branch L R) e = nltb→le a (temperature (branch L R)) (subst (λ b. T (not b)) (sym e) tt)

cooled_ready : (a : ℕ) (xs : List Tree) → any_open xs ≡ true → cooled a xs ≤ hottest xs
cooled_ready a xs i = subst (λ b. cond b (min a (hottest xs)) a ≤ hottest xs) (sym i) (omega arith)

-- our move, by what is found
by_move_lem : (s : Side) (xs : List Tree) (a : ℕ) (d : Option ℕ) (p k : ℕ) → Fit s (state s xs Ours a d) (sum xs mover.Ours) → All Fair xs
    → (r : Result Tree Refusal) → find s xs p k ≡ r
    → Fit s (unless_refused (state s xs Ours a d) (moved (state s xs Ours a d) p) r) (or_same (sum xs mover.Ours) (hand_to mover.Theirs (ok_map (λ o. set xs p o) r)))
by_move_lem s xs a d p k F f (Err n) e = F
by_move_lem s xs a d p k F f (Ok o) e = to_them s (set xs p o) a (fair_after s xs p k o (found s xs p k o e) f)

by_reply_lem : (s : Side) (xs : List Tree) (a : ℕ) (p k : ℕ) → Fit s (state s xs Theirs a None) (sum xs mover.Theirs) → All Fair xs
    → (r : Result Tree Refusal) → find (other s) xs p k ≡ r
    → Fit s (unless_refused (state s xs Theirs a None) (replied (state s xs Theirs a None) p) r) (or_same (sum xs mover.Theirs) (hand_to mover.Ours (ok_map (λ o. set xs p o) r)))
by_reply_lem s xs a p k F f (Err n) e = F
by_reply_lem s xs a p k F f (Ok o) e =
    let ys : List Tree = set xs p o in
    let W = found (other s) xs p k o e in
    let fs = fair_after (other s) xs p k o W f in
    let g : Bool → Game = λ b. cond b (state s ys (turn_to Ours ys) a (Some p)) (state s ys (turn_to Ours ys) (cooled a ys) None) in
    by_bool (hotter a o)
    (λ h. subst (λ b. Fit s (g b) (sum ys mover.Ours)) (sym h)
    (to_us s ys a (Some p) fs (λ _. (o, at_set xs p W.tree o W.place, hotter_so a o h))))
    (λ h. subst (λ b. Fit s (g b) (sum ys mover.Ours)) (sym h) (to_us s ys (cooled a ys) None fs (cooled_ready a ys)))

pub fit_step : (s : Side) (g : Game) (z : Sum) (c : Call) → Fit s g z → Fit s (step g c) (or_same z (played s z c))
fit_step s g z c (fit_over xs w a d f e) =
    subst (λ y. Fit s (step (state s xs Over a d) c) y) (sym (over_same s xs w c e))
    (subst (λ h. Fit s h (sum xs w)) (sym (over_step s xs a d c)) (fit_over xs w a d f e))
fit_step s g z (move p k) (fit_ours xs a d f h r) =
    subst (λ m. Fit s (step (state s xs Ours a d) (move p k)) (or_same (sum xs mover.Ours) (hand_to mover.Theirs m))) (sym (ties s xs p k))
    (by_move_lem s xs a d p k (fit_ours xs a d f h r) f (find s xs p k) refl)
fit_step s g z (reply p k) (fit_ours xs a d f h r) = fit_ours xs a d f h r
fit_step s g z (ask q) (fit_ours xs a d f h r) = fit_ours xs a d f h r
fit_step s g z (move p k) (fit_theirs xs a f h) = fit_theirs xs a f h
fit_step s g z (reply p k) (fit_theirs xs a f h) =
    subst (λ m. Fit s (step (state s xs Theirs a None) (reply p k)) (or_same (sum xs mover.Theirs) (hand_to mover.Ours m))) (sym (ties (other s) xs p k))
    (by_reply_lem s xs a p k (fit_theirs xs a f h) f (find (other s) xs p k) refl)
fit_step s g z (ask q) (fit_theirs xs a f h) = fit_theirs xs a f h

-- ---- the floor never falls
abbrev pub IsOurs : Turn → Type 0
IsOurs Ours = Unit {0}
IsOurs Theirs = ⊥
IsOurs Over = ⊥

pub not_ours_lem : {P : Type 0} (t : Turn) → (IsOurs t → ⊥) → t ≡ Ours → P
not_ours_lem t n e = absurd (n (subst IsOurs (sym e) tt))

pub advised_keeps : (s : Side) (g : Game) (z : Sum) (p k : ℕ) → Fit s g z → Advises g p k → floor_of g ≤ℤ floor_of (step g (move p k))
advised_keeps s g z p k (fit_over xs w a d f e) A = not_ours_lem Over (λ i. i) A.turn
advised_keeps s g z p k (fit_theirs xs a f h) A = not_ours_lem Theirs (λ i. i) A.turn
advised_keeps s g z p k (fit_ours xs a d f h r) A =
    let e = finds s xs p k A.tree A.option.item A.there A.option.there in
    subst (λ m. floor_at s xs Ours a d ≤ℤ floor_of (unless_refused (state s xs Ours a d) (moved (state s xs Ours a d) p) m)) (sym e)
    (our_move s xs a d p k A.tree A.option f r A.main A.there)

by_their : (s : Side) (xs : List Tree) (a : ℕ) (p k : ℕ) → All Fair xs → (r : Result Tree Refusal) → find (other s) xs p k ≡ r
    → floor_at s xs Theirs a None ≤ℤ floor_of (unless_refused (state s xs Theirs a None) (replied (state s xs Theirs a None) p) r)
by_their s xs a p k f (Err n) e = omega (arith, ints)
by_their s xs a p k f (Ok o) e =
    let ys : List Tree = set xs p o in
    let W = found (other s) xs p k o e in
    let g : Bool → Game = λ b. cond b (state s ys (turn_to Ours ys) a (Some p)) (state s ys (turn_to Ours ys) (cooled a ys) None) in
    by_bool (hotter a o)
    (λ h. subst (λ b. floor_at s xs Theirs a None ≤ℤ floor_of (g b)) (sym h) (reply_pending s xs a p k o W f))
    (λ h. subst (λ b. floor_at s xs Theirs a None ≤ℤ floor_of (g b)) (sym h) (reply_cool s xs a p k o W f (cooler_so a o h)))

pub reply_keeps : (s : Side) (g : Game) (z : Sum) (p k : ℕ) → Fit s g z → floor_of g ≤ℤ floor_of (step g (reply p k))
reply_keeps s g z p k (fit_over xs w a d f e) = omega (arith, ints)
reply_keeps s g z p k (fit_ours xs a d f h r) = omega (arith, ints)
reply_keeps s g z p k (fit_theirs xs a f h) = by_their s xs a p k f (find (other s) xs p k) refl

-- ---- refused calls
abbrev Made : Option Sum → Type 0
Made None = ⊥
Made (Some z) = Unit {0}

by_none : (g : Game) (f : Tree → Game) (xs : List Tree) (u : Mover) (p : ℕ) (r : Result Tree Refusal) → hand_to u (ok_map (λ o. set xs p o) r) ≡ None → unless_refused g f r ≡ g
by_none g f xs u p (Err n) e = refl
by_none g f xs u p (Ok o) e = absurd (subst Made e tt)

pub refused_same : (s : Side) (g : Game) (z : Sum) (p k : ℕ) → Fit s g z → played s z (move p k) ≡ None → step g (move p k) ≡ g
refused_same s g z p k (fit_over xs w a d f e) h = refl
refused_same s g z p k (fit_theirs xs a f i) h = refl
refused_same s g z p k (fit_ours xs a d f i r) h =
    by_none (state s xs Ours a d) (moved (state s xs Ours a d) p) xs mover.Theirs p (find s xs p k) (ap (hand_to mover.Theirs) (sym (ties s xs p k)) ∙ h)

pub refused_reply : (s : Side) (g : Game) (z : Sum) (p k : ℕ) → Fit s g z → played s z (reply p k) ≡ None → step g (reply p k) ≡ g
refused_reply s g z p k (fit_over xs w a d f e) h = refl
refused_reply s g z p k (fit_ours xs a d f i r) h = refl
refused_reply s g z p k (fit_theirs xs a f i) h =
    by_none (state s xs Theirs a None) (replied (state s xs Theirs a None) p) xs mover.Ours p (find (other s) xs p k) (ap (hand_to mover.Ours) (sym (ties (other s) xs p k)) ∙ h)

-- ---- the picks are the moves
pub record Pick (m : Option Sum) (r : Result Tree Refusal) : Type 0 where
  pub taken : (z : Sum) → m ≡ Some z → (o : Tree) × (r ≡ Ok o)
  pub not_taken : m ≡ None → (n : Refusal) × (r ≡ Err n)

pick_found : (xs : List Tree) (u : Mover) (p : ℕ) (r : Result Tree Refusal) → Pick (hand_to u (ok_map (λ o. set xs p o) r)) r
pick_found xs u p (Err n) = record { taken = λ z e. none_some z e; not_taken = λ e. (n, refl) }
pick_found xs u p (Ok o) = record { taken = λ z e. (o, refl); not_taken = λ e. absurd (subst Made e tt) }

pick_none : (m : Option Sum) (n : Refusal) → m ≡ None → Pick m (Err n)
pick_none m n h = record { taken = λ z e. none_some z (sym h ∙ e); not_taken = λ e. (n, refl) }

over_none : (s : Side) (xs : List Tree) (w : Mover) (p k : ℕ) → All Ended xs → (played s (sum xs w) (move p k) ≡ None) × (played s (sum xs w) (reply p k) ≡ None)
over_none s xs mover.Ours p k e = (ap (hand_to mover.Theirs) (no_move s xs p k e), refl)
over_none s xs mover.Theirs p k e = (refl, ap (hand_to mover.Ours) (no_move (other s) xs p k e))

pub our_pick_lem : (s : Side) (g : Game) (z : Sum) (p k : ℕ) → Fit s g z → Pick (played s z (move p k)) (our_pick g p k)
our_pick_lem s g z p k (fit_over xs w a d f e) = pick_none (played s (sum xs w) (move p k)) GameOver (over_none s xs w p k e).0
our_pick_lem s g z p k (fit_theirs xs a f h) = pick_none None NotOurTurn refl
our_pick_lem s g z p k (fit_ours xs a d f h r) =
    subst (λ m. Pick (hand_to mover.Theirs m) (find s xs p k)) (sym (ties s xs p k)) (pick_found xs mover.Theirs p (find s xs p k))

pub their_pick_lem : (s : Side) (g : Game) (z : Sum) (p k : ℕ) → Fit s g z → Pick (played s z (reply p k)) (their_pick g p k)
their_pick_lem s g z p k (fit_over xs w a d f e) = pick_none (played s (sum xs w) (reply p k)) GameOver (over_none s xs w p k e).1
their_pick_lem s g z p k (fit_ours xs a d f h r) = pick_none None NotTheirTurn refl
their_pick_lem s g z p k (fit_theirs xs a f h) =
    subst (λ m. Pick (hand_to mover.Ours m) (find (other s) xs p k)) (sym (ties (other s) xs p k)) (pick_found xs mover.Ours p (find (other s) xs p k))

-- ---- the parts, and the turn that is over
pub record Ends (g : Game) (z : Sum) : Type 0 where
  pub parts : g.parts ≡ z.trees
  pub over : g.turn ≡ Over → All Ended z.trees
  pub ended : All Ended z.trees → g.turn ≡ Over
  pub settled : Settled g

some_left : {P : Type 0} (xs : List Tree) → sente.Hottest xs → All Ended xs → P
some_left xs (x, q, i, c) e = absurd (clash x i (all_at Ended q e))

going_on : (s : Side) (xs : List Tree) (t : Turn) (a : ℕ) (d : Option ℕ) (w : Mover) → (t ≡ Over → ⊥) → sente.Hottest xs → Ends (state s xs t a d) (sum xs w)
going_on s xs t a d w n h = record {
  parts = refl;
  over = λ e. absurd (n e);
  ended = λ e. some_left xs h e;
  settled = record { over = λ e. absurd (n e); shut = λ e. some_left xs h (shut_ended xs e) };
}

abbrev IsOver : Turn → Type 0
IsOver Ours = ⊥
IsOver Theirs = ⊥
IsOver Over = Unit {0}

pub fit_ends : (s : Side) (g : Game) (z : Sum) → Fit s g z → Ends g z
fit_ends s g z (fit_over xs w a d f e) = record {
  parts = refl;
  over = λ _. e;
  ended = λ _. refl;
  settled = record { over = λ _. all_shut xs e; shut = λ _. refl };
}
fit_ends s g z (fit_ours xs a d f h r) = going_on s xs Ours a d mover.Ours (λ e. subst IsOver (sym e) tt) h
fit_ends s g z (fit_theirs xs a f h) = going_on s xs Theirs a None mover.Theirs (λ e. subst IsOver (sym e) tt) h
