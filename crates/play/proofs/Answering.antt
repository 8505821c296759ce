-- Floor, bracket and the advised part, by the figures of the parts.
use Rattle.std.proofs.Common.{◌≡◌, ℕ, zero, suc, ◌+◌, ◌<◌, Bool, true, false, cond, List, [], ◌∷◌, ◌++◌, map, length, get_or, take, ℤ, pos, ◌+ℤ◌, ◌-ℤ◌, Some, None, Option, Result, unwrap_or, sym, refl, ap, ◌∙◌, subst, arith}
use borrow.Author.Differences.{ints}
use Rattle.std.proofs.lemmas.List.{take_more}
use Rattle.terms.specs.declared.side.Side.{Side}
use Rattle.terms.specs.declared.side.Side.TheVariants.{Left, Right}
use Rattle.terms.specs.declared.fault.Refusal.{Refusal}
use Rattle.terms.specs.Sides.{other}
use Rattle.theory.specs.Trees.{Tree, at}
use Rattle.theory.specs.Walls.{mean}
use Rattle.theory.specs.Sums.{sum_of, hottest, low, high}
use Rattle.stories.specs.declared.turn.Turn.{Turn}
use Rattle.stories.specs.declared.turn.Turn.TheVariants.{Ours, Theirs, Over}
use Rattle.stories.specs.Game.{Game, any_open, near, far, near_walls, near_walls_but, floor_here, floor_at, bracket_at, Main, Settled, not_ours}
use Rattle.stories.proofs.Places.{none_some, some_same}
use Rattle.stories.proofs.Moves.{shut_cool, shut_ended}
use Rattle.stories.proofs.Openings.{ended_near, ended_means}
use Rattle.play.specs.declared.record.Play.{Play}
use Rattle.play.specs.declared.leads.Lead.{Lead}
use Rattle.play.specs.Standing.{present, game_of}
use Rattle.play.specs.Leads.{HottestOf}
use Rattle.play.specs.Answers.{sum_z, floor_by, bracket_by, bracket_to, part_by, advised_by, GainIs, FloorIs, BracketIs, MainOf, PartIs}

-- ---- sums of figures
pub sum_none : sum_z [] ≡ pos 0
unfolding sum_z
sum_none = refl

sum_push : (vs : List ℤ) (v : ℤ) → sum_z (vs ++ (v ∷ [])) ≡ (sum_z vs +ℤ v)
unfolding sum_z
sum_push [] v = omega (arith, ints)
sum_push (w ∷ vs) v = omega (arith, ints, sum_push vs v)

pub sum_more : (vs : List ℤ) (i : ℕ) → i < length vs → sum_z (take (i + 1) vs) ≡ (sum_z (take i vs) +ℤ get_or vs i (pos 0))
sum_more vs i l = ap sum_z (take_more vs i (pos 0) l) ∙ sum_push (take i vs) (get_or vs i (pos 0))

sum_map : (f : Tree → ℤ) (xs : List Tree) → sum_z (map f xs) ≡ sum_of f xs
unfolding sum_z
sum_map f [] = refl
sum_map f (x ∷ xs) = ap (λ v. f x +ℤ v) (sum_map f xs)

sum_is : (f : Tree → ℤ) (xs : List Tree) (vs : List ℤ) → vs ≡ map f xs → sum_z vs ≡ sum_of f xs
sum_is f xs vs e = ap sum_z e ∙ sum_map f xs

-- ---- the floor
but_gain : (s : Side) (a : ℕ) (xs : List Tree) (p : ℕ) (x : Tree) → at xs p ≡ Some x
    → near_walls_but s a xs p ≡ (near_walls s a xs +ℤ (far s a x -ℤ near s a x))
but_gain s a [] p x e = none_some x e
but_gain s a (y ∷ xs) zero x e =
    let E : Tree → Type 0 = λ z. near_walls_but s a (y ∷ xs) zero ≡ (near_walls s a (y ∷ xs) +ℤ (far s a z -ℤ near s a z)) in
    let k : E y = omega (arith, ints) in
    subst E (some_same y x e) k
but_gain s a (y ∷ xs) (suc p) x e = omega (arith, ints, but_gain s a xs p x e)

here_gain : (s : Side) (a : ℕ) (xs : List Tree) (d : Option ℕ) (v : ℤ) → GainIs s a xs d v → floor_here s a xs d ≡ (near_walls s a xs +ℤ v)
here_gain s a xs None v e = omega (arith, ints)
here_gain s a xs (Some p) v (x, e, q) = omega (arith, ints, but_gain s a xs p x e)

floor_by_lem : (s : Side) (a : ℕ) (xs : List Tree) (d : Option ℕ) (v : ℤ) (t : Turn) → (t ≡ Over → any_open xs ≡ false) → GainIs s a xs d v
    → floor_by t (near_walls s a xs) v a ≡ floor_at s xs t a d
floor_by_lem s a xs d v Ours h e = sym (here_gain s a xs d v e)
floor_by_lem s a xs d v Theirs h e = refl
floor_by_lem s a xs d v Over h e = ended_near s a xs (shut_ended xs (h refl))

pub floor_so : (y : Play) (nears : List ℤ) (gain r : ℤ) (t : Turn) → y.turn ≡ t → r ≡ floor_by t (sum_z nears) gain y.ambient → FloorIs y nears gain r
floor_so y nears gain r t i e ts s S n g =
    let xs : List Tree = present ts y.rows in
    e ∙ ap (λ u. floor_by u (sum_z nears) gain y.ambient) (sym i)
    ∙ ap (λ w. floor_by y.turn w gain y.ambient) (sum_is (near s y.ambient) xs nears n) ∙ floor_by_lem s y.ambient xs y.pending gain y.turn S.over g

-- ---- the bracket
mean_heat : (xs : List Tree) (b : Bool) → any_open xs ≡ b → unwrap_or (cond b (Some (hottest xs)) None) 0 ≡ hottest xs
mean_heat xs true e = refl
mean_heat xs false e = sym (shut_cool xs e)

for_side : (s : Side) (xs : List Tree) → ◌≡◌ {A = ℤ × ℤ} (bracket_by s (sum_of mean xs) (hottest xs)) (low s xs, high s xs)
for_side Left xs = refl
for_side Right xs = refl

bracket_by_lem : (s : Side) (xs : List Tree) (t : Turn) → (t ≡ Over → any_open xs ≡ false) → bracket_to t s (sum_of mean xs) (hottest xs) ≡ bracket_at s xs t
bracket_by_lem s xs Ours h = for_side s xs
bracket_by_lem s xs Theirs h = for_side (other s) xs
bracket_by_lem s xs Over h = ap {B = ℤ × ℤ} (λ v. (v, v)) (ended_means xs (shut_ended xs (h refl)))

pub bracket_so : (y : Play) (s : Side) (means : List ℤ) (h : Option ℕ) (r : ℤ × ℤ) (t : Turn) → y.turn ≡ t → r ≡ bracket_to t s (sum_z means) (unwrap_or h 0) → BracketIs y s means h r
bracket_so y s means h r t i e ts S m q =
    let xs : List Tree = present ts y.rows in
    e
    ∙ ap (λ u. bracket_to u s (sum_z means) (unwrap_or h 0)) (sym i)
    ∙ ap (λ v. bracket_to y.turn s v (unwrap_or h 0)) (sum_is mean xs means m)
    ∙ ap (bracket_to y.turn s (sum_of mean xs)) (ap (λ o. unwrap_or o 0) q ∙ mean_heat xs (any_open xs) refl)
    ∙ bracket_by_lem s xs y.turn S.over

-- ---- the advised part
abbrev IsOver : Turn → Type 0
IsOver Ours = ⊥
IsOver Theirs = ⊥
IsOver Over = Unit {0}

ours_by : (g : Game) (d : Option ℕ) (h : Option Lead) → g.turn ≡ Ours → d ≡ g.pending → Settled g → HottestOf g.parts h → MainOf g (part_by d h)
ours_by g (Some p) h t e S H = (t, subst (λ d. Main g.parts d p) e refl)
ours_by g None (Some b) t e S H = (t, subst (λ d. Main g.parts d b.part) e H.0)
ours_by g None None t e S H = absurd (subst IsOver (sym (S.shut H) ∙ t) tt)

by_turn : (g : Game) (t : Turn) (h : Option Lead) → g.turn ≡ t → Settled g → HottestOf g.parts h → MainOf g (advised_by t g.pending h)
by_turn g Ours h e S H = ours_by g g.pending h e refl S H
by_turn g Theirs h e S H = ap not_ours e
by_turn g Over h e S H = ap not_ours e

pub part_so : (y : Play) (h : Option Lead) (r : Result ℕ Refusal) → r ≡ advised_by y.turn y.pending h → PartIs y h r
part_so y h r e ts s S H = subst (MainOf (game_of ts s y)) (sym e) (by_turn (game_of ts s y) y.turn h refl S H)
