-- The options that the game finds are the moves of the sum; which parts are open, and how hot they are.
use Rattle.std.proofs.Common.{◌≡◌, ℕ, zero, suc, ◌≤◌, Bool, true, false, ◌||◌, ◌⊎◌, List, [], ◌∷◌, set, Some, None, Ok, Err, Option, Result, sym, refl, ap, ◌∙◌, subst, inl, inr, true≢false, arith}
use Rattle.terms.specs.declared.side.Side.{Side}
use Rattle.terms.specs.declared.fault.Refusal.{Refusal}
use Rattle.terms.specs.declared.fault.Refusal.TheVariants.{NoSuchPart, PartEnded, NoSuchOption}
use Rattle.theory.specs.Trees.{Tree, ended, branch, options, at, Open, Ended}
use Rattle.theory.specs.Walls.{temperature}
use Rattle.theory.specs.Sums.{Part, here, there, hottest, All}
use Rattle.theory.proofs.Sente.{ended_cool}
use Rattle.stories.specs.Game.{is_open, any_open, or_else, choose, find}
use Rattle.stories.specs.Stories.{map_o, by_move}
use Rattle.stories.proofs.Places.{none_some, some_same, err_ok, ok_same}

abbrev pub ok_map : {B : Type 0} → (Tree → B) → Result Tree Refusal → Option B
ok_map f (Err n) = None
ok_map f (Ok o) = Some (f o)

else_map : {B : Type 0} (f : Tree → B) (n : Refusal) (r : Option Tree) → map_o f r ≡ ok_map f (or_else n r)
else_map f n None = refl
else_map f n (Some o) = refl

map_map : {B C : Type 0} (f : Tree → B) (g : B → C) (r : Result Tree Refusal) → map_o g (ok_map f r) ≡ ok_map (λ o. g (f o)) r
map_map f g (Err n) = refl
map_map f g (Ok o) = refl

pub ties : (s : Side) (xs : List Tree) (p k : ℕ) → by_move s xs p k ≡ ok_map (λ o. set xs p o) (find s xs p k)
ties s [] p k = refl
ties s (ended v ∷ xs) zero k = refl
ties s (branch L R ∷ xs) zero k = else_map (λ o. o ∷ xs) NoSuchOption (at (options (branch L R) s) k)
ties s (x ∷ xs) (suc p) k =
    ap (map_o (λ ys. x ∷ ys)) (ties s xs p k) ∙ map_map (λ o. set xs p o) (λ ys. x ∷ ys) (find s xs p k)

pub record Found (s : Side) (xs : List Tree) (p k : ℕ) (o : Tree) : Type 0 where
  pub tree : Tree
  pub place : at xs p ≡ Some tree
  pub option : at (options tree s) k ≡ Some o

-- what was found
else_so : (n : Refusal) (r : Option Tree) (o : Tree) → or_else n r ≡ Ok o → r ≡ Some o
else_so n None o e = err_ok n o e
else_so n (Some x) o e = ap Some (ok_same x o e)

choose_so : (s : Side) (x : Tree) (k : ℕ) (o : Tree) → choose s x k ≡ Ok o → at (options x s) k ≡ Some o
choose_so s (ended v) k o e = err_ok PartEnded o e
choose_so s (branch L R) k o e = else_so NoSuchOption (at (options (branch L R) s) k) o e

pub found : (s : Side) (xs : List Tree) (p k : ℕ) (o : Tree) → find s xs p k ≡ Ok o → Found s xs p k o
found s [] p k o e = err_ok NoSuchPart o e
found s (x ∷ xs) zero k o e = record { tree = x; place = refl; option = choose_so s x k o e }
found s (x ∷ xs) (suc p) k o e = let r = found s xs p k o e in record { tree = r.tree; place = r.place; option = r.option }

-- what is to be found
choose_is : (s : Side) (x : Tree) (k : ℕ) (o : Tree) → at (options x s) k ≡ Some o → choose s x k ≡ Ok o
choose_is s (ended v) k o e = none_some o e
choose_is s (branch L R) k o e = ap (or_else NoSuchOption) e

pub finds : (s : Side) (xs : List Tree) (p k : ℕ) (x o : Tree) → at xs p ≡ Some x → at (options x s) k ≡ Some o → find s xs p k ≡ Ok o
finds s [] p k x o e h = none_some x e
finds s (y ∷ xs) zero k x o e h = subst (λ z. choose s z k ≡ Ok o) (sym (some_same y x e)) (choose_is s x k o h)
finds s (y ∷ xs) (suc p) k x o e h = finds s xs p k x o e h

pub option_open : (s : Side) (x : Tree) (k : ℕ) (o : Tree) → at (options x s) k ≡ Some o → Open x
option_open s (ended v) k o e = none_some o e
option_open s (branch L R) k o e = tt

-- in an ended sum there is no move
pub no_move : (s : Side) (xs : List Tree) (p k : ℕ) → All Ended xs → by_move s xs p k ≡ None
no_move s [] p k h = refl
no_move s (ended v ∷ xs) zero k h = refl
no_move s (branch L R ∷ xs) zero k h = elim h.0 [ ]
no_move s (x ∷ xs) (suc p) k h = ap (map_o (λ ys. x ∷ ys)) (no_move s xs p k h.1)

-- ---- open or over
pub all_shut : (xs : List Tree) → All Ended xs → any_open xs ≡ false
all_shut [] h = refl
all_shut (ended v ∷ xs) h = all_shut xs h.1
all_shut (branch L R ∷ xs) h = elim h.0 [ ]

or_true : (b : Bool) → (b || true) ≡ true
or_true true = refl
or_true false = refl

is_open_lem : (x : Tree) → Open x → is_open x ≡ true
is_open_lem (ended v) i = elim i [ ]
is_open_lem (branch L R) i = refl

pub some_open : {x : Tree} {xs : List Tree} → Part x xs → Open x → any_open xs ≡ true
some_open {x} (here {xs = xs}) i = ap (λ b. b || any_open xs) (is_open_lem x i)
some_open (there {y = y} q) i = ap (λ b. is_open y || b) (some_open q i) ∙ or_true (is_open y)

pub open_or : (x : Tree) → Open x ⊎ (Open x → ⊥)
open_or (ended v) = inr (λ i. i)
open_or (branch L R) = inl tt

-- ---- the greatest temperature
pub hottest_under : (xs : List Tree) (t : ℕ) → ((q : ℕ) (y : Tree) → at xs q ≡ Some y → temperature y ≤ t) → hottest xs ≤ t
hottest_under [] t h = omega arith
hottest_under (x ∷ xs) t h = omega (arith, h zero x refl, hottest_under xs t (λ q y e. h (suc q) y e))

pub open_under : (y : Tree) (t : ℕ) → (Open y → temperature y ≤ t) → temperature y ≤ t
open_under (ended v) t h = ended_cool t (ended v) tt
open_under (branch L R) t h = h tt

pub over_hottest : (xs : List Tree) (p : ℕ) (x : Tree) → at xs p ≡ Some x → temperature x ≤ hottest xs
over_hottest [] p x e = none_some x e
over_hottest (y ∷ xs) zero x e = subst (λ z. temperature z ≤ hottest (y ∷ xs)) (some_same y x e) (omega arith)
over_hottest (y ∷ xs) (suc p) x e = omega (arith, over_hottest xs p x e)

pub ended_hottest : (xs : List Tree) → All Ended xs → hottest xs ≡ 0
ended_hottest [] h = refl
ended_hottest (x ∷ xs) h = omega (arith, ended_cool 0 x h.0, ended_hottest xs h.1)

pub shut_ended : (xs : List Tree) → any_open xs ≡ false → All Ended xs
shut_ended [] e = tt
shut_ended (ended v ∷ xs) e = (tt, shut_ended xs e)
shut_ended (branch L R ∷ xs) e = absurd (true≢false e)

pub shut_cool : (xs : List Tree) → any_open xs ≡ false → hottest xs ≡ 0
shut_cool xs e = ended_hottest xs (shut_ended xs e)
