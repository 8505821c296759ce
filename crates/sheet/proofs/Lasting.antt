-- What every part of the game keeps through a story: it is lawful and fair, and there are no more parts than a bank has.
use Rattle.std.proofs.Common.{◌≡◌, ℕ, zero, suc, ◌≤◌, List, [], ◌∷◌, ◌++◌, length, Some, None, Option, sym, refl, ap, subst, arith}
use Rattle.terms.specs.declared.side.Side.{Side}
use Rattle.terms.specs.declared.side.Side.TheVariants.{Left, Right}
use Rattle.terms.specs.declared.side.Mover.{Mover}
use Rattle.terms.specs.declared.side.Mover.TheVariants.{Ours, Theirs}
use Rattle.terms.specs.declared.fault.Refusal.{Refusal}
use Rattle.terms.specs.Sides.{other}
use Rattle.theory.specs.Limits.{wall_limit}
use Rattle.theory.specs.Trees.{Tree, Forest, ended, branch, one, more, trees, options, at, Lawful, LawfulF}
use Rattle.theory.specs.Fair.{Fair}
use Rattle.theory.specs.Sums.{All, hottest}
use Rattle.theory.proofs.Range.{heat_bound}
use Rattle.rules.specs.Meaning.{LawfulIn}
use Rattle.encoding.specs.Columns.{part_limit}
use Rattle.stories.specs.Calls.{Call, move, reply, ask}
use Rattle.stories.specs.Seatings.{cause, seat, seated}
use Rattle.stories.specs.Game.{Game}
use Rattle.stories.specs.Stories.{Meant, Story, opens, ◌then◌, our_side, Sum, map_o, by_move, hand_to, played, or_same, sum_after, game_after}
use Rattle.stories.proofs.Fits.{sum, Fit, fit_over, fit_ours, fit_theirs}
use Rattle.stories.proofs.Moves.{hottest_under}
use Rattle.stories.proofs.Promise.{fits, promise}
use Rattle.stories.proofs.Seats.{seated_few}

-- ---- lawful trees, and no more of them
forest_lawful : (F : Forest) → LawfulF F → All Lawful (trees F)
forest_lawful (one x) l = (l, tt)
forest_lawful (more x F) l = (l.0, forest_lawful F l.1)

options_lawful : (x : Tree) (s : Side) → Lawful x → All Lawful (options x s)
options_lawful (ended v) s l = tt
options_lawful (branch L R) Left l = forest_lawful L l.2
options_lawful (branch L R) Right l = forest_lawful R l.3

pub at_lawful : (xs : List Tree) (k : ℕ) → All Lawful xs → LawfulIn (at xs k)
at_lawful [] k l = tt
at_lawful (x ∷ xs) zero l = l.0
at_lawful (x ∷ xs) (suc k) l = at_lawful xs k l.1

-- after a move there are as many trees, and they are lawful
abbrev Kept : ℕ → Option (List Tree) → Type 0
Kept n None = Unit {0}
Kept n (Some ys) = (length ys ≡ n) × All Lawful ys

put_first : (xs : List Tree) (o : Option Tree) → All Lawful xs → LawfulIn o → Kept (suc (length xs)) (map_o (λ y. y ∷ xs) o)
put_first xs None l h = tt
put_first xs (Some y) l h = (refl, (h, l))

put_later : (x : Tree) (n : ℕ) (m : Option (List Tree)) → Lawful x → Kept n m → Kept (suc n) (map_o (λ ys. x ∷ ys) m)
put_later x n None l h = tt
put_later x n (Some ys) l h = (ap suc h.0, (l, h.1))

move_keeps : (s : Side) (xs : List Tree) (p k : ℕ) → All Lawful xs → Kept (length xs) (by_move s xs p k)
move_keeps s [] p k l = tt
move_keeps s (x ∷ xs) zero k l = put_first xs (at (options x s) k) l.1 (at_lawful (options x s) k (options_lawful x s l.0))
move_keeps s (x ∷ xs) (suc p) k l = put_later x (length xs) (by_move s xs p k) l.0 (move_keeps s xs p k l.1)

-- the trees of a story's sum
abbrev Sound : List Tree → Type 0
Sound xs = (length xs ≤ part_limit) × All Lawful xs

hand_keeps : (xs : List Tree) (w u : Mover) (m : Option (List Tree)) → Sound xs → Kept (length xs) m → Sound (or_same (sum xs w) (hand_to u m)).trees
hand_keeps xs w u None h k = h
hand_keeps xs w u (Some ys) h k = (omega (arith, k.0, h.0), k.1)

call_keeps : (s : Side) (xs : List Tree) (w : Mover) (c : Call) → Sound xs → Sound (or_same (sum xs w) (played s (sum xs w) c)).trees
call_keeps s xs Ours (move p k) h = hand_keeps xs Ours Theirs (by_move s xs p k) h (move_keeps s xs p k h.1)
call_keeps s xs Theirs (move p k) h = h
call_keeps s xs Ours (reply p k) h = h
call_keeps s xs Theirs (reply p k) h = hand_keeps xs Theirs Ours (by_move (other s) xs p k) h (move_keeps (other s) xs p k h.1)
call_keeps s xs w (ask q) h = h

seat_lawful : (held : List Tree) (x : Tree) → Lawful x → All Lawful held → All Lawful (seat held (Some x))
seat_lawful held x l f = go (cause held (Some x))
  where
    add : (ys : List Tree) → All Lawful ys → All Lawful (ys ++ (x ∷ []))
    add [] h = (l, tt)
    add (y ∷ ys) h = (h.0, add ys h.1)

    go : (m : Option Refusal) → All Lawful (elim m [ None ↦ held ++ (x ∷ []) | Some r ↦ held ])
    go None = add held f
    go (Some n) = f

seated_lawful : (held : List Tree) (ms : List (Option Tree)) → Meant ms → All Lawful held → All Lawful (seated held ms)
seated_lawful held [] l f = f
seated_lawful held (None ∷ ms) l f = seated_lawful held ms l.1 f
seated_lawful held (Some x ∷ ms) l f = seated_lawful (seat held (Some x)) ms l.1 (seat_lawful held x l.0 f)

sum_sound : (t : Story) → Sound (sum_after t).trees
sum_sound (opens ms l s w) = (seated_few [] ms (omega arith), seated_lawful [] ms l tt)
sum_sound (t then c) = call_keeps (our_side t) (sum_after t).trees (sum_after t).mover c (sum_sound t)

-- ---- the parts of the game
pub parts_few : (t : Story) → length (game_after t).parts ≤ part_limit
parts_few t = subst (λ xs. length xs ≤ part_limit) (sym (promise t).parts) (sum_sound t).0

pub parts_lawful : (t : Story) → All Lawful (game_after t).parts
parts_lawful t = subst (All Lawful) (sym (promise t).parts) (sum_sound t).1

fit_fair : (s : Side) (g : Game) (z : Sum) → Fit s g z → All Fair g.parts
fit_fair s g z (fit_over xs w a d f e) = f
fit_fair s g z (fit_ours xs a d f h r) = f
fit_fair s g z (fit_theirs xs a f h) = f

pub parts_fair : (t : Story) → All Fair (game_after t).parts
parts_fair t = fit_fair (our_side t) (game_after t) (sum_after t) (fits t)

-- ---- the ambient
pub hottest_bound : (xs : List Tree) → hottest xs ≤ wall_limit
hottest_bound xs = hottest_under xs wall_limit (λ q y e. heat_bound y)

pub ambient_bound : (t : Story) → (game_after t).ambient ≤ wall_limit
ambient_bound (opens ms l s w) = hottest_bound (seated [] ms)
ambient_bound (t then c) = omega (arith, (promise t).ambient c, ambient_bound t)
