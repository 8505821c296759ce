-- What the story behind a game says of it.
use Rattle.std.proofs.Common.{◌≡◌, ℕ, ◌<◌, Bool, true, false, cond, List, map, length, set, ℤ, Some, None, Ok, Err, Option, Result, sym, refl, ap, ◌∙◌, subst, arith}
use mathlib.Core.Logic.{∥∥₁_elim}
use native.Mathlib.Bridge.{le_prop}
use native.Mathlib.Nat.{ℕ_set}
use Rattle.std.proofs.lemmas.List.{length-set}
use Rattle.terms.specs.declared.side.Side.{Side}
use Rattle.terms.specs.declared.fault.Refusal.{Refusal}
use Rattle.terms.specs.Sides.{other, pick}
use Rattle.theory.specs.Trees.{Tree, Forest, ended, branch, one, more, trees, at, options, Open}
use Rattle.theory.specs.Walls.{temperature, mean}
use Rattle.theory.proofs.Sente.{ended_cool}
use Rattle.stories.specs.declared.turn.Turn.{Turn}
use Rattle.stories.specs.declared.turn.Turn.TheVariants.{Ours, Theirs, Over}
use Rattle.stories.specs.Calls.{move, reply, ask}
use Rattle.stories.specs.Game.{Game, any_open, find, our_pick, their_pick, moved, replied, unless_refused, hotter, turn_to, cooled, near, floor_of, bracket_of, First, Any, Main, AdviceIs, Settled}
use Rattle.stories.specs.Promise.{SureFloor, SureBracket, Promised}
use Rattle.stories.specs.Stories.{Story, opens, ◌then◌, Sum, our_side, sum_after, game_after}
use Rattle.stories.proofs.Places.{none_some, some_same}
use Rattle.stories.proofs.Fits.{Fit, fit_over, fit_ours, fit_theirs, not_ours_lem}
use Rattle.stories.proofs.Floors.{Ready}
use Rattle.stories.proofs.Moves.{found}
use Rattle.stories.proofs.Promise.{fits, settled_after, promise}
use Rattle.play.specs.declared.record.Play.{Play}
use Rattle.play.specs.declared.leads.Lead.{Lead}
use Rattle.play.specs.Answers.{GainIs, FloorIs, BracketIs, PartIs}
use Rattle.play.specs.Leads.{HottestOf}
use Rattle.play.specs.Behind.{Behind}
use Rattle.play.specs.Standing.{present, game_of, hottest_of}
use Rattle.play.proofs.Fronts.{at_short}
use Rattle.play.proofs.Tales.{play_told_lem}
use Rattle.game.specs.Rows.{Storied}

-- ---- the turn is over exactly when no part is open
abbrev number : Turn → ℕ
number Ours = 0
number Theirs = 1
number Over = 2

is_over : (t : Turn) → number t ≡ 2 → t ≡ Over
is_over Ours e = absurd (omega arith)
is_over Theirs e = absurd (omega arith)
is_over Over e = refl

abbrev bit : Bool → ℕ
bit false = 0
bit true = 1

is_false : (b : Bool) → bit b ≡ 0 → b ≡ false
is_false false e = refl
is_false true e = absurd (omega arith)

pub settled : (ts : List Tree) (s : Side) (y : Play) → Storied ts s y → Settled (game_of ts s y)
settled ts s y told =
    let g : Game = game_of ts s y in
    record {
      over = λ e. is_false (any_open g.parts) (∥∥₁_elim told (ℕ_set (bit (any_open g.parts)) 0) (λ q. ap bit ((subst Settled q.1.game (settled_after q.0)).over e)));
      shut = λ e. is_over g.turn (∥∥₁_elim told (ℕ_set (number g.turn) 2) (λ q. ap number ((subst Settled q.1.game (settled_after q.0)).shut e)));
    }

-- ---- a pending part is there
abbrev Known : Game → Type 0
Known g = (p : ℕ) → g.pending ≡ Some p → p < length g.parts

known_unless : (g : Game) (f : Tree → Game) (r : Result Tree Refusal) → Known g → ((o : Tree) → r ≡ Ok o → Known (f o)) → Known (unless_refused g f r)
known_unless g f (Err n) h k = h
known_unless g f (Ok o) h k = k o refl

picked : (g : Game) (t : Turn) (p k : ℕ) (o : Tree) → g.turn ≡ t → their_pick g p k ≡ Ok o → p < length g.parts
picked g Over p k o e h = absurd (let z : ◌≡◌ {A = ℕ} 0 1 = cc in omega arith)
picked g Ours p k o e h = absurd (let z : ◌≡◌ {A = ℕ} 0 1 = cc in omega arith)
picked g Theirs p k o e h =
    let f : find (other g.side) g.parts p k ≡ Ok o = cc in
    at_short g.parts p _ (found (other g.side) g.parts p k o f).place

known_replied : (g : Game) (p : ℕ) (o : Tree) (b : Bool) → p < length g.parts
    → Known (cond b (record { parts = set g.parts p o; side = g.side; turn = turn_to Ours (set g.parts p o); ambient = g.ambient; pending = Some p })
    (record { parts = set g.parts p o; side = g.side; turn = turn_to Ours (set g.parts p o); ambient = cooled g.ambient (set g.parts p o); pending = None }))
known_replied g p o true h q e = omega (arith, some_same p q e, length-set g.parts p o)
known_replied g p o false h q e = none_some q e

known : (st : Story) → Known (game_after st)
known (opens ms l s m) = λ p e. none_some p e
known (st then move p k) = known_unless (game_after st) (moved (game_after st) p) (our_pick (game_after st) p k) (known st) (λ o q r e. none_some r e)
known (st then reply p k) =
    let g : Game = game_after st in
    known_unless g (replied g p) (their_pick g p k) (known st) (λ o q. known_replied g p o (hotter g.ambient o) (picked g g.turn p k o refl q))
known (st then ask q) = known st

module _ (ts : List Tree) (s : Side) (y : Play) (told : Storied ts s y) where
  pub pending_there : (p : ℕ) → y.pending ≡ Some p → p < length (game_of ts s y).parts
  pending_there p e = ∥∥₁_elim told le_prop (λ q. subst Known q.1.game (known q.0) p e)

-- ---- the advised part is there, and open
open_options : (x : Tree) (s : Side) → Open x → 0 < length (options x s)
open_options (ended v) s h = elim h [ ]
open_options (branch L R) s h = some_trees (pick s L R)
  where
    some_trees : (F : Forest) → 0 < length (trees F)
    some_trees (one x) = omega arith
    some_trees (more x F) = omega arith

warm_open : (x : Tree) (a : ℕ) → a < temperature x → Open x
warm_open (ended v) a h = absurd (omega (arith, ended_cool a (ended v) tt))
warm_open (branch L R) a h = tt

abbrev OpenAt : List Tree → ℕ → Type 0
OpenAt xs p = (x : Tree) × (at xs p ≡ Some x) × Open x

main_ready : (xs : List Tree) (a : ℕ) (d : Option ℕ) (p : ℕ) → Ready xs a d → Main xs d p → OpenAt xs p
main_ready xs a None p r m = (m.item, m.there, m.counts)
main_ready xs a (Some q) p (x, e, h) m = (x, ap (at xs) m ∙ e, warm_open x a h)

main_open : (s : Side) (g : Game) (z : Sum) (p : ℕ) → Fit s g z → g.turn ≡ Ours → Main g.parts g.pending p → OpenAt g.parts p
main_open s g z p (fit_over xs w a d f e) t m = not_ours_lem Over (λ i. i) t
main_open s g z p (fit_theirs xs a f h) t m = not_ours_lem Theirs (λ i. i) t
main_open s g z p (fit_ours xs a d f h r) t m = main_ready xs a d p r m

module _ (ts : List Tree) (s : Side) (y : Play) (told : Storied ts s y) (p : ℕ) (t : y.turn ≡ Ours) (m : Main (game_of ts s y).parts y.pending p) where
  advised_open : (st : Story) → game_after st ≡ game_of ts s y → OpenAt (game_of ts s y).parts p
  advised_open st e =
      subst (λ g. g.turn ≡ Ours → Main g.parts g.pending p → OpenAt g.parts p) e (main_open (our_side st) (game_after st) (sum_after st) p (fits st)) t m

  pub advised_there : p < length (game_of ts s y).parts
  advised_there = ∥∥₁_elim told le_prop (λ q. let o = advised_open q.0 q.1.game in at_short (game_of ts s y).parts p o.0 o.1)

  pub advised_options : (x : Tree) → at (game_of ts s y).parts p ≡ Some x → 0 < length (options x s)
  advised_options x e =
      ∥∥₁_elim told le_prop (λ q. let o = advised_open q.0 q.1.game in open_options x s (subst Open (some_same o.0 x (sym o.1 ∙ e)) o.2))

-- ---- the answers, of the game and of every story behind it
module _ (ts : List Tree) (s : Side) (y : Play) (told : Storied ts s y) where
  pub floor_answered_lem : (nears : List ℤ) (gain v w : ℤ) → w ≡ v → FloorIs y nears gain v → nears ≡ map (near s y.ambient) (present ts y.rows)
      → GainIs s y.ambient (present ts y.rows) y.pending gain → (w ≡ floor_of (game_of ts s y)) × ((st : Story) → Behind st ts s y → SureFloor st w)
  floor_answered_lem nears gain v w e F n g = (
    e ∙ F ts s (settled ts s y told) n g,
    λ st B. subst (SureFloor st) (sym e) ((play_told_lem st ts s y B).floor nears gain v F n g),
  )

  pub bracket_answered_lem : (means : List ℤ) (h : Option ℕ) (b : ℤ × ℤ) → BracketIs y s means h b → means ≡ map mean (present ts y.rows) → h ≡ hottest_of (present ts y.rows)
      → (b ≡ bracket_of (game_of ts s y)) × ((st : Story) → Behind st ts s y → SureBracket st b)
  bracket_answered_lem means h b F m q = (F ts (settled ts s y told) m q, λ st B. (play_told_lem st ts s y B).bracket means h b F m q)

  -- advice
  pub advice_told : (r : Result (ℕ × ℕ) Refusal) → AdviceIs (game_of ts s y) r → (st : Story) → Behind st ts s y → Promised st × AdviceIs (game_after st) r
  advice_told r a st B = (promise st, subst (λ g. AdviceIs g r) (sym B.game) a)

  pub advice_refused : (h : Option Lead) (n : Refusal) → PartIs y h (Err n) → HottestOf (present ts y.rows) h → AdviceIs (game_of ts s y) (Err n)
  advice_refused h n P H = P ts s (settled ts s y told) H

  module _ (h : Option Lead) (p : ℕ) (P : PartIs y h (Ok p)) (H : HottestOf (present ts y.rows) h) where
    pub advice_there : p < length (present ts y.rows)
    advice_there = let m = P ts s (settled ts s y told) H in advised_there ts s y told p m.0 m.1

    pub advice_options : (x : Tree) → at (present ts y.rows) p ≡ Some x → 0 < length (options x s)
    advice_options x e = let m = P ts s (settled ts s y told) H in advised_options ts s y told p m.0 m.1 x e

    pub advice_is : (k : ℕ) (x : Tree) → at (present ts y.rows) p ≡ Some x → First Any (near s y.ambient) (options x s) k → AdviceIs (game_of ts s y) (Ok (p, k))
    advice_is k x e F = let m = P ts s (settled ts s y told) H in record { turn = m.0; main = m.1; tree = x; there = e; option = F }
