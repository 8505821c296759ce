-- The promise, by induction over stories.
use Rattle.std.proofs.Common.{◌≡◌, ℕ, zero, suc, ◌+◌, ◌≤◌, min, Bool, true, false, cond, ◌⊎◌, List, [], set, pos, ◌+ℤ◌, ◌*ℤ◌, ◌≤ℤ◌, Some, None, Ok, Err, Option, Result, sym, refl, ap, ◌∙◌, subst, inl, inr, arith}
use borrow.Author.Differences.{ints}
use Rattle.terms.specs.declared.side.Side.{Side}
use Rattle.terms.specs.declared.side.Mover.{Mover}
use Rattle.terms.specs.declared.side.Mover.TheVariants as mover
use Rattle.terms.specs.declared.fault.Refusal.{Refusal}
use Rattle.terms.specs.Sides.{own}
use Rattle.theory.specs.Limits.{unit}
use Rattle.theory.specs.Trees.{Tree, Ended}
use Rattle.theory.specs.Fair.{Fair}
use Rattle.theory.specs.Sums.{Over, total, span, hottest, All}
use Rattle.theory.proofs.Parts.{all_at}
use Rattle.theory.proofs.Sente as sente
use Rattle.theory.proofs.Plays.{clash}
use Rattle.stories.specs.Calls.{Call, move, reply, ask}
use Rattle.stories.specs.Seatings.{seated}
use Rattle.stories.specs.Game.{Game, opening, step, our_pick, their_pick, unless_refused, moved, hotter, any_open, floor_of, Settled}
use Rattle.stories.specs.Game as rules
use Rattle.stories.specs.Stories.{Story, opens, ◌then◌, our_side, Sum, played, or_same, sum_after, Allowed, count_if, move_count, first_trees, best_play, game_after}
use Rattle.stories.specs.Promise.{floor_answered, bracket_answered, AsAdvised, so_far, asked, advised, refused, replied, best_for_us, greatest_temperature, ComesToEnd, ended, ours, theirs, GoesOn, SureFloor, SureBracket, Agrees, Promise}
use Rattle.stories.proofs.Fits.{sum, Fit, fit_over, fit_ours, fit_theirs, at_opening, fit_step, advised_keeps, reply_keeps, refused_same, refused_reply, our_pick_lem, their_pick_lem, fit_ends}
use Rattle.stories.proofs.Seats.{seated_fair}
use Rattle.stories.proofs.Best.{floor_sound, opening_close, bracket_holds}
use Rattle.stories.proofs.Goes.{one_advised, advised_moves, they_move, advised_only, shorter}

pub fits : (t : Story) → Fit (our_side t) (game_after t) (sum_after t)
fits (opens ms l s w) = at_opening s w (seated [] ms) (seated_fair [] ms l tt)
fits (t then c) = fit_step (our_side t) (game_after t) (sum_after t) c (fits t)

-- ---- the floor never falls
never_falls : (s t : Story) → AsAdvised s t → floor_answered s ≤ℤ floor_answered t
never_falls s t so_far = omega (arith, ints)
never_falls s t (asked {t = u} q w) = never_falls s u w
never_falls s t (advised {t = u} p k w A) =
    omega (arith, ints, never_falls s u w, advised_keeps (our_side u) (game_after u) (sum_after u) p k (fits u) A)
never_falls s t (refused {t = u} p k w r) =
    subst (λ g. floor_answered s ≤ℤ floor_of g) (sym (refused_same (our_side u) (game_after u) (sum_after u) p k (fits u) r)) (never_falls s u w)
never_falls s t (replied {t = u} p k w) =
    omega (arith, ints, never_falls s u w, reply_keeps (our_side u) (game_after u) (sum_after u) p k (fits u))

-- with the sum ended it is the score
not_hot : {P : Type 0} (xs : List Tree) → sente.Hottest xs → All Ended xs → P
not_hot xs (x, q, i, c) e = absurd (clash x i (all_at Ended q e))

ended_score : (s : Side) (g : Game) (z : Sum) → Fit s g z → Over z.trees → floor_of g ≡ (pos unit *ℤ total s z.trees)
ended_score s g z (fit_over xs w a d f e) h = refl
ended_score s g z (fit_ours xs a d f i r) h = not_hot xs i h
ended_score s g z (fit_theirs xs a f i) h = not_hot xs i h

-- ---- it goes on
few : (t : Story) → move_count t + span (sum_after t).trees ≤ span (first_trees t)
few (opens ms l s w) = omega arith
few (t then c) = omega (arith, few t, shorter (our_side t) (sum_after t).trees (sum_after t).mover c)

-- what is Left after a move
left_less : (n : ℕ) (t : Story) (c : Call) → Allowed t c → span (sum_after t).trees ≤ suc n → span (sum_after (t then c)).trees ≤ n
left_less n t c (y, e) h =
    let one : count_if (played (our_side t) (sum_after t) c) ≡ 1 = ap count_if e in
    omega (arith, shorter (our_side t) (sum_after t).trees (sum_after t).mover c)

comes : (n : ℕ) (t : Story) → span (sum_after t).trees ≤ n → ComesToEnd t
comes zero t h = ended (sente.span_zero (sum_after t).trees h)
comes (suc n) t h = on (comes n) (sum_after t).mover refl (sente.hot (sum_after t).trees)
  where
    on : ((u : Story) → span (sum_after u).trees ≤ n → ComesToEnd u) → (w : Mover) → (sum_after t).mover ≡ w
        → All Ended (sum_after t).trees ⊎ sente.Hottest (sum_after t).trees → ComesToEnd t
    on I w m (inl e) = ended e
    on I mover.Ours m (inr z) =
        let (p, k, A) = one_advised (our_side t) (game_after t) (sum_after t) (fits t) m (not_hot (sum_after t).trees z) in
        let a = advised_moves (our_side t) (game_after t) (sum_after t) p k (fits t) A in
        ours p k A a (I (t then move p k) (left_less n t (move p k) a h))
    on I mover.Theirs m (inr z) = theirs m (λ p k a. I (t then reply p k) (left_less n t (reply p k) a h))

move_agrees : (t : Story) (p k : ℕ) → Agrees t (move p k) (our_pick (game_after t) p k)
move_agrees t p k =
    let P = our_pick_lem (our_side t) (game_after t) (sum_after t) p k (fits t) in
    record { taken = λ a. P.taken a.0 a.1; refused = P.not_taken }

reply_agrees : (t : Story) (p k : ℕ) → Agrees t (reply p k) (their_pick (game_after t) p k)
reply_agrees t p k =
    let P = their_pick_lem (our_side t) (game_after t) (sum_after t) p k (fits t) in
    record { taken = λ a. P.taken a.0 a.1; refused = P.not_taken }

goes_on : (t : Story) → GoesOn t
goes_on t =
    let s : Side = our_side t in
    let g : Game = game_after t in
    let z : Sum = sum_after t in
    record {
      ours = λ m n. one_advised s g z (fits t) m n;
      only = λ p k q j A B. advised_only g p k q j A B;
      allowed = λ p k A. advised_moves s g z p k (fits t) A;
      accepted = λ p k A. (move_agrees t p k).taken (advised_moves s g z p k (fits t) A);
      theirs = λ m n. they_move s g z (fits t) m n;
      end = comes (span (sum_after t).trees) t (omega arith);
      few = omega (arith, few t);
    }

-- ---- before the first move
pub record Still (t : Story) : Type 0 where
  pub who : Mover
  pub game : game_after t ≡ opening (first_trees t) (our_side t) who
  pub stays : sum_after t ≡ sum (first_trees t) who

none_made : (m : Option Sum) → count_if m ≡ 0 → m ≡ None
none_made None e = refl
none_made (Some z) e = absurd (omega arith)

refused_any : (t : Story) (c : Call) → played (our_side t) (sum_after t) c ≡ None → step (game_after t) c ≡ game_after t
refused_any t (move p k) h = refused_same (our_side t) (game_after t) (sum_after t) p k (fits t) h
refused_any t (reply p k) h = refused_reply (our_side t) (game_after t) (sum_after t) p k (fits t) h
refused_any t (ask q) h = refl

still : (t : Story) → move_count t ≡ 0 → Still t
still (opens ms l s w) e = record { who = w; game = refl; stays = refl }
still (t then c) e =
    let r = still t (omega arith) in
    let n = none_made (played (our_side t) (sum_after t) c) (omega arith) in
    record {
      who = r.who;
      game = refused_any t c n ∙ r.game;
      stays = ap (or_same (sum_after t)) n ∙ r.stays;
    }

first_fair : (t : Story) → All Fair (first_trees t)
first_fair (opens ms l s w) = seated_fair [] ms l tt
first_fair (t then c) = first_fair t

close : (t : Story) → move_count t ≡ 0 → best_for_us t ≤ℤ (floor_answered t +ℤ greatest_temperature t)
close t e =
    let S = still t e in
    let s : Side = our_side t in
    let Close : Sum → Game → Type 0 = λ z g. (pos unit *ℤ own s (best_play s z)) ≤ℤ (floor_of g +ℤ pos (hottest z.trees)) in
    let h : Close (sum (first_trees t) S.who) (opening (first_trees t) s S.who) = opening_close s S.who (first_trees t) (first_fair t) in
    subst (λ z. Close z (game_after t)) (sym S.stays) (subst (Close (sum (first_trees t) S.who)) (sym S.game) h)

-- ---- the promise
pub sure_floor : (s : Story) → SureFloor s (floor_answered s)
sure_floor s = record {
  never_falls = never_falls s;
  goes_on = λ t w. goes_on t;
  kept = λ t w e. omega (arith, ints, never_falls s t w, ended_score (our_side t) (game_after t) (sum_after t) (fits t) e);
  sound = floor_sound (our_side s) (game_after s) (sum_after s) (fits s);
  close = close s;
}

pub sure_bracket : (s : Story) → SureBracket s (bracket_answered s)
sure_bracket s = let (a, b) = bracket_holds (our_side s) (game_after s) (sum_after s) (fits s) in record { low = a; high = b }

-- the turn is over exactly when no part is open
pub settled_after : (s : Story) → Settled (game_after s)
settled_after s = (fit_ends (our_side s) (game_after s) (sum_after s) (fits s)).settled

-- ---- the ambient
unless_cool : (g : Game) (f : Tree → Game) (r : Result Tree Refusal) → ((o : Tree) → (f o).ambient ≤ g.ambient) → (unless_refused g f r).ambient ≤ g.ambient
unless_cool g f (Err n) h = omega arith
unless_cool g f (Ok o) h = h o

cond_cool : (b : Bool) (n : ℕ) (g h : Game) → g.ambient ≤ n → h.ambient ≤ n → (cond b g h).ambient ≤ n
cond_cool true n g h k l = k
cond_cool false n g h k l = l

cooled_cool : (a : ℕ) (xs : List Tree) (b : Bool) → cond b (min a (hottest xs)) a ≤ a
cooled_cool a xs true = omega arith
cooled_cool a xs false = omega arith

ambient_falls : (g : Game) (c : Call) → (step g c).ambient ≤ g.ambient
ambient_falls g (move p k) = unless_cool g (moved g p) (our_pick g p k) (λ o. omega arith)
ambient_falls g (reply p k) =
    unless_cool g (rules.replied g p) (their_pick g p k)
    (λ o. cond_cool (hotter g.ambient o) g.ambient _ _ (omega arith) (cooled_cool g.ambient (set g.parts p o) (any_open (set g.parts p o))))
ambient_falls g (ask q) = omega arith

pub promise : Promise
promise s =
    let E = fit_ends (our_side s) (game_after s) (sum_after s) (fits s) in
    record {
      parts = E.parts;
      over = E.over;
      ended = E.ended;
      ambient = λ c. ambient_falls (game_after s) c;
      floor = sure_floor s;
      bracket = sure_bracket s;
      moves = move_agrees s;
      replies = reply_agrees s;
    }
