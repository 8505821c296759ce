-- The record goes as the game does.
use Rattle.std.proofs.Common.{◌≡◌, ℕ, zero, suc, ◌≤◌, min, Bool, true, false, cond, List, [], ◌∷◌, length, set, replicate, Some, None, Ok, Err, Option, Result, unwrap_or, sym, refl, ap, ◌∙◌, subst, arith}
use Rattle.terms.specs.declared.side.Side.{Side}
use Rattle.terms.specs.declared.side.Mover.{Mover}
use Rattle.terms.specs.declared.fault.Refusal.{Refusal}
use Rattle.terms.specs.Sides.{other}
use Rattle.theory.specs.Trees.{Tree, ended, branch, at}
use Rattle.theory.specs.Sums.{hottest}
use Rattle.spreading.specs.Order.{row}
use Rattle.spreading.proofs.BreadthFirst.{rows_in_order_lem}
use Rattle.encoding.specs.Columns.{part_limit}
use Rattle.stories.specs.declared.turn.Turn.{Turn}
use Rattle.stories.specs.declared.turn.Turn.TheVariants.{Ours, Theirs, Over}
use Rattle.stories.specs.Calls.{move, reply}
use Rattle.stories.specs.Game.{Game, any_open, turn_to, turn_of, moved, hotter, cooled, replied, unless_refused, step, our_pick, their_pick}
use Rattle.stories.proofs.Places.{none_some, some_same}
use Rattle.stories.proofs.Moves.{shut_cool}
use Rattle.stories.proofs.Fits.{state}
use Rattle.play.specs.declared.record.Play.{Play}
use Rattle.play.specs.declared.record.Event.TheVariants.{Move, Reply}
use Rattle.play.specs.declared.record.Landing.{Landing}
use Rattle.play.specs.declared.record.Event.{Event}
use Rattle.play.specs.Record.{turn_by, hotter_than, cooled_by, at_first, by_move, by_reply, after, done, answer, rows_after, Kept}
use Rattle.play.specs.Standing.{present, game_of, heat_of, Lands, Leads, Opens, OurMove, TheirReply}

-- ---- the present trees
pub present_set : (ts : List Tree) (rows : List ℕ) (p r : ℕ) (t : Tree) → at ts p ≡ Some t → present ts (set rows p r) ≡ set (present ts rows) p (row t r)
present_set [] rows p r t e = none_some t e
present_set (u ∷ ts) [] p r t e = refl
present_set (u ∷ ts) (q ∷ rows) zero r t e = ap (λ x. row x r ∷ present ts rows) (some_same u t e)
present_set (u ∷ ts) (q ∷ rows) (suc p) r t e = ap (λ zs. row u q ∷ zs) (present_set ts rows p r t e)

root : (t : Tree) → row t 0 ≡ t
root t = (rows_in_order_lem t).is.root

pub present_first : (n : ℕ) (ts : List Tree) → length ts ≤ n → present ts (replicate n 0) ≡ ts
present_first n [] h = refl
present_first zero (t ∷ ts) h = absurd (omega arith)
present_first (suc n) (t ∷ ts) h =
    ap (λ x. x ∷ present ts (replicate n 0)) (root t) ∙ ap (λ zs. t ∷ zs) (present_first n ts (omega arith))

-- ---- by the temperatures
turn_by_lem : (t : Turn) (b : Bool) (h : ℕ) → turn_by t (cond b (Some h) None) ≡ cond b t Over
turn_by_lem t true h = refl
turn_by_lem t false h = refl

cooled_by_lem : (a : ℕ) (b : Bool) (h : ℕ) → cooled_by a (cond b (Some h) None) ≡ cond b (min a h) a
cooled_by_lem a true h = refl
cooled_by_lem a false h = refl

hotter_by : (a : ℕ) (o : Tree) → hotter_than a (heat_of o) ≡ hotter a o
hotter_by a (ended v) = refl
hotter_by a (branch L R) = refl

-- ---- the opening
value_of : (xs : List Tree) (b : Bool) → any_open xs ≡ b → unwrap_or (cond b (Some (hottest xs)) None) 0 ≡ hottest xs
value_of xs true e = refl
value_of xs false e = sym (shut_cool xs e)

pub opens_so : (m : Mover) (h : Option ℕ) (t : Turn) (a : ℕ) → t ≡ turn_by (turn_of m) h → a ≡ unwrap_or h 0
    → Opens m h (at_first t a)
opens_so m h t a e f ts s l q =
    let turn : t ≡ turn_to (turn_of m) ts = e ∙ ap (turn_by (turn_of m)) q ∙ turn_by_lem (turn_of m) (any_open ts) (hottest ts) in
    let ambient : a ≡ hottest ts = f ∙ ap (λ o. unwrap_or o 0) q ∙ value_of ts (any_open ts) refl in
    ap (λ xs. state s xs t a None) (present_first part_limit ts l)
    ∙ ap (λ u. state s ts u a None) turn
    ∙ ap (λ b. state s ts (turn_to (turn_of m) ts) b None) ambient

-- ---- moves and replies
module _ (ts : List Tree) (s : Side) (rows : List ℕ) (a : ℕ) (d : Option ℕ) (p k : ℕ) where
  abbrev at_turn : Turn → Play
  at_turn t = record { rows = rows; turn = t; ambient = a; pending = d }

  -- the parts after it
  parts_so : (r : Side) (l : Landing) (W : Lands ts r rows p k l) → present ts (set rows l.part l.row) ≡ set (present ts rows) p (row W.tree l.row)
  parts_so r l W = ap (λ q. present ts (set rows q l.row)) W.part ∙ present_set ts rows p l.row W.tree W.held

  turn_so : (r : Side) (t : Turn) (l : Landing) (W : Lands ts r rows p k l) → turn_by t l.hottest ≡ turn_to t (set (present ts rows) p (row W.tree l.row))
  turn_so r t l W =
      let xs : List Tree = set (present ts rows) p (row W.tree l.row) in
      ap (turn_by t) W.hottest ∙ turn_by_lem t (any_open xs) (hottest xs)

  move_lands : (l : Landing) (W : Lands ts s rows p k l) → game_of ts s (by_move (at_turn Ours) l) ≡ moved (game_of ts s (at_turn Ours)) p (row W.tree l.row)
  move_lands l W =
      let xs : List Tree = set (present ts rows) p (row W.tree l.row) in
      ap (λ zs. state s zs (turn_by Theirs l.hottest) a None) (parts_so s l W) ∙ ap (λ t. state s xs t a None) (turn_so s Theirs l W)

  move_so : (t : Turn) (l : Result Landing Refusal) → Leads ts s rows p k l
      → (game_of ts s (after (at_turn t) Move l) ≡ step (game_of ts s (at_turn t)) (move p k)) × (answer t Move l ≡ done (our_pick (game_of ts s (at_turn t)) p k))
  move_so Over l W = (refl, refl)
  move_so Theirs l W = (refl, refl)
  move_so Ours (Err n) e =
      let g : Game = game_of ts s (at_turn Ours) in (ap (unless_refused g (moved g p)) (sym e), ap done (sym e))
  move_so Ours (Ok l) W =
      let g : Game = game_of ts s (at_turn Ours) in
      (move_lands l W ∙ ap (unless_refused g (moved g p)) (sym W.found), ap done (sym W.found))

  game_cond : (b : Bool) (y z : Play) → game_of ts s (cond b y z) ≡ cond b (game_of ts s y) (game_of ts s z)
  game_cond true y z = refl
  game_cond false y z = refl

  reply_lands : (l : Landing) (W : Lands ts (other s) rows p k l) → game_of ts s (by_reply (at_turn Theirs) l) ≡ replied (game_of ts s (at_turn Theirs)) p (row W.tree l.row)
  reply_lands l W =
      let o : Tree = row W.tree l.row in
      let xs : List Tree = set (present ts rows) p o in
      let zs : List Tree = present ts (set rows l.part l.row) in
      let t : Turn = turn_by Ours l.hottest in
      let hot : hotter_than a l.heat ≡ hotter a o = ap (hotter_than a) W.heat ∙ hotter_by a o in
      let cool : cooled_by a l.hottest ≡ cooled a xs = ap (cooled_by a) W.hottest ∙ cooled_by_lem a (any_open xs) (hottest xs) in
      let one : state s zs t a (Some l.part) ≡ state s xs (turn_to Ours xs) a (Some p) =
      ap (λ ys. state s ys t a (Some l.part)) (parts_so (other s) l W)
      ∙ ap (λ u. state s xs u a (Some l.part)) (turn_so (other s) Ours l W)
      ∙ ap (λ q. state s xs (turn_to Ours xs) a (Some q)) W.part in
      let two : state s zs t (cooled_by a l.hottest) None ≡ state s xs (turn_to Ours xs) (cooled a xs) None =
      ap (λ ys. state s ys t (cooled_by a l.hottest) None) (parts_so (other s) l W)
      ∙ ap (λ u. state s xs u (cooled_by a l.hottest) None) (turn_so (other s) Ours l W)
      ∙ ap (λ c. state s xs (turn_to Ours xs) c None) cool in
      game_cond (hotter_than a l.heat) _ _
      ∙ ap (λ b. cond b (state s zs t a (Some l.part)) (state s zs t (cooled_by a l.hottest) None)) hot
      ∙ ap (λ g. cond (hotter a o) g (state s zs t (cooled_by a l.hottest) None)) one
      ∙ ap (λ g. cond (hotter a o) (state s xs (turn_to Ours xs) a (Some p)) g) two

  reply_so : (t : Turn) (l : Result Landing Refusal) → Leads ts (other s) rows p k l
      → (game_of ts s (after (at_turn t) Reply l) ≡ step (game_of ts s (at_turn t)) (reply p k)) × (answer t Reply l ≡ done (their_pick (game_of ts s (at_turn t)) p k))
  reply_so Over l W = (refl, refl)
  reply_so Ours l W = (refl, refl)
  reply_so Theirs (Err n) e =
      let g : Game = game_of ts s (at_turn Theirs) in (ap (unless_refused g (replied g p)) (sym e), ap done (sym e))
  reply_so Theirs (Ok l) W =
      let g : Game = game_of ts s (at_turn Theirs) in
      (reply_lands l W ∙ ap (unless_refused g (replied g p)) (sym W.found), ap done (sym W.found))

pub our_move_so : (y z : Play) (l : Result Landing Refusal) (r : Result (Unit {0}) Refusal) → z ≡ after y Move l → r ≡ answer y.turn Move l → OurMove y l z r
our_move_so y z l r e f ts s p k W =
    let (g, q) = move_so ts s y.rows y.ambient y.pending p k y.turn l W in
    (ap (game_of ts s) e ∙ g, f ∙ q)

pub their_reply_so : (y z : Play) (l : Result Landing Refusal) (r : Result (Unit {0}) Refusal) → z ≡ after y Reply l → r ≡ answer y.turn Reply l → TheirReply y l z r
their_reply_so y z l r e f ts s p k W =
    let (g, q) = reply_so ts s y.rows y.ambient y.pending p k y.turn l W in
    (ap (game_of ts s) e ∙ g, f ∙ q)

-- ---- the rows after it, and that a refusal changes nothing
cond_rows : (b : Bool) (y z : Play) → z.rows ≡ y.rows → (cond b y z).rows ≡ y.rows
cond_rows true y z e = refl
cond_rows false y z e = e

module _ (rows : List ℕ) (a : ℕ) (d : Option ℕ) where
  abbrev turned : Turn → Play
  turned t = record { rows = rows; turn = t; ambient = a; pending = d }

  rows_so : (t : Turn) (v : Event) (l : Result Landing Refusal) → (after (turned t) v l).rows ≡ rows_after rows l (answer t v l)
  rows_so Ours Move (Ok l) = refl
  rows_so Ours Move (Err n) = refl
  rows_so Ours Reply (Ok l) = refl
  rows_so Ours Reply (Err n) = refl
  rows_so Theirs Move (Ok l) = refl
  rows_so Theirs Move (Err n) = refl
  rows_so Theirs Reply (Ok l) = cond_rows (hotter_than a l.heat) _ _ refl
  rows_so Theirs Reply (Err n) = refl
  rows_so Over Move (Ok l) = refl
  rows_so Over Move (Err n) = refl
  rows_so Over Reply (Ok l) = refl
  rows_so Over Reply (Err n) = refl

  kept_so : (t : Turn) (v : Event) (l : Result Landing Refusal) → Kept (turned t) (after (turned t) v l) (answer t v l)
  kept_so Ours Move (Ok l) = tt
  kept_so Ours Move (Err n) = refl
  kept_so Ours Reply l = refl
  kept_so Theirs Move l = refl
  kept_so Theirs Reply (Ok l) = tt
  kept_so Theirs Reply (Err n) = refl
  kept_so Over Move l = refl
  kept_so Over Reply l = refl

pub rows_after_lem : (y z : Play) (v : Event) (l : Result Landing Refusal) (r : Result (Unit {0}) Refusal) → z ≡ after y v l → r ≡ answer y.turn v l → z.rows ≡ rows_after y.rows l r
rows_after_lem y z v l r e f =
    ap (λ (x : Play). x.rows) e ∙ rows_so y.rows y.ambient y.pending y.turn v l ∙ ap (rows_after y.rows l) (sym f)

pub kept_after : (y z : Play) (v : Event) (l : Result Landing Refusal) (r : Result (Unit {0}) Refusal) → z ≡ after y v l → r ≡ answer y.turn v l → Kept y z r
kept_after y z v l r e f =
    subst (Kept y z) (sym f) (subst (λ x. Kept y x (answer y.turn v l)) (sym e) (kept_so y.rows y.ambient y.pending y.turn v l))
