-- A game after a call: it stands on rows, some story is behind it, and a refused call leaves it as it was.
use mathlib.Core.HLevel.{is_prop→PathP}
use Rattle.std.proofs.Common.{◌≡◌, ℕ, ◌<◌, ◌≤◌, List, length, get_or, replicate, ℤ, Some, Ok, Err, Result, sym, refl, ap, ◌∙◌, subst, arith}
use mathlib.Core.Logic.{∥∥₁_elim, ∥∥₁_prop}
use native.Mathlib.Bridge.{le_prop}
use std.HLevel.{Π_prop}
use Rattle.std.proofs.lemmas.List.{length-set}
use Rattle.terms.specs.declared.side.Side.{Side}
use Rattle.terms.specs.declared.fault.Refusal.{Refusal}
use Rattle.terms.specs.Sides.{other}
use Rattle.theory.specs.Trees.{Tree, at, size}
use Rattle.spreading.specs.Order.{none}
use Rattle.spreading.proofs.Rows.{size_children}
use Rattle.measures.proofs.Entries.{all_replicate}
use Rattle.stories.specs.Calls.{move, reply}
use Rattle.stories.specs.Stories.{◌then◌}
use Rattle.bank.specs.declared.bank.Bank.{Bank}
use Rattle.bank.specs.Contents.{trees}
use Rattle.play.specs.declared.record.Play.{Play}
use Rattle.play.specs.declared.record.Landing.{Landing}
use Rattle.play.specs.Record.{Inside, rows_after, Kept as Same}
use Rattle.play.specs.Answers.{GainIs}
use Rattle.play.specs.Standing.{Leads, OurMove, TheirReply}
use Rattle.play.proofs.Tales.{play_told_lem}
use Rattle.game.specs.declared.game.Game.{Game}
use Rattle.game.specs.Rows.{position, OnRows, Storied, OnRow}
use Rattle.game.specs.declared.present.Present.{Present}
use Rattle.game.specs.Presents.{gain_in}
use Rattle.game.specs.State.{state, parts_now, gain_of, Kept, PendingGains}
use Rattle.game.proofs.Answered.{pending_there}
use Rattle.game.proofs.Landings.{rows_set}
use Rattle.game.proofs.Positions.{few_parts}
use Rattle.game.proofs.Presents.{present_long, present_at}

-- ---- rows
pub first_rows : (n : ℕ) (ts : List Tree) → OnRows ts (replicate n 0)
first_rows n ts p h =
    all_replicate (λ r. r < size (get_or ts p none)) 0 n 0 (omega (arith, size_children (get_or ts p none))) (omega (arith, size_children (get_or ts p none))) p

pub inside_so : (b : Bank) (l : Result Landing Refusal) → OnRow (trees b) l → Inside l
inside_so b (Ok l) h = omega (arith, h.part, few_parts b)
inside_so b (Err n) h = tt

rows_go : (ts : List Tree) (rows : List ℕ) (l : Result Landing Refusal) (r : Result (Unit {0}) Refusal) → length ts ≤ length rows → OnRow ts l → OnRows ts rows → OnRows ts (rows_after rows l r)
rows_go ts rows (Ok l) (Ok u) wide h on = rows_set ts rows l.part l.row (omega (arith, h.part)) h on
rows_go ts rows (Ok l) (Err n) wide h on = on
rows_go ts rows (Err n) r wide h on = on

pub rows_after_lem : (ts : List Tree) (rows zs : List ℕ) (l : Result Landing Refusal) (r : Result (Unit {0}) Refusal) → length ts ≤ length rows → zs ≡ rows_after rows l r → OnRow ts l → OnRows ts rows → OnRows ts zs
rows_after_lem ts rows zs l r wide e h on = subst (OnRows ts) (sym e) (rows_go ts rows l r wide h on)

long_go : (rows : List ℕ) (l : Result Landing Refusal) (r : Result (Unit {0}) Refusal) → length (rows_after rows l r) ≡ length rows
long_go rows (Ok l) (Ok u) = length-set rows l.part l.row
long_go rows (Ok l) (Err n) = refl
long_go rows (Err n) r = refl

pub long_after : (n : ℕ) (rows zs : List ℕ) (l : Result Landing Refusal) (r : Result (Unit {0}) Refusal) → n ≤ length rows → zs ≡ rows_after rows l r → n ≤ length zs
long_after n rows zs l r wide e = omega (arith, ap length e, long_go rows l r)

-- where a part stands
part_now : (g : Game) (p : ℕ) → p < length (state g).parts → p < length (trees g.bank.now)
part_now g p h = omega (arith, present_long (trees g.bank.now) g.play.rows g.enough)

pub at_now : (g : Game) (p : ℕ) → p < length (state g).parts → at (state g).parts p ≡ Some (position (trees g.bank.now) p (get_or g.play.rows p 0))
at_now g p h = present_at (trees g.bank.now) g.play.rows p g.enough (part_now g p h)

-- ---- stories
module _ (ts : List Tree) (s : Side) (y z : Play) (l : Result Landing Refusal) (r : Result (Unit {0}) Refusal) (p k : ℕ) where
  pub move_storied : OurMove y l z r → Leads ts s y.rows p k l → Storied ts s y → Storied ts s z
  move_storied M W t = ∥∥₁_elim t ∥∥₁_prop (λ q. ∣ (q.0 then move p k, ((play_told_lem q.0 ts s y q.1).moved l z r p k M W).0) ∣₁)

  pub reply_storied : TheirReply y l z r → Leads ts (other s) y.rows p k l → Storied ts s y → Storied ts s z
  reply_storied M W t = ∥∥₁_elim t ∥∥₁_prop (λ q. ∣ (q.0 then reply p k, ((play_told_lem q.0 ts s y q.1).replied l z r p k M W).0) ∣₁)

-- ---- two games with the same fields are one
rows_prop : (ts : List Tree) (rows : List ℕ) → IsProp (OnRows ts rows)
rows_prop ts rows = Π_prop (λ p. Π_prop (λ h. le_prop))

pub one_game : (g h : Game) → h.bank ≡ g.bank → h.side ≡ g.side → h.play ≡ g.play → h ≡ g
one_game g h b s e = λ i. record {
  bank = b i;
  side = s i;
  play = e i;
  enough = is_prop→PathP (λ j. length (trees (b j).now) ≤ length (e j).rows) (λ j. le_prop) h.enough g.enough i;
  on_rows = is_prop→PathP (λ j. OnRows (trees (b j).now) (e j).rows) (λ j. rows_prop (trees (b j).now) (e j).rows) h.on_rows g.on_rows i;
  told = is_prop→PathP (λ j. Storied (trees (b j).now) (s j) (e j)) (λ j. ∥∥₁_prop) h.told g.told i;
}

pub kept_game : (g h : Game) (r : Result (Unit {0}) Refusal) → h.bank ≡ g.bank → h.side ≡ g.side → Same g.play h.play r → Kept g h r
kept_game g h (Ok u) b s e = tt
kept_game g h (Err n) b s e = one_game g h b s e

pub one_present : (g : Game) (w : Present) → w.bank ≡ g.bank → w.rows ≡ g.play.rows → w ≡ parts_now g
one_present g w b e = λ i. record {
  bank = b i;
  rows = e i;
  enough = is_prop→PathP (λ j. length (trees (b j).now) ≤ length (e j)) (λ j. le_prop) w.enough g.enough i;
  on_rows = is_prop→PathP (λ j. OnRows (trees (b j).now) (e j)) (λ j. rows_prop (trees (b j).now) (e j)) w.on_rows g.on_rows i;
}

-- ---- the gain of the pending part
pub gains : (g : Game) (p : ℕ) (v : ℤ) → g.play.pending ≡ Some p → v ≡ gain_of (state g) p → PendingGains (state g) v
gains g p v e h =
    let there = at_now g p (pending_there (trees g.bank.now) g.side g.play g.told p e) in
    let gain : GainIs g.side g.play.ambient (state g).parts (Some p) v = (position (trees g.bank.now) p (get_or g.play.rows p 0), there, h ∙ ap (gain_in g.side g.play.ambient) there) in
    subst (λ d. GainIs g.side g.play.ambient (state g).parts d v) (sym e) gain
