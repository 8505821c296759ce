-- Where an option leads.
use Rattle.std.proofs.Common.{◌≡◌, ℕ, zero, suc, ◌+◌, ◌<◌, ◌≤◌, ◌≢◌, List, [], ◌∷◌, length, get_or, set, Some, None, Ok, Err, Option, Result, sym, refl, ap, ◌∙◌, subst, le_of_suc-le-suc, not-suc-le-zero, arith}
use mathlib.Core.Logic.{∥∥₁_elim}
use native.Mathlib.Decide.{dec_lt}
use native.Mathlib.Bridge.{le_prop}
use Rattle.std.proofs.lemmas.List.{get_or-set_same, get_or-set_other}
use Rattle.terms.specs.declared.side.Side.{Side}
use Rattle.terms.specs.declared.side.Side.TheVariants.{Left, Right}
use Rattle.terms.specs.declared.fault.Refusal.{Refusal}
use Rattle.terms.specs.declared.fault.Refusal.TheVariants.{NoSuchPart, NoSuchOption}
use Rattle.theory.specs.Limits.{option_limit}
use Rattle.theory.specs.Trees.{Tree, ended, branch, at, options, size, Lawful}
use Rattle.spreading.specs.Order.{none, row, sizes, first}
use Rattle.spreading.specs.Shapes.{row_limit, shape_of, shape_at, start_of, count_of}
use Rattle.spreading.specs.declared.shape.Shape.TheVariants.{Open}
use Rattle.spreading.specs.declared.shape.Fork.{Fork}
use Rattle.spreading.specs.declared.shape.Shape.{Shape}
use Rattle.spreading.proofs.Everywhere.{rows_lawful}
use Rattle.spreading.proofs.Passes.{options_noted}
use Rattle.spreading.proofs.Shapes.{count_is}
use Rattle.stories.specs.Game.{choose, find, or_else}
use Rattle.bank.specs.declared.bank.Bank.{Bank}
use Rattle.bank.specs.Contents.{trees}
use Rattle.bank.specs.Parts.{There}
use Rattle.bank.specs.Positions.{tree_of, position_of, IsAt}
use Rattle.bank.specs.declared.position.Position.{Position}
use Rattle.bank.proofs.Showing.{at_there}
use Rattle.bank.proofs.Trees.{trees_held, rows_trees}
use Rattle.play.specs.declared.record.Landing.{Landing}
use Rattle.play.specs.Standing.{heat_of, hottest_of, present, Lands}
use Rattle.play.proofs.Records.{present_set}
use Rattle.game.specs.Rows.{position, OnRows}
use Rattle.game.specs.Options.{Leads}
use Rattle.game.specs.Presents.{standing, At, StandsAt}
use Rattle.game.specs.declared.present.Present.{Present}
use Rattle.game.proofs.Presents.{same_position}

-- ---- the rows of a bank are few
part_size : (ts : List Tree) (p : ℕ) → p < length ts → size (get_or ts p none) ≤ sizes ts
part_size [] p h = absurd (not-suc-le-zero h)
part_size (t ∷ ts) zero h = omega arith
part_size (t ∷ ts) (suc p) h = omega (arith, part_size ts p (le_of_suc-le-suc h))

pub few_rows : (b : Bank) (p : ℕ) → p < length (trees b) → size (get_or (trees b) p none) ≤ row_limit
few_rows b p h = omega (arith, part_size (trees b) p h, rows_trees b, b.within.1)

-- and so are the options of a position
lawful_options : (x : Tree) (s : Side) → Lawful x → length (options x s) ≤ option_limit
lawful_options (ended v) s l = omega arith
lawful_options (branch L R) Left l = l.0
lawful_options (branch L R) Right l = l.1

pub few_options : (b : Bank) (p i : ℕ) (s : Side) → There (trees b) p i → length (options (position (trees b) p i) s) ≤ option_limit
few_options b p i s h =
    ∥∥₁_elim (trees_held b) le_prop (λ held. lawful_options (position (trees b) p i) s (rows_lawful (get_or (trees b) p none) (held.rows.seatable p h.part).lawful i h.line))

-- ---- the option of a row
at_past : (xs : List Tree) (k : ℕ) → length xs ≤ k → at xs k ≡ None
at_past [] k h = refl
at_past (x ∷ xs) zero h = absurd (not-suc-le-zero h)
at_past (x ∷ xs) (suc k) h = at_past xs k (le_of_suc-le-suc h)

choose_at : (f : ℕ) (s : Side) (x : Tree) (k : ℕ) (o : Fork) → shape_of f x ≡ Open o → choose s x k ≡ or_else NoSuchOption (at (options x s) k)
choose_at f s (ended v) k o e = let z : ◌≡◌ {A = ℕ} 0 1 = cc in absurd (omega arith)
choose_at f s (branch L R) k o e = refl

-- it stands behind the row where the side's options begin
leads_to : (t : Tree) (i : ℕ) → i < size t → (s : Side) (k : ℕ) → k < length (options (row t i) s)
    → (start_of (shape_at t i) s + k < size t) × (row t (start_of (shape_at t i) s + k) ≡ get_or (options (row t i) s) k none)
leads_to t i h s k few = options_noted (λ n x. (n < size t) × (row t n ≡ x)) t i h (λ n ge lt. (lt, refl)) s k few

-- how many options a position has, by its shape
pub count_options : (b : Bank) (p i : ℕ) (s : Side) → There (trees b) p i → (x : Shape) (m : ℕ) → x ≡ shape_at (get_or (trees b) p none) i → m ≡ count_of x s
    → (m ≡ length (options (position (trees b) p i) s)) × (m ≤ option_limit)
count_options b p i s h x m e c =
    let t : Tree = get_or (trees b) p none in
    let is : m ≡ length (options (position (trees b) p i) s) = c ∙ ap (λ (y : Shape). count_of y s) e ∙ count_is (first t i) (row t i) s in
    (is, omega (arith, few_options b p i s h))

-- ---- the position to which an option leads
module _ (p : Position) (s : Side) (k m n : ℕ) (x : Shape) (e : x ≡ shape_at (tree_of p) p.row) (c : m ≡ count_of x s) where
  many : m ≡ length (options (position_of p) s)
  many = (count_options p.bank.now p.part p.row s p.there x m e c).0

  pub option_none : m ≤ k → at (options (position_of p) s) k ≡ None
  option_none h = at_past (options (position_of p) s) k (omega (arith, many))

  pub option_row : k < m → n ≡ start_of x s → (n + k < size (tree_of p)) × (row (tree_of p) (n + k) ≡ get_or (options (position_of p) s) k none)
  option_row lt f =
      subst (λ j. (j + k < size (tree_of p)) × (row (tree_of p) (j + k) ≡ get_or (options (position_of p) s) k none)) (sym (f ∙ ap (λ (y : Shape). start_of y s) e))
      (leads_to (tree_of p) p.row p.there.line s k (omega (arith, many)))

  pub option_there : k < m → n ≡ start_of x s → There (trees p.bank.now) p.part (n + k)
  option_there lt f = record { part = p.there.part; line = (option_row lt f).0 }

  pub option_is : (q : Position) → k < m → n ≡ start_of x s → IsAt p.bank.now p.part (n + k) q → Leads p s k q
  option_is q lt f i = record {
    bank = i.bank;
    part = i.part;
    option = at_there (options (position_of p) s) k (omega (arith, many)) ∙ ap (λ x. Some x) (sym (option_row lt f).1 ∙ same_position p.bank.now p.part (n + k) q i);
  }

-- ---- the parts after it
pub rows_set : (ts : List Tree) (rows : List ℕ) (p r : ℕ) → p < length rows → There ts p r → OnRows ts rows → OnRows ts (set rows p r)
rows_set ts rows p r room h on q lt =
    elim (dec_lt q p) [
      | yes l ↦ let ne : q ≢ p = omega arith in subst (λ n. n < size (get_or ts q none)) (sym (get_or-set_other rows p q r 0 ne)) (on q lt)
      | no n ↦
          elim (dec_lt p q) [
            | yes l ↦ let ne : q ≢ p = omega arith in subst (λ n. n < size (get_or ts q none)) (sym (get_or-set_other rows p q r 0 ne)) (on q lt)
            | no m ↦
                let same : p ≡ q = omega arith in
                subst (λ j. get_or (set rows p r) j 0 < size (get_or ts j none)) same
                (subst (λ n. n < size (get_or ts p none)) (sym (get_or-set_same rows p r 0 room)) h.line)
          ]
    ]

-- ---- in the game
module _ (w : Present) (s : Side) (p k : ℕ) where
  find_in : (m : Option Tree) → at (standing w) p ≡ m → find s (standing w) p k ≡ elim m as (λ _. Result Tree Refusal) [ None ↦ Err NoSuchPart | Some x ↦ choose s x k ]
  find_in m e = ap (λ (o : Option Tree). elim o as (λ _. Result Tree Refusal) [ None ↦ Err NoSuchPart | Some x ↦ choose s x k ]) e

  module _ (a : Position) (h : At w p a) where
    find_open : (x : Fork) (o : Option Tree) → shape_at (tree_of a) a.row ≡ Open x → at (options (position_of a) s) k ≡ o → find s (standing w) p k ≡ or_else NoSuchOption o
    find_open x o i e = find_in _ h.tree ∙ choose_at (first (tree_of a) a.row) s (position_of a) k x i ∙ ap (or_else NoSuchOption) e

    -- an option leads to q, and in v the part has come there
    module _ (q : Position) (v : Present) (l : Landing) (o : Leads a s k q) (to : StandsAt w q.part q.row v) (part : l.part ≡ p) (line : l.row ≡ q.row) where
      bank : q.bank.now ≡ w.bank.now
      bank = o.bank ∙ h.is.bank

      here : q.part ≡ p
      here = o.part ∙ h.is.part

      there : There (trees w.bank.now) p q.row
      there = subst (λ b. There (trees b) p q.row) bank (subst (λ j. There (trees q.bank.now) j q.row) here q.there)

      pub landed : (x : Fork) → shape_at (tree_of a) a.row ≡ Open x → l.heat ≡ heat_of (position_of q) → l.hottest ≡ hottest_of (standing v) → Lands (trees w.bank.now) s w.rows p k l
      landed x i heat hottest =
          let ts : List Tree = trees w.bank.now in
          let t : Tree = get_or ts p none in
          let held : at ts p ≡ Some t = at_there ts p there.part in
          let is : position_of q ≡ row t l.row = sym (same_position w.bank.now p l.row q (record { bank = bank; part = here; row = sym line })) in
          let rows : v.rows ≡ set w.rows p l.row = to.rows ∙ ap (λ j. set w.rows j q.row) here ∙ ap (set w.rows p) (sym line) in
          record {
            tree = t;
            held = held;
            part = part;
            found = find_open x _ i o.option ∙ ap (λ x. Ok x) is;
            heat = heat ∙ ap heat_of is;
            hottest = hottest ∙ ap (λ b. hottest_of (present (trees b) v.rows)) to.bank ∙ ap (λ rs. hottest_of (present ts rs)) rows ∙ ap hottest_of (present_set ts w.rows p l.row t held);
          }
