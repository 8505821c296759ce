-- What the figures and corners of a part tell of its rows, and so what a diagram shows.
use Rattle.std.proofs.Common.{◌≡◌, ℕ, zero, suc, ◌<◌, ◌≤◌, ltb, List, [], ◌∷◌, length, get_or, ℤ, pos, ◌≤ℤ◌, Some, None, Option, MatchOption, sym, refl, ap, ◌∙◌, subst, inl, inr, le_of_suc-le-suc, not-suc-le-zero, arith}
use mathlib.Core.Logic.{∥∥₁_elim}
use native.Mathlib.Bridge.{le_prop}
use lib.IntN.{ℤ_set}
use Rattle.std.proofs.Props.{props}
use Rattle.std.proofs.lemmas.List.FromFn.{get_or-map-range_with_len}
use Rattle.std.proofs.lemmas.List.{append-nil}
use Rattle.std.proofs.lemmas.Int.{ints}
use Rattle.std.proofs.lemmas.Bool.{lt-ltb, le-ltb, cond-true, cond-false, cases_lt}
use Rattle.terms.specs.declared.side.Side.{Side}
use Rattle.terms.specs.declared.side.Side.TheVariants.{Left, Right}
use Rattle.theory.specs.Trees.{Tree, at, size}
use Rattle.theory.specs.Fair.{Fair}
use Rattle.theory.specs.Walls.{left_wall, right_wall, temperature, mean}
use Rattle.theory.specs.Corners.{Ordered, rise, rising, falling}
use Rattle.theory.proofs.Meet.{walls_slope_lem}
use Rattle.theory.proofs.Range.{walls_join_lem}
use Rattle.theory.proofs.Fairness.{fair}
use Rattle.walls.specs.Ranges.{Tame}
use Rattle.walls.specs.Readings.{drawn}
use Rattle.spreading.specs.Order.{none, row}
use Rattle.thermographs.specs.Figures.{strip_of, blank, figures_at, figures_rows, wall_of, run, Tells}
use Rattle.thermographs.specs.declared.figures.Figures.{Figures}
use Rattle.thermographs.proofs.Strips.{figures_tell}
use Rattle.thermographs.proofs.Told.{told_is_read}
use Rattle.thermographs.proofs.Pass.{rows_fair}
use Rattle.bank.specs.Contents.{trees}
use Rattle.bank.specs.Held.{part_figures, Held}
use Rattle.bank.specs.Parts.{part_of, There}
use Rattle.bank.specs.Diagrams.{left_of, right_of, DrawnBy, Pictures, Nothing, Shows}
use Rattle.bank.specs.Positions.{position_of, Found}
use Rattle.bank.specs.declared.bank.Bank.{Bank}
use Rattle.bank.specs.declared.columns.Columns.{Columns}
use Rattle.bank.specs.declared.diagram.Diagram.{Diagram}
use Rattle.bank.specs.declared.position.Position.{Position}
use Rattle.bank.proofs.Drafting.{length_figures}

pub ≤ℤ_prop : {a b : ℤ} → IsProp (a ≤ℤ b)
≤ℤ_prop {a = a} {b = b} = hlevel props

pub get_d_figures : (t : Tree) (k : ℕ) (d : Figures) → k < size t → get_or (part_figures t) k d ≡ figures_at t 0 k
unfolding figures_rows
get_d_figures t k d lt = get_or-map-range_with_len (figures_at t 0) 0 (size t) k k d lt (omega arith)

-- a part's figures tell the walls of its rows by its corners
row_tells : (t : Tree) (i : ℕ) → i < size t → Tells (strip_of t) (figures_at t 0 i) (row t i)
row_tells t i lt = subst (λ l. Tells l (figures_at t 0 i) (row t i)) (append-nil (strip_of t)) (figures_tell t i lt [] [])

-- ---- where a row is
at_some : (ts : List Tree) (p : ℕ) (t : Tree) → at ts p ≡ Some t → (p < length ts) × (get_or ts p none ≡ t)
at_some [] p t e = let z : ◌≡◌ {A = ℕ} 0 1 = cc in absurd (omega arith)
at_some (x ∷ ts) zero t e = let q : x ≡ t = cc in (omega arith, q)
at_some (x ∷ ts) (suc p) t e = let r = at_some ts p t e in (omega (arith, r.0), r.1)

at_none : (ts : List Tree) (p : ℕ) → at ts p ≡ None → length ts ≤ p
at_none [] p e = omega arith
at_none (x ∷ ts) zero e = let z : ◌≡◌ {A = ℕ} 0 1 = cc in absurd (omega arith)
at_none (x ∷ ts) (suc p) e = omega (arith, at_none ts p e)

pub at_there : (ts : List Tree) (p : ℕ) → p < length ts → at ts p ≡ Some (get_or ts p none)
at_there [] p h = absurd (not-suc-le-zero h)
at_there (x ∷ ts) zero h = refl
at_there (x ∷ ts) (suc p) h = at_there ts p (le_of_suc-le-suc h)

pub part_there : {A : Type 0} (entries : Tree → List A) (ts : List Tree) (p : ℕ) → p < length ts → part_of entries ts p ≡ entries (get_or ts p none)
part_there entries ts p lt = cond-true (ltb p (length ts)) (entries (get_or ts p none)) [] (lt-ltb p (length ts) lt)

part_gone : {A : Type 0} (entries : Tree → List A) (ts : List Tree) (p : ℕ) → length ts ≤ p → part_of entries ts p ≡ []
part_gone entries ts p ge = cond-false (ltb p (length ts)) (entries (get_or ts p none)) [] (le-ltb p (length ts) ge)

-- a row that has figures is one of its part's, and the other way round
pub is_there : (ts : List Tree) (p i : ℕ) (figures : List Figures) → figures ≡ part_of part_figures ts p → i < length figures → There ts p i
is_there ts p i figures g lt =
    elim (cases_lt p (length ts)) [
      | inl h ↦ record { part = h; line = omega (arith, ap length (g ∙ part_there part_figures ts p h), length_figures (get_or ts p none)) }
      | inr h ↦ absurd (omega (arith, ap length (g ∙ part_gone part_figures ts p h)))
    ]

pub has_figures : (ts : List Tree) (p i : ℕ) (figures : List Figures) → There ts p i → figures ≡ part_of part_figures ts p → i < length figures
has_figures ts p i figures h g = omega (arith, ap length (g ∙ part_there part_figures ts p h.part), length_figures (get_or ts p none), h.line)

pub shows_nothing : (ts : List Tree) (p i : ℕ) (d : Diagram) → (There ts p i → ⊥) → Nothing d → Shows ts p i d
shows_nothing ts p i d gone n = record {
  present = λ t e lt.
      let a = at_some ts p t e in
      absurd (gone (record { part = a.0; line = subst (λ x. i < size x) (sym a.1) lt }));
  past = λ t e le. n;
  absent = λ e. n;
}

pub shows_row : (ts : List Tree) (p i : ℕ) (d : Diagram) → There ts p i → Pictures (row (get_or ts p none) i) d → Shows ts p i d
shows_row ts p i d h s = record {
  present = λ t e lt. subst (λ x. Pictures (row x i) d) (at_some ts p t e).1 s;
  past = λ t e le. absurd (omega (arith, h.line, ap size (at_some ts p t e).1));
  absent = λ e. absurd (omega (arith, h.part, at_none ts p e));
}

-- ---- a row's figures, read off the part
pub figures_are : (ts : List Tree) (p i : ℕ) (figures : List Figures) → There ts p i → figures ≡ part_of part_figures ts p → get_or figures i blank ≡ figures_at (get_or ts p none) 0 i
figures_are ts p i figures h g = ap (λ l. get_or l i blank) (g ∙ part_there part_figures ts p h.part) ∙ get_d_figures (get_or ts p none) i blank h.line

pub told : (ts : List Tree) (p i : ℕ) (f : Figures) (corners : List ℕ) → There ts p i → f ≡ figures_at (get_or ts p none) 0 i → corners ≡ part_of strip_of ts p
    → Tells corners f (row (get_or ts p none) i)
told ts p i f corners h g e =
    let t = get_or ts p none in
    let strips : corners ≡ strip_of t = e ∙ part_there strip_of ts p h.part in
    subst (λ l. Tells l f (row t i)) (sym strips) (subst (λ y. Tells (strip_of t) y (row t i)) (sym g) (row_tells t i h.line))

pub fair_row : (c : Columns) (ts : List Tree) (p i : ℕ) → There ts p i → Held c ts → Fair (row (get_or ts p none) i)
fair_row c ts p i h held =
    let s = held.rows.seatable p h.part in
    rows_fair (get_or ts p none) (fair (get_or ts p none) s.lawful s.warm s.low) i h.line

-- ---- no walls
flat : (t : ℕ) → rise [] t ≡ 0
flat zero = refl
flat (suc t) = omega (arith, flat t)

pub no_rise : Ordered []
no_rise i h = absurd (not-suc-le-zero h)

pub zero_left : Tame (falling (pos 0) [])
zero_left t = let e = flat t in (omega (arith, ints), omega (arith, ints))

pub zero_right : Tame (rising (pos 0) [])
zero_right t = let e = flat t in (omega (arith, ints), omega (arith, ints))

-- ---- the diagram of a row: its figures tell its walls by the corners
module _ (x : Tree) (f : Figures) (corners : List ℕ) (tells : Tells corners f x) (some : ∥ Fair x ∥₁) where
  pub told_rising : (s : Side) → Ordered (run (wall_of f s) corners)
  told_rising s i lt = ∥∥₁_elim some le_prop (λ fit. (told_is_read corners f x fit tells).ordered s i lt)

  pub told_fitting : (s : Side) → Tame (drawn s (wall_of f s).start (run (wall_of f s) corners))
  told_fitting s t = (
    ∥∥₁_elim some ≤ℤ_prop (λ fit. ((told_is_read corners f x fit tells).tame s t).0),
    ∥∥₁_elim some ≤ℤ_prop (λ fit. ((told_is_read corners f x fit tells).tame s t).1),
  )

  pub pictures : (d : Diagram) → f.mean ≡ mean x → f.temperature ≡ temperature x → DrawnBy f corners d → Pictures x d
  pictures d m q b =
      let heat : d.temperature ≡ temperature x = b.heat ∙ q in
      let means : d.mean ≡ mean x = b.means ∙ m in
      record {
        left_corners = b.left ∙ tells.turns Left;
        right_corners = b.right ∙ tells.turns Right;
        left_start = b.left_start ∙ tells.start Left;
        right_start = b.right_start ∙ tells.start Right;
        means = means;
        heat = heat;
        left_rises = subst Ordered (sym b.left) (told_rising Left);
        right_rises = subst Ordered (sym b.right) (told_rising Right);
        left = left;
        right = right;
        order = λ t. ∥∥₁_elim some ≤ℤ_prop (λ fit.
            let l = left t in
            let r = right t in
            let o = (walls_slope_lem x fit).order t in
            omega (arith, ints));
        meet = λ t le. (
          ∥∥₁_elim some (ℤ_set (left_of d t) d.mean) (λ fit. left t ∙ (walls_join_lem x fit).left t (omega arith) ∙ sym means),
          ∥∥₁_elim some (ℤ_set (right_of d t) d.mean) (λ fit. right t ∙ (walls_join_lem x fit).right t (omega arith) ∙ sym means),
        );
      }
    where
      left : (t : ℕ) → left_of d t ≡ left_wall x t
      left t =
          ap (λ v. falling v d.left.now t) b.left_start ∙ ap (λ cs. falling f.left.start cs t) b.left
          ∙ ∥∥₁_elim some (ℤ_set (falling f.left.start (run f.left corners) t) (left_wall x t)) (λ fit. (told_is_read corners f x fit tells).reads Left t)

      right : (t : ℕ) → right_of d t ≡ right_wall x t
      right t =
          ap (λ v. rising v d.right.now t) b.right_start ∙ ap (λ cs. rising f.right.start cs t) b.right
          ∙ ∥∥₁_elim some (ℤ_set (rising f.right.start (run f.right corners) t) (right_wall x t)) (λ fit. (told_is_read corners f x fit tells).reads Right t)

-- a row's diagram, or nothing where there is no such row
pub shown : (b : Bank) (k i : ℕ) (o : Option Position) (d e : Diagram) → Found b k i o → MatchOption o (d ≡ e) (λ p. Pictures (position_of p) d) → Nothing e → Shows (trees b) k i d
shown b k i None d e f m n = shows_nothing (trees b) k i d f (subst Nothing (sym m) n)
shown b k i (Some p) d e f m n =
    let there : There (trees b) k i =
    subst (There (trees b) k) f.row (subst (λ q. There (trees b) q p.row) f.part (subst (λ c. There (trees c) p.part p.row) f.bank p.there)) in
    let is : position_of p ≡ row (get_or (trees b) k none) i =
    ap (λ c. row (get_or (trees c) p.part none) p.row) f.bank ∙ ap (λ q. row (get_or (trees b) q none) p.row) f.part ∙ ap (row (get_or (trees b) k none)) f.row in
    shows_row (trees b) k i d there (subst (λ x. Pictures x d) is m)
