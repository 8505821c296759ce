-- What a seating leaves in the columns of a bank: the part behind the others, or all as it was.
use Rattle.std.proofs.Common.{◌≡◌, ℕ, ◌+◌, ◌-◌, ◌<◌, ◌≤◌, List, [], ◌∷◌, ◌++◌, length, get_or, take, drop, set, replicate, Some, Ok, Err, Option, Result, sym, refl, ap, ◌∙◌, subst, inl, inr, not-suc-le-zero, arith}
use lib.ListN.{length-replicate}
use Rattle.std.specs.List.{flat_map}
use Rattle.std.proofs.lemmas.Bool.{cases_lt}
use borrow.Rule.Slice.PartMut.{put_mid}
use Rattle.std.proofs.lemmas.List.{append-nil, drop_all, take_rest, length-drop, length-take-le, get_or_append_left, get_or-append_right, get_or-replicate, get_or-drop, get_or_past, map-set, length-map}
use Rattle.terms.specs.declared.fault.Refusal.{Refusal}
use Rattle.theory.specs.Trees.{Tree, size}
use Rattle.spreading.specs.Shapes.{row_limit, shapes_of, blank as blank_shape}
use Rattle.spreading.specs.declared.shape.Shape.{Shape}
use Rattle.thermographs.specs.Figures.{corner_limit, strip_of, blank}
use Rattle.thermographs.specs.declared.figures.Figures.{Figures}
use Rattle.encoding.specs.Columns.{part_limit, Column, Holds}
use Rattle.encoding.proofs.Columns.{put, column_none, column_more, column_wiped}
use Rattle.encoding.proofs.Holding.{held_none, held_more}
use Rattle.bank.specs.Held.{part_figures, row_starts, corner_starts, Held, Within}
use Rattle.bank.specs.Parts.{nothing}
use Rattle.bank.specs.Drafts.{lacks, onto, FillInto}
use Rattle.bank.proofs.Placing.{cause_by, Judged, Placed}
use Rattle.bank.specs.declared.columns.Columns.{Columns}
use Rattle.bank.specs.declared.columns.Extent.{Extent}
use Rattle.bank.proofs.Causes.{lacks_misfit, cause_misfit}
use Rattle.bank.proofs.Drafting.{length_figures}

pub columns_eq : (c c' : Columns) → c.shapes ≡ c'.shapes → c.figures ≡ c'.figures → c.corners ≡ c'.corners → c.starts ≡ c'.starts → c.parts ≡ c'.parts → c.used ≡ c'.used → c ≡ c'
columns_eq c c' a b d e f g = λ i. record { shapes = a i; figures = b i; corners = d i; starts = e i; parts = f i; used = g i }

-- what is free of a column
abbrev pub free : {A : Type 0} → ℕ → ℕ → List A → List A
free limit used xs = take (limit - used) (drop used xs)

free_is : {A : Type 0} (xs : List A) (limit used : ℕ) → length xs ≡ limit → free limit used xs ≡ drop used xs
free_is xs limit used e = ap (λ n. take (n - used) (drop used xs)) (sym e) ∙ take_rest xs used

pub length_free : {A : Type 0} (xs : List A) (limit used : ℕ) → length xs ≡ limit → length (free limit used xs) ≡ limit - used
length_free xs limit used e = ap length (free_is xs limit used e) ∙ length-drop used xs ∙ ap (λ n. n - used) e

-- the column once that is rewritten
rewritten : {A : Type 0} (xs after : List A) (limit used : ℕ) → length xs ≡ limit → used ≤ limit → put_mid used (limit - used) xs after ≡ take used xs ++ after
rewritten xs after limit used e room =
    ap (λ l. take used xs ++ (after ++ l)) (drop_all (limit - used) (drop used xs) (omega (arith, length-drop used xs))) ∙ ap (λ l. take used xs ++ l) (append-nil after)

column_back : {A : Type 0} (entries : Tree → List A) (d : A) (xs after : List A) (starts : List ℕ) (limit used : ℕ) (ts : List Tree) → length xs ≡ limit → used ≤ limit
    → Column entries d xs starts used ts → after ≡ replicate (length (free limit used xs)) d → put_mid used (limit - used) xs after ≡ xs
column_back entries d xs after starts limit used ts e room h is =
    rewritten xs after limit used e room ∙ ap (λ l. take used xs ++ l) (is ∙ ap (λ n. replicate n d) (length_free xs limit used e ∙ ap (λ n. n - used) (sym e)))
    ∙ column_wiped entries d xs starts used ts (omega arith) h

column_put : {A : Type 0} (xs after zs : List A) (limit used : ℕ) → length xs ≡ limit → used ≤ limit → after ≡ onto zs (free limit used xs) → put_mid used (limit - used) xs after ≡ put used xs zs
column_put xs after zs limit used e room is =
    rewritten xs after limit used e room ∙ ap (λ l. take used xs ++ l) (is ∙ ap (λ l. zs ++ drop (length zs) l) (free_is xs limit used e))

-- the columns have their lengths
pub record Full (c : Columns) : Type 0 where
  pub shapes : length c.shapes ≡ row_limit
  pub figures : length c.figures ≡ row_limit
  pub corners : length c.corners ≡ corner_limit
  pub starts : length c.starts ≡ part_limit

-- what the free rows and corners lack is why the tree is refused
lacks_cause : (c : Columns) (o : Option Tree) (t : Tree) → Within c → Full c → c.parts < part_limit → o ≡ Some t
    → cause_by c.parts c.used.rows c.used.turns o ≡ lacks (length (free row_limit c.used.rows c.shapes)) (length (free corner_limit c.used.turns c.corners)) t
lacks_cause c o t w f few e =
    cause_misfit c.parts c.used.rows c.used.turns o t few e
    ∙ sym (lacks_misfit t c.used.rows c.used.turns w.1 w.2)
    ∙ ap (λ n. lacks n (corner_limit - c.used.turns) t) (sym (length_free c.shapes row_limit c.used.rows f.shapes))
    ∙ ap (λ n. lacks (length (free row_limit c.used.rows c.shapes)) n t) (sym (length_free c.corners corner_limit c.used.turns f.corners))

-- the columns with their free parts rewritten
abbrev pub after_fill : Columns → List Shape → List Figures → List ℕ → Columns
after_fill c shapes figures corners = record {
  shapes = put_mid c.used.rows (row_limit - c.used.rows) c.shapes shapes;
  figures = put_mid c.used.rows (row_limit - c.used.rows) c.figures figures;
  corners = put_mid c.used.turns (corner_limit - c.used.turns) c.corners corners;
  starts = c.starts;
  parts = c.parts;
  used = c.used;
}

-- and with one part more
abbrev pub after_place : Columns → Extent → List Shape → List Figures → List ℕ → Columns
after_place c e shapes figures corners = record {
  shapes = put_mid c.used.rows (row_limit - c.used.rows) c.shapes shapes;
  figures = put_mid c.used.rows (row_limit - c.used.rows) c.figures figures;
  corners = put_mid c.used.turns (corner_limit - c.used.turns) c.corners corners;
  starts = set c.starts c.parts c.used;
  parts = c.parts + 1;
  used = record { rows = c.used.rows + e.rows; turns = c.used.turns + e.turns };
}

-- what the filling of the free parts says, for the tree t
abbrev pub FreeFill : Columns → Tree → Result Extent Refusal → List Shape → List Figures → List ℕ → Type 0
FreeFill c t r shapes figures corners =
    FillInto t (free row_limit c.used.rows c.shapes) (free row_limit c.used.rows c.figures) (free corner_limit c.used.turns c.corners) r shapes figures corners

pub refused : (c : Columns) (o : Option Tree) (t : Tree) (r : Refusal) (shapes : List Shape) (figures : List Figures) (corners : List ℕ) → Within c → Full c
    → c.parts < part_limit → o ≡ Some t → FreeFill c t (Err r) shapes figures corners → Judged c o (Err r)
refused c o t r shapes figures corners w f few e q = lacks_cause c o t w f few e ∙ q.0

pub unchanged : (c : Columns) (ts : List Tree) (t : Tree) (r : Refusal) (shapes : List Shape) (figures : List Figures) (corners : List ℕ) → Within c → Full c → Held c ts
    → FreeFill c t (Err r) shapes figures corners → after_fill c shapes figures corners ≡ c
unchanged c ts t r shapes figures corners w f h q =
    columns_eq (after_fill c shapes figures corners) c
    (column_back shapes_of blank_shape c.shapes shapes (row_starts c) row_limit c.used.rows ts f.shapes w.1 h.rows.rows q.1)
    (column_back part_figures blank c.figures figures (row_starts c) row_limit c.used.rows ts f.figures w.1 h.figures q.2)
    (column_back strip_of 0 c.corners corners (corner_starts c) corner_limit c.used.turns ts f.corners w.2 h.corners q.3)
    refl refl refl

-- what was written is the part's rows, figures and corners
held_after : (c : Columns) (ts : List Tree) (t : Tree) (x : Extent) (shapes : List Shape) (figures : List Figures) (corners : List ℕ) → Within c → Full c → Held c ts
    → c.parts < part_limit → FreeFill c t (Ok x) shapes figures corners → Held (after_place c x shapes figures corners) (ts ++ (t ∷ []))
held_after c ts t x shapes figures corners w f h few q =
    let us = ts ++ (t ∷ []) in
    let after = after_place c x shapes figures corners in
    let few_rows : c.parts < length (row_starts c) = omega (arith, length-map c.starts (λ (e : Extent). e.rows), f.starts) in
    let few_corners : c.parts < length (corner_starts c) = omega (arith, length-map c.starts (λ (e : Extent). e.turns), f.starts) in
    let starts : set (row_starts c) c.parts c.used.rows ≡ row_starts after = sym (map-set (λ (e : Extent). e.rows) c.starts c.parts c.used) in
    let places : set (corner_starts c) c.parts c.used.turns ≡ corner_starts after = sym (map-set (λ (e : Extent). e.turns) c.starts c.parts c.used) in
    let a = column_put c.shapes shapes (shapes_of t) row_limit c.used.rows f.shapes w.1 q.shaped in
    let b = column_put c.figures figures (part_figures t) row_limit c.used.rows f.figures w.1 q.figured in
    let d = column_put c.corners corners (strip_of t) corner_limit c.used.turns f.corners w.2 q.drawn in
    let rows : Holds (put c.used.rows c.shapes (shapes_of t)) (row_starts after) (c.parts + 1) (c.used.rows + size t) us =
    subst (λ s. Holds (put c.used.rows c.shapes (shapes_of t)) s (c.parts + 1) (c.used.rows + size t) us) starts
    (held_more c.shapes (row_starts c) c.parts c.used.rows ts t (omega (arith, w.1, f.shapes)) few_rows q.seatable h.rows) in
    let figs : Column part_figures blank (put c.used.rows c.figures (part_figures t)) (row_starts after) (c.used.rows + length (part_figures t)) us =
    subst (λ s. Column part_figures blank (put c.used.rows c.figures (part_figures t)) s (c.used.rows + length (part_figures t)) us) starts
    (column_more part_figures blank c.figures (row_starts c) c.used.rows ts t c.parts (omega (arith, w.1, f.figures)) h.rows.many few_rows h.figures) in
    let turns : Column strip_of 0 (put c.used.turns c.corners (strip_of t)) (corner_starts after) (c.used.turns + length (strip_of t)) us =
    subst (λ s. Column strip_of 0 (put c.used.turns c.corners (strip_of t)) s (c.used.turns + length (strip_of t)) us) places
    (column_more strip_of 0 c.corners (corner_starts c) c.used.turns ts t c.parts (omega (arith, w.2, f.corners)) h.rows.many few_corners h.corners) in
    record {
      rows = subst (λ l. Holds l (row_starts after) (c.parts + 1) (c.used.rows + x.rows) us) (sym a)
          (subst (λ n. Holds (put c.used.rows c.shapes (shapes_of t)) (row_starts after) (c.parts + 1) (c.used.rows + n) us) (sym q.rows) rows);
      figures = subst (λ l. Column part_figures blank l (row_starts after) (c.used.rows + x.rows) us) (sym b)
          (subst (λ n. Column part_figures blank (put c.used.rows c.figures (part_figures t)) (row_starts after) (c.used.rows + n) us) (length_figures t ∙ sym q.rows) figs);
      corners = subst (λ l. Column strip_of 0 l (corner_starts after) (c.used.turns + x.turns) us) (sym d)
          (subst (λ n. Column strip_of 0 (put c.used.turns c.corners (strip_of t)) (corner_starts after) (c.used.turns + n) us) (sym q.turns) turns);
    }

one_meaning : (o : Option Tree) (t u : Tree) → o ≡ Some t → o ≡ Some u → t ≡ u
one_meaning o t u e f = let q : Some t ≡ Some u = sym e ∙ f in cc

pub accepted : (c : Columns) (o : Option Tree) (t : Tree) (x : Extent) (shapes : List Shape) (figures : List Figures) (corners : List ℕ) → Within c → Full c
    → c.parts < part_limit → o ≡ Some t → FreeFill c t (Ok x) shapes figures corners → Judged c o (Ok c.parts)
accepted c o t x shapes figures corners w f few e q = (lacks_cause c o t w f few e ∙ q.fits, refl)

pub gained : (c : Columns) (ts : List Tree) (o : Option Tree) (t : Tree) (x : Extent) (shapes : List Shape) (figures : List Figures) (corners : List ℕ) → Within c → Full c → Held c ts
    → c.parts < part_limit → o ≡ Some t → FreeFill c t (Ok x) shapes figures corners → Placed ts o (Ok c.parts) c (after_place c x shapes figures corners)
gained c ts o t x shapes figures corners w f h few e q u g =
    subst (λ y. Held (after_place c x shapes figures corners) (ts ++ (y ∷ []))) (one_meaning o t u e g) (held_after c ts t x shapes figures corners w f h few q)

-- no more is used than there is
pub within_after : (c : Columns) (t : Tree) (x : Extent) (shapes : List Shape) (figures : List Figures) (corners : List ℕ) → Within c → Full c → c.parts < part_limit
    → FreeFill c t (Ok x) shapes figures corners → Within (after_place c x shapes figures corners)
within_after c t x shapes figures corners w f few q = (
  omega arith,
  omega (arith, w.1, q.room, length_free c.shapes row_limit c.used.rows f.shapes),
  omega (arith, w.2, q.space, length_free c.corners corner_limit c.used.turns f.corners),
)

-- ---- emptying
-- the columns of a bank without parts
abbrev pub blank_columns : Columns
blank_columns = record {
  shapes = replicate row_limit blank_shape;
  figures = replicate row_limit blank;
  corners = replicate corner_limit 0;
  starts = replicate part_limit nothing;
  parts = 0;
  used = nothing;
}

pub held_none_yet : Held blank_columns []
held_none_yet = record { rows = held_none; figures = column_none part_figures blank row_limit part_limit; corners = column_none strip_of 0 corner_limit part_limit }

get_d_cleared : {A : Type 0} (entries : Tree → List A) (d : A) (xs ys : List A) (starts : List ℕ) (used m : ℕ) (ts : List Tree) → m ≡ used → used ≤ length xs → Column entries d xs starts used ts
    → ys ≡ replicate (length (take m (drop 0 xs))) d → (k : ℕ) → get_or (put_mid 0 m xs ys) k d ≡ d
get_d_cleared entries d xs ys starts used m ts same room h e k =
    let n = length (take m (drop 0 xs)) in
    let many : n ≡ m = length-take-le m xs (omega arith) in
    let wide : length (replicate n d) ≡ n = length-replicate n d in
    ap (λ l. get_or (l ++ drop m xs) k d) e
    ∙ elim (cases_lt k n) [
      | inl lt ↦ get_or_append_left (replicate n d) (drop m xs) d k (omega arith) ∙ get_or-replicate n k d d lt
      | inr ge ↦
          get_or-append_right (replicate n d) (drop m xs) n k d wide ge ∙ get_or-drop m xs (k - n) d ∙ h.written (m + (k - n))
          ∙ get_or_past (flat_map entries ts) (m + (k - n)) d (omega (arith, h.filled))
    ]

cleared : {A : Type 0} (entries : Tree → List A) (d : A) (xs ys : List A) (starts : List ℕ) (used n : ℕ) (ts : List Tree) → used ≤ length xs → Column entries d xs starts used ts
    → ys ≡ replicate (length (take (used - 0) (drop 0 xs))) d → Column entries d (put_mid 0 (used - 0) xs ys) (replicate n 0) 0 []
cleared entries d xs ys starts used n ts room h e = record {
  filled = refl;
  written = get_d_cleared entries d xs ys starts used (used - 0) ts (omega arith) room h e;
  begun = (column_none entries d 0 n).begun;
}

-- the columns with all that is used rewritten, and no parts
abbrev pub after_clear : Columns → List Shape → List Figures → List ℕ → Columns
after_clear c shapes figures corners = record {
  shapes = put_mid 0 (c.used.rows - 0) c.shapes shapes;
  figures = put_mid 0 (c.used.rows - 0) c.figures figures;
  corners = put_mid 0 (c.used.turns - 0) c.corners corners;
  starts = replicate part_limit nothing;
  parts = 0;
  used = nothing;
}

pub held_cleared : (c : Columns) (ts : List Tree) (shapes : List Shape) (figures : List Figures) (corners : List ℕ) → Within c → Full c → Held c ts
    → shapes ≡ replicate (length (take (c.used.rows - 0) (drop 0 c.shapes))) blank_shape → figures ≡ replicate (length (take (c.used.rows - 0) (drop 0 c.figures))) blank
    → corners ≡ replicate (length (take (c.used.turns - 0) (drop 0 c.corners))) 0 → Held (after_clear c shapes figures corners) []
held_cleared c ts shapes figures corners w f h a b d = record {
  rows = record {
    many = refl;
    rows = cleared shapes_of blank_shape c.shapes shapes (row_starts c) c.used.rows part_limit ts (omega (arith, w.1, f.shapes)) h.rows.rows a;
    seatable = λ p lt. absurd (not-suc-le-zero lt);
  };
  figures = cleared part_figures blank c.figures figures (row_starts c) c.used.rows part_limit ts (omega (arith, w.1, f.figures)) h.figures b;
  corners = cleared strip_of 0 c.corners corners (corner_starts c) c.used.turns part_limit ts (omega (arith, w.2, f.corners)) h.corners d;
}
