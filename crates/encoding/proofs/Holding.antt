-- The rows of a bank: none at first, one tree more behind the others, and how a part is read.
use Rattle.std.proofs.Common.{◌≡◌, ℕ, ◌+◌, ◌<◌, ◌≤◌, List, [], ◌∷◌, ◌++◌, length, get_or, take, drop, set, replicate, Some, sym, ap, ◌∙◌, subst, not-suc-le-zero, arith, length-append}
use Rattle.std.specs.List.{flat_map}
use Rattle.std.proofs.lemmas.List.{length_push}
use Rattle.theory.specs.Trees.{Tree, size}
use Rattle.spreading.specs.Order.{none, sizes}
use Rattle.spreading.specs.Shapes.{row_limit, blank, shape_at, shapes_of, SpreadInto}
use Rattle.spreading.specs.declared.shape.Shape.{Shape}
use Rattle.spreading.proofs.Everywhere.{each_one, each_append}
use Rattle.spreading.proofs.Shapes.{length_shapes, get_d_shapes}
use Rattle.encoding.specs.Columns.{part_limit, Column, Seatable, Holds}
use Rattle.encoding.proofs.Columns.{put, column_none, column_more, column_end, column_entry, column_part}

pub held_none : Holds (replicate row_limit blank) (replicate part_limit 0) 0 0 []
held_none = record {
  many = omega arith;
  rows = column_none shapes_of blank row_limit part_limit;
  seatable = λ p h. absurd (not-suc-le-zero h);
}

length_rows : (ts : List Tree) → length (flat_map shapes_of ts) ≡ sizes ts
length_rows [] = omega arith
length_rows (t ∷ ts) = omega (arith, length-append (shapes_of t) (flat_map shapes_of ts), length_shapes t, length_rows ts)

-- the rows used are the positions of the trees
pub held_used : (shapes : List Shape) (starts : List ℕ) (count used : ℕ) (ts : List Tree) → Holds shapes starts count used ts → used ≡ sizes ts
held_used shapes starts count used ts h = h.rows.filled ∙ length_rows ts

-- what spreading into the free rows leaves in the column
pub spread_put : (shapes after : List Shape) (used n : ℕ) (t : Tree) → SpreadInto t (drop used shapes) (Some n) after → take used shapes ++ after ≡ put used shapes (shapes_of t)
spread_put shapes after used n t h =
    let many : n ≡ length (shapes_of t) = h.0 ∙ sym (length_shapes t) in
    ap (λ l. take used shapes ++ l) h.2 ∙ ap (λ m. take used shapes ++ (shapes_of t ++ drop m (drop used shapes))) many

-- one tree more, as the last part
pub held_more : (shapes : List Shape) (starts : List ℕ) (count used : ℕ) (ts : List Tree) (t : Tree) → used ≤ length shapes → count < length starts → Seatable t
    → Holds shapes starts count used ts → Holds (put used shapes (shapes_of t)) (set starts count used) (count + 1) (used + size t) (ts ++ (t ∷ []))
held_more shapes starts count used ts t room few fit h = record {
  many = ap (λ n. n + 1) h.many ∙ sym (length_push ts t);
  rows = subst (λ n. Column shapes_of blank (put used shapes (shapes_of t)) (set starts count used) (used + n) (ts ++ (t ∷ []))) (length_shapes t)
      (column_more shapes_of blank shapes starts used ts t count room h.many few h.rows);
  seatable = each_append Seatable ts (t ∷ []) h.seatable (each_one Seatable t fit);
}

-- row i of part p
pub held_row : (shapes : List Shape) (starts : List ℕ) (count used : ℕ) (ts : List Tree) → Holds shapes starts count used ts
    → (p i : ℕ) → p < count → i < size (get_or ts p none) → get_or shapes (get_or starts p 0 + i) blank ≡ shape_at (get_or ts p none) i
held_row shapes starts count used ts h p i lt few =
    column_entry h.rows p i (omega (arith, h.many)) (omega (arith, length_shapes (get_or ts p none))) ∙ get_d_shapes (get_or ts p none) i blank few

-- part p, as a slice of the rows
pub held_part : (shapes : List Shape) (starts : List ℕ) (count used : ℕ) (ts : List Tree) → Holds shapes starts count used ts → used ≤ length shapes
    → (p n : ℕ) → p < count → n ≡ size (get_or ts p none) → take n (drop (get_or starts p 0) shapes) ≡ shapes_of (get_or ts p none)
held_part shapes starts count used ts h room p n lt many =
    column_part h.rows room p n (omega (arith, h.many)) (many ∙ sym (length_shapes (get_or ts p none)))

-- and where it ends
pub held_end : (shapes : List Shape) (starts : List ℕ) (count used : ℕ) (ts : List Tree) → Holds shapes starts count used ts
    → (p : ℕ) → p < count → get_or starts p 0 + size (get_or ts p none) ≤ used
held_end shapes starts count used ts h p lt = omega (arith, column_end h.rows p (omega (arith, h.many)), length_shapes (get_or ts p none))
