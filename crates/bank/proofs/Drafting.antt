-- A part in the free rows and corners: what spreading and the pass over the walls leave.
use Rattle.std.proofs.Common.{◌≡◌, ℕ, true, false, ltb, List, ◌++◌, length, drop, replicate, Some, Ok, Err, Result, sym, ap, ◌∙◌, arith}
use Rattle.std.specs.Result.{is_err}
use Rattle.std.proofs.lemmas.List.FromFn.{length-map-range_with_len}
use Rattle.terms.specs.declared.fault.Refusal.{Refusal}
use Rattle.theory.specs.Limits.{greatest_height}
use Rattle.theory.specs.Trees.{Tree, Lawful, height, size}
use Rattle.theory.specs.Stops.{cold}
use Rattle.spreading.specs.Shapes.{shapes_of, SpreadInto, blank as blank_shape}
use Rattle.spreading.specs.declared.shape.Shape.{Shape}
use Rattle.spreading.proofs.Shapes.{length_shapes}
use Rattle.thermographs.specs.Figures.{strip_of, figures_at, figures_rows, Figured, blank}
use Rattle.thermographs.specs.declared.figures.Figures.{Figures}
use Rattle.bank.specs.Held.{part_figures}
use Rattle.bank.specs.Drafts.{Drafted, DraftInto, FillInto}
use Rattle.bank.specs.declared.columns.Extent.{Extent}
use Rattle.bank.proofs.Causes.{lacks_nothing, seatable_of}

pub length_figures : (t : Tree) → length (part_figures t) ≡ size t
unfolding figures_rows
length_figures t = length-map-range_with_len (figures_at t 0) 0 (size t)

pub drafted : (t : Tree) (n m : ℕ) (shapes after : List Shape) (figures figures' : List Figures) (corners corners' : List ℕ) → Lawful t
    → ltb greatest_height (height t) ≡ false → cold t ≡ false → SpreadInto t shapes (Some n) after → Figured t 0 m figures figures' corners corners'
    → Drafted t (record { rows = n; turns = m }) shapes figures corners after figures' corners'
drafted t n m shapes after figures figures' corners corners' l low warm s f =
    let ends : m ≡ length (strip_of t) = omega (arith, f.ends) in
    record {
      fits = lacks_nothing (length shapes) (length corners) t (omega (arith, s.0, s.1)) low warm (omega (arith, f.ends, f.room));
      rows = s.0;
      turns = ends;
      room = s.1;
      space = f.room;
      seatable = seatable_of t l low warm;
      shaped = s.2 ∙ ap (λ k. shapes_of t ++ drop k shapes) (s.0 ∙ sym (length_shapes t));
      figured = f.rows ∙ ap (λ k. part_figures t ++ drop k figures) (sym (length_figures t));
      drawn = f.written ∙ ap (λ k. strip_of t ++ drop k corners) ends;
    }

-- where there is no place the free rows and corners are blank again; and else they stay as they were written
pub refused_fill : (t : Tree) (r : Result Extent Refusal) (shapes after again : List Shape) (figures figures' figures'' : List Figures) (corners corners' corners'' : List ℕ) → is_err r ≡ true
    → DraftInto t shapes figures corners r after figures' corners' → again ≡ replicate (length shapes) blank_shape → figures'' ≡ replicate (length figures) blank
    → corners'' ≡ replicate (length corners) 0 → FillInto t shapes figures corners r again figures'' corners''
refused_fill t (Ok x) shapes after again figures figures' figures'' corners corners' corners'' e d a b f = let z : ◌≡◌ {A = ℕ} 0 1 = cc in absurd (omega arith)
refused_fill t (Err r) shapes after again figures figures' figures'' corners corners' corners'' e d a b f = (d, a, b, f)

pub kept_fill : (t : Tree) (r : Result Extent Refusal) (shapes after : List Shape) (figures figures' : List Figures) (corners corners' : List ℕ) → is_err r ≡ false
    → DraftInto t shapes figures corners r after figures' corners' → FillInto t shapes figures corners r after figures' corners'
kept_fill t (Ok x) shapes after figures figures' corners corners' e d = d
kept_fill t (Err r) shapes after figures figures' corners corners' e d = let z : ◌≡◌ {A = ℕ} 0 1 = cc in absurd (omega arith)
