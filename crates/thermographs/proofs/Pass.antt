-- The pass over the rows from the last to the first.
use Rattle.std.proofs.Common.{◌≡◌, ℕ, suc, ◌+◌, ◌<◌, ◌≤◌, ◌≢◌, List, [], ◌∷◌, ◌++◌, length, get_or, take, drop, set, Some, None, Option, sym, refl, ap, ◌∙◌, subst, arith}
use Rattle.std.proofs.lemmas.List.FromFn.{fill_by_all}
use Rattle.std.proofs.lemmas.List.Edits.{paste_all}
use Rattle.std.proofs.lemmas.List.{get_or-take, get_or-set_same, get_or-set_other, length-take-le, length-drop, take-append-drop, drop-set-lt}
use Rattle.std.proofs.lemmas.Int.{ints}
use Rattle.theory.specs.Trees.{Tree, ended, branch, trees, options, size, height}
use Rattle.theory.specs.Fair.{Fair}
use Rattle.spreading.specs.Order.{children, none, positions, row, first}
use Rattle.spreading.specs.Shapes.{shape_at, shapes_of, start_of}
use Rattle.spreading.specs.declared.shape.Shape.{Shape}
use Rattle.spreading.proofs.Everywhere.{Each, each_none, each_append, everywhere}
use Rattle.spreading.proofs.Passes.{Noted, noted_none, noted_more, options_noted, Front, front_turn, row_turn}
use Rattle.spreading.proofs.Rows.{length_positions}
use Rattle.thermographs.specs.declared.figures.Figures.{Figures}
use Rattle.thermographs.specs.declared.strip.Strip.{Strip}
use Rattle.thermographs.specs.Figures.{blank, both_corners, strip, strip_of, figures_of, figures_at, figures_rows, Tells, Figured, Crowded, FigureInto}
use Rattle.thermographs.specs.Rows.{Ready, RowInto}
use Rattle.thermographs.specs.Strips.{told, Grown, Full}
use Rattle.thermographs.proofs.Growth.{grown_none, kept_grown, both_grown, full_behind}
use Rattle.thermographs.proofs.Positions.{left_fair, right_fair}
use Rattle.thermographs.proofs.Strips.{strip_past, strip_more, strip_longer, tells_more, tells_new, take_new}

-- ---- every row of a fair tree is fair
children_fair : (x : Tree) → Fair x → Each Fair (children x)
children_fair (ended v) f = each_none Fair
children_fair (branch L R) f = each_append Fair (trees L) (trees R) (left_fair L R f) (right_fair L R f)

none_fair : Fair none
unfolding height
none_fair = record { shallow = omega arith; warm = tt; scores = (omega (arith, ints), omega (arith, ints)) }

pub rows_fair : (t : Tree) → Fair t → (k : ℕ) → k < size t → Fair (row t k)
rows_fair t f k h = everywhere Fair children_fair none_fair t f k h

-- ---- the pass
-- the figures of row k are those of its position, and tell its walls
pub record RightRow (t : Tree) (used : ℕ) (corners : List ℕ) (figures : List Figures) (k : ℕ) (x : Tree) : Type 0 where
  pub tells : Tells corners (get_or figures k blank) x
  pub is : get_or figures k blank ≡ figures_at t used k

-- rows i and later are done
pub record Pass (t : Tree) (rows : List Figures) (old : Strip) (figures : List Figures) (new : Strip) (i : ℕ) : Type 0 where
  pub grown : Grown (strip (drop i (positions t))) old new
  pub noted : Noted (RightRow t old.used (told new) figures) t i
  pub others : drop (size t) figures ≡ drop (size t) rows

pub pass_none : (t : Tree) (rows : List Figures) (s : Strip) (i : ℕ) → size t ≤ i → Pass t rows s rows s i
pass_none t rows s i h =
    let e : strip (drop i (positions t)) ≡ [] = strip_past (drop i (positions t)) (omega (arith, length-drop i (positions t), length_positions t)) in
    record {
      grown = subst (λ (l : List ℕ). Grown l s s) (sym e) (grown_none s);
      noted = noted_none (RightRow t s.used (told s) rows) t i h;
      others = refl;
    }

-- the turn at row i: it is a row of the tree, its shape is at hand, and the rows behind it are done
pub pass_turn : (t : Tree) (rows : List Figures) (old : Strip) (figures : List Figures) (new : Strip) (i : ℕ) (shapes rest rest' : List Shape) (x : Shape)
    → Front shapes rest → rest ≡ rest' ++ (x ∷ []) → i ≡ length rest' → shapes ≡ shapes_of t → Pass t rows old figures new (length rest)
    → (i < size t) × (x ≡ shape_at t i) × Pass t rows old figures new (suc i)
pass_turn t rows old figures new i shapes rest rest' x front last at e P =
    let row = row_turn (RightRow t old.used (told new) figures) t i shapes rest rest' x front last at e P.noted in
    let n : length rest ≡ suc i = omega (arith, (front_turn shapes rest rest' x front last).1) in
    (row.0, row.1, subst (λ (k : ℕ). Pass t rows old figures new k) n P)

module _ (t : Tree) (rows : List Figures) (old : Strip) (figures : List Figures) (new : Strip) (i : ℕ) (lt : i < size t) where
  -- a row's options stand ready
  pub pass_ready : Pass t rows old figures new (suc i) → Fair t → (x : Shape) → x ≡ shape_at t i → Ready (told new) figures x (first t i) (row t i)
  pass_ready P fair x here = record {
    fair = rows_fair t fair i lt;
    shaped = here;
    told = λ s k few. subst (λ (z : Shape). Tells (told new) (get_or figures (start_of z s + k) blank) (get_or (options (row t i) s) k none)) (sym here)
        (options_noted (RightRow t old.used (told new) figures) t i lt P.noted s k few).tells;
  }

  more : strip (drop (suc i) (positions t)) ++ both_corners (row t i) ≡ strip (drop i (positions t))
  more = sym (strip_more (positions t) i (omega (arith, length_positions t)))

  -- one row more
  pub pass_more : Pass t rows old figures new (suc i) → (f : Figures) (end : Strip) → i < length figures → RowInto (row t i) new (Some f) end → Pass t rows old (set figures i f) end i
  pass_more P f end wide (is, G) = record {
    grown = subst (λ (l : List ℕ). Grown l old end) more (both_grown (strip (drop (suc i) (positions t))) old new P.grown C end G);
    noted = noted_more (RightRow t old.used (told new) figures) (RightRow t old.used (told end) (set figures i f)) t i behind here P.noted;
    others = drop-set-lt (size t) figures i f lt ∙ P.others;
  }
    where
      C : List ℕ
      C = both_corners (row t i)

      behind : (k : ℕ) (x : Tree) → i < k → RightRow t old.used (told new) figures k x → RightRow t old.used (told end) (set figures i f) k x
      behind k x l h =
          let ne : k ≢ i = omega arith in
          let e : get_or (set figures i f) k blank ≡ get_or figures k blank = get_or-set_other figures i k f blank ne in
          record {
            tells = subst (λ (g : Figures). Tells (told end) g x) (sym e)
                (tells_more new.used end.used new.places.now end.places.now (get_or figures k blank) x (omega (arith, G.ends)) end.room (kept_grown C new end G) h.tells);
            is = e ∙ h.is;
          }

      here : RightRow t old.used (told end) (set figures i f) i (row t i)
      here =
          let e : get_or (set figures i f) i blank ≡ f = get_or-set_same figures i f blank wide in
          let s : told end ≡ told new ++ (C ++ []) = ap (λ (k : ℕ). take k end.places.now) G.ends ∙ take_new new.used new.places.now end.places.now C new.room G.out in
          let p : length (told new) ≡ new.used = length-take-le new.used new.places.now new.room in
          record {
            tells = subst (λ (g : Figures). Tells (told end) g (row t i)) (sym (e ∙ is)) (subst (λ (l : List ℕ). Tells l (figures_of new.used (row t i)) (row t i)) (sym s) (tells_new new.used (told new) [] (row t i) p));
            is = e ∙ is ∙ ap (λ (k : ℕ). figures_of k (row t i)) P.grown.ends;
          }

  -- there is no room for the row's corners
  pub pass_short : Pass t rows old figures new (suc i) → (end : Strip) → Full (both_corners (row t i)) new end → Crowded t old.used rows figures old.places.now end.places.now
  pass_short P end F =
      let all : Full (strip (drop i (positions t))) old end = subst (λ (l : List ℕ). Full l old end) more (full_behind (strip (drop (suc i) (positions t))) old new P.grown (both_corners (row t i)) end F) in
      record { many = omega (arith, all.many, strip_longer (positions t) i); others = P.others; kept = all.kept }

-- all rows are done
pub pass_all : (t : Tree) (rows : List Figures) (old : Strip) (figures : List Figures) (new : Strip) → Pass t rows old figures new 0
    → size t ≤ length figures → Figured t old.used new.used rows figures old.places.now new.places.now
unfolding figures_rows
pass_all t rows old figures new P wide =
    let used : ℕ = old.used in
    let front : take (size t) figures ≡ figures_rows t used = fill_by_all (figures_at t used) (take (size t) figures) (size t) blank (length-take-le (size t) figures wide)
    (λ k l. get_or-take (size t) figures k blank l ∙ (P.noted k (omega arith) l).is) in
    record {
      ends = P.grown.ends;
      room = P.grown.fits;
      rows = sym (take-append-drop (size t) figures) ∙ ap (λ (l : List Figures). l ++ drop (size t) figures) front ∙ ap (λ (l : List Figures). figures_rows t used ++ l) P.others;
      written = P.grown.out ∙ paste_all old.places.now used (strip_of t) (length (strip_of t)) refl
          ∙ ap (λ (k : ℕ). take used old.places.now ++ (strip_of t ++ drop k old.places.now)) (sym P.grown.ends);
    }

pub pass_at : (t : Tree) (rows : List Figures) (old : Strip) (figures : List Figures) (new : Strip) (i k : ℕ) → i ≡ k → Pass t rows old figures new i → Pass t rows old figures new k
pass_at t rows old figures new i k e P = subst (λ (n : ℕ). Pass t rows old figures new n) e P

-- what is found stands in the corners that the strip was made of
module _ (t : Tree) (used : ℕ) (rows : List Figures) (entry : List ℕ) (figures : List Figures) (corners : List ℕ) (old end : Strip)
    (u : old.used ≡ used) (e : old.places.now ≡ entry) (c : corners ≡ end.places.now) where
  pub into_none : (r : Option ℕ) → r ≡ None → Crowded t old.used rows figures old.places.now end.places.now → FigureInto t used rows entry r figures corners
  into_none r is C =
      subst (λ (o : Option ℕ). FigureInto t used rows entry o figures corners) (sym is)
      (subst (λ (n : ℕ). Crowded t n rows figures entry corners) u
      (subst (λ (l : List ℕ). Crowded t old.used rows figures l corners) e (subst (λ (l : List ℕ). Crowded t old.used rows figures old.places.now l) (sym c) C)))

  pub into_all : Figured t old.used end.used rows figures old.places.now end.places.now → FigureInto t used rows entry (Some end.used) figures corners
  into_all F =
      subst (λ (n : ℕ). Figured t n end.used rows figures entry corners) u
      (subst (λ (l : List ℕ). Figured t old.used end.used rows figures l corners) e (subst (λ (l : List ℕ). Figured t old.used end.used rows figures old.places.now l) (sym c) F))
