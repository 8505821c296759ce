-- The trees of a bank are those of some story: each of them seated, one after the other, in an empty bank.
use Rattle.std.proofs.Common.{◌≡◌, ℕ, suc, ◌+◌, ◌≤◌, ltb, leb, List, [], ◌∷◌, ◌++◌, map, length, Some, None, Option, sym, ap, ◌∙◌, subst, arith}
use mathlib.Core.Logic.{∥∥₁_elim, ∥∥₁_prop}
use Rattle.std.proofs.lemmas.List.{append-nil, append_assoc, length_push}
use Rattle.std.proofs.lemmas.Bool.{le-ltb, lt-leb, cond-false}
use Rattle.terms.specs.declared.side.Side.{Side}
use Rattle.terms.specs.declared.side.Mover.{Mover}
use Rattle.terms.specs.declared.fault.Refusal.{Refusal}
use Rattle.terms.specs.declared.fault.Refusal.TheVariants.{PartsFull, RowsFull, TooHigh, ColdPosition, CornersFull}
use Rattle.theory.specs.Limits.{greatest_height}
use Rattle.thermographs.specs.Figures.{corner_limit}
use Rattle.theory.specs.Trees.{Tree, height, size}
use Rattle.theory.specs.Stops.{cold}
use Rattle.theory.proofs.Fairness.{warm_cold}
use Rattle.spreading.specs.Order.{sizes}
use Rattle.spreading.specs.Shapes.{row_limit}
use Rattle.spreading.proofs.Rows.{sizes_append}
use Rattle.spreading.proofs.Everywhere.{Each}
use Rattle.encoding.specs.Columns.{part_limit, Seatable}
use Rattle.stories.specs.Seatings.{corner_count, corner_counts, cause, seat, seated}
use Rattle.stories.specs.Stories.{Meant, opens}
use Rattle.bank.specs.declared.bank.Bank.{Bank}
use Rattle.bank.specs.Contents.{trees}
use Rattle.bank.proofs.Trees.{trees_held, parts_trees, rows_trees, turns_trees}
use Rattle.play.specs.declared.record.Play.{Play}
use Rattle.play.specs.Standing.{Opens, hottest_of}
use Rattle.play.specs.Behind.{Behind}
use Rattle.play.proofs.Tales.{opening_told_lem}
use Rattle.game.specs.Rows.{Storied}

-- each tree as what a code means
abbrev pub meanings : List Tree → List (Option Tree)
meanings ts = map (λ x. Some x) ts

meant : (ts : List Tree) → Each Seatable ts → Meant (meanings ts)
meant [] h = tt
meant (t ∷ ts) h = ((h 0 (omega arith)).lawful, meant ts (λ k l. h (suc k) (omega arith)))

-- what the trees take together
pub record Fits (held ts : List Tree) : Type 0 where
  pub parts : length held + length ts ≤ part_limit
  pub rows : sizes held + sizes ts ≤ row_limit
  pub corners : corner_counts held + corner_counts ts ≤ corner_limit

no_cause : (held : List Tree) (t : Tree) (ts : List Tree) → Seatable t → Fits held (t ∷ ts) → cause held (Some t) ≡ None
no_cause held t ts s f =
    cond-false (leb part_limit (length held)) (Some PartsFull) _ (lt-leb part_limit (length held) (omega (arith, f.parts)))
    ∙ cond-false (ltb row_limit (sizes held + size t)) (Some RowsFull) _ (le-ltb row_limit (sizes held + size t) (omega (arith, f.rows)))
    ∙ cond-false (ltb greatest_height (height t)) (Some TooHigh) _ (le-ltb greatest_height (height t) s.low)
    ∙ cond-false (cold t) (Some ColdPosition) _ (warm_cold t s.warm)
    ∙ cond-false (ltb corner_limit (corner_counts held + corner_count t)) (Some CornersFull) _ (le-ltb corner_limit (corner_counts held + corner_count t) (omega (arith, f.corners)))

corners_append : (xs ys : List Tree) → corner_counts (xs ++ ys) ≡ corner_counts xs + corner_counts ys
corners_append [] ys = omega arith
corners_append (x ∷ xs) ys = omega (arith, corners_append xs ys)

seat_one : (held : List Tree) (t : Tree) (ts : List Tree) → Seatable t → Fits held (t ∷ ts) → seat held (Some t) ≡ held ++ (t ∷ [])
seat_one held t ts s f = ap (λ (q : Option Refusal). elim q as (λ _. List Tree) [ None ↦ held ++ (t ∷ []) | Some n ↦ held ]) (no_cause held t ts s f)

seats : (held ts : List Tree) → Each Seatable ts → Fits held ts → seated held (meanings ts) ≡ held ++ ts
seats held [] h f = sym (append-nil held)
seats held (t ∷ ts) h f =
    let here : Seatable t = h 0 (omega arith) in
    let next : Fits (held ++ (t ∷ [])) ts = record {
      parts = omega (arith, f.parts, length_push held t);
      rows = omega (arith, f.rows, sizes_append held (t ∷ []));
      corners = omega (arith, f.corners, corners_append held (t ∷ []));
    } in
    ap (λ zs. seated zs (meanings ts)) (seat_one held t ts here f) ∙ seats (held ++ (t ∷ [])) ts (λ k l. h (suc k) (omega arith)) next ∙ append_assoc held (t ∷ []) ts

fits_bank : (b : Bank) → Fits [] (trees b)
fits_bank b = record {
  parts = omega (arith, parts_trees b, b.within.0);
  rows = omega (arith, rows_trees b, b.within.1);
  corners = omega (arith, turns_trees b, b.within.2);
}

-- an opening has the story of the seatings behind it
pub opened : (ts : List Tree) (ms : List (Option Tree)) (l : Meant ms) (s : Side) (first : Mover) (h : Option ℕ) (y : Play) → Opens first h y → h ≡ hottest_of ts → seated [] ms ≡ ts
    → Behind (opens ms l s first) ts s y
opened ts ms l s first h y O e q = subst (λ zs. Behind (opens ms l s first) zs s y) q (opening_told_lem ms l s first h y O (e ∙ ap hottest_of (sym q)))

pub opened_storied : (b : Bank) (s : Side) (first : Mover) (h : Option ℕ) (y : Play) → Opens first h y → h ≡ hottest_of (trees b) → Storied (trees b) s y
opened_storied b s first h y O e =
    ∥∥₁_elim (trees_held b) ∥∥₁_prop (λ held.
    let each : Each Seatable (trees b) = held.rows.seatable in
    let l : Meant (meanings (trees b)) = meant (trees b) each in
    ∣ (opens (meanings (trees b)) l s first, opened (trees b) (meanings (trees b)) l s first h y O e (seats [] (trees b) each (fits_bank b))) ∣₁)
