-- The figures of the worked story.
use Rattle.std.proofs.Common.{◌≡◌, ℕ, zero, suc, ◌+◌, ◌≤◌, Bool, true, cond, ltb, List, [], ◌∷◌, length, ℤ, pos, ◌*ℤ◌, ◌≤ℤ◌, Some, None, sym, refl, ap, ◌∙◌, subst, arith}
use borrow.Author.Differences.{ints}
use Rattle.std.proofs.lemmas.Bool.{lt-ltb}
use Rattle.terms.specs.declared.side.Side.{Side}
use Rattle.terms.specs.declared.side.Side.TheVariants.{Left, Right}
use Rattle.terms.specs.declared.side.Mover.{Mover}
use Rattle.terms.specs.declared.side.Mover.TheVariants.{Ours, Theirs}
use Rattle.terms.specs.declared.fault.Refusal.TheVariants.{CornersFull}
use Rattle.theory.specs.Limits.{unit, score_limit}
use Rattle.theory.specs.Trees.{Tree, at, height, size, Open, Score, Lawful}
use Rattle.theory.specs.Stops.{stop, cold}
use Rattle.theory.specs.Walls.{temperature}
use Rattle.theory.specs.Corners.{corners_of}
use Rattle.theory.specs.Sums.{total, hottest}
use Rattle.theory.specs.Notes.{Note, leaf, node, last}
use Rattle.theory.specs.Figures.{switch, points, four_or_nothing, nine_two, two_regions}
use Rattle.theory.proofs.Clauses.{ended_corners}
use Rattle.theory.proofs.Certificate.{certificates}
use Rattle.theory.proofs.Figures.{worked_figures_lem}
use Rattle.stories.specs.Seatings.{corner_limit, corner_count, cause, seated}
use Rattle.stories.specs.Calls.{move, reply}
use Rattle.stories.specs.Game.{Game, First, Any, heat, near, opening, step, hotter, floor_of, bracket_of, Advises}
use Rattle.stories.specs.Stories.{Meant, Sum, played, or_same, best_play}
use Rattle.stories.specs.Worked.{codes, Figures, WorkedStory}
use Rattle.stories.proofs.Places.{none_some, some_same, head_first}
use Rattle.stories.proofs.Openings.{openings_agree_lem}

abbrev nine_or_two : Tree
nine_or_two = switch (points 9) (points 2)

-- ---- how many corners

none_at : (n : ℕ) (s : Side) → length (corners_of (points n) s) ≡ 0
none_at n s = ap length (ended_corners (pos n) s)

noted : Note
noted = node 14336 (last (leaf (pos 9))) (last (leaf (pos 2)))

nine_corners : (s : Side) → corners_of nine_or_two s ≡ 14336 ∷ []
unfolding noted height stop cold
nine_corners Left = (certificates noted tt).corners Left (14336 ∷ []) tt
nine_corners Right = (certificates noted tt).corners Right (14336 ∷ []) tt

nine_heat : temperature nine_or_two ≡ 14336
unfolding noted height stop cold
nine_heat = (certificates noted tt).heat

four_count : corner_count four_or_nothing ≡ 2
unfolding corner_count
four_count =
    let l : length (corners_of four_or_nothing Left) ≡ 1 = ap length worked_figures_lem.four.left in
    let r : length (corners_of four_or_nothing Right) ≡ 1 = ap length worked_figures_lem.four.right in
    omega (arith, l, r, none_at 4 Left, none_at 4 Right, none_at 0 Left, none_at 0 Right)

nine_count : corner_count nine_two ≡ 3
unfolding corner_count
nine_count =
    let l : length (corners_of nine_two Left) ≡ 0 = ap length worked_figures_lem.nine.left in
    let r : length (corners_of nine_two Right) ≡ 1 = ap length worked_figures_lem.nine.right in
    let a : length (corners_of nine_or_two Left) ≡ 1 = ap length (nine_corners Left) in
    let b : length (corners_of nine_or_two Right) ≡ 1 = ap length (nine_corners Right) in
    omega (arith, l, r, a, b, none_at 9 Left, none_at 9 Right, none_at 2 Left, none_at 2 Right, none_at 0 Left, none_at 0 Right)

-- ---- seating
four_fits : cause [] (Some four_or_nothing) ≡ None
unfolding size height stop cold
four_fits = ap (λ n. cond (ltb corner_limit (0 + n)) (Some CornersFull) None) four_count

nine_fits : cause (four_or_nothing ∷ []) (Some nine_two) ≡ None
unfolding size height stop cold
nine_fits =
    ap (λ n. cond (ltb corner_limit ((n + 0) + corner_count nine_two)) (Some CornersFull) None) four_count
    ∙ ap (λ n. cond (ltb corner_limit ((2 + 0) + n)) (Some CornersFull) None) nine_count

both_seated : seated [] codes ≡ two_regions
both_seated =
    ap (λ c. seated (elim c [ None ↦ four_or_nothing ∷ [] | Some r ↦ [] ]) (None ∷ Some nine_two ∷ [])) four_fits
    ∙ ap (λ c. elim c [ None ↦ two_regions | Some r ↦ four_or_nothing ∷ [] ]) nine_fits

-- ---- advice
only_first : (s : Side) (a : ℕ) (x : Tree) → First Any (near s a) (x ∷ []) 0
only_first s a x = head_first Any (near s a) x [] tt (λ q y e c. none_some y e)

second : (q : ℕ) (y : Tree) → at (nine_two ∷ []) q ≡ Some y → Open y → heat y ≤ℤ heat four_or_nothing
second zero y e c = subst (λ z. heat z ≤ℤ heat four_or_nothing) (some_same nine_two y e) (omega (arith, ints, worked_figures_lem.four.heat, worked_figures_lem.nine.heat))
second (suc q) y e c = none_some y e

advised_first : Advises (step (opening two_regions Left Ours) (reply 0 0)) 0 0
advised_first = record {
  turn = refl;
  main = head_first Open heat four_or_nothing (nine_two ∷ []) tt second;
  tree = four_or_nothing;
  there = refl;
  option = only_first Left (hottest two_regions) (points 4);
}

-- ---- the threat
threat_hot : hotter (hottest two_regions) nine_or_two ≡ true
threat_hot = lt-ltb (hottest two_regions) (temperature nine_or_two) (omega (arith, worked_figures_lem.four.heat, worked_figures_lem.nine.heat, nine_heat))

on_true : (P : Game → Type 0) (b : Bool) (g h : Game) → b ≡ true → P g → P (cond b g h)
on_true P b g h e p = subst (λ c. P (cond c g h)) (sym e) p

threatened : (step (opening two_regions Right Theirs) (reply 1 0)).pending ≡ Some 1
threatened = on_true (λ g. g.pending ≡ Some 1) (hotter (hottest two_regions) nine_or_two) _ _ threat_hot refl

answered_there : Advises (step (opening two_regions Right Theirs) (reply 1 0)) 1 0
answered_there =
    on_true (λ g. Advises g 1 0) (hotter (hottest two_regions) nine_or_two) _ _ threat_hot
    (record { turn = refl; main = refl; tree = nine_or_two; there = refl; option = only_first Right (hottest two_regions) (points 2) })

-- ---- all of them
abbrev next : Side → Sum → Sum
next s z = or_same z (played s z (reply 0 0))

abbrev line : List Tree → List Tree
line xs =
    let z : Sum = next Left (record { trees = xs; mover = Ours }) in
    let y : Sum = or_same z (played Left z (move 0 0)) in
    (or_same y (played Left y (reply 1 0))).trees

figures : (l : Meant codes) → Figures l
figures l =
    let W = worked_figures_lem in
    let O = openings_agree_lem Left two_regions in
    let pair : (v w a b : ℤ) → v ≡ a → w ≡ b → ◌≡◌ {A = ℤ × ℤ} (v, w) (a, b) = λ v w a b e f. ap {B = ℤ × ℤ} (λ x. (x, w)) e ∙ ap {B = ℤ × ℤ} (λ x. (a, x)) f in
    let best : (m : Mover) → best_play Left (record { trees = seated [] codes; mover = m }) ≡ best_play Left (record { trees = two_regions; mover = m }) =
    λ m. ap (λ xs. best_play Left (record { trees = xs; mover = m })) both_seated in
    record {
      seated = λ m. both_seated;
      our_floor = ap (λ xs. floor_of (opening xs Left Ours)) both_seated ∙ O.our_floor ∙ W.floor_ours;
      our_bracket = ap (λ xs. bracket_of (opening xs Left Ours)) both_seated ∙ O.our_bracket ∙ pair _ _ _ _ W.low_ours W.high_ours;
      our_best = ap (λ v. pos unit *ℤ v) (best Ours) ∙ W.best_ours;
      their_floor = ap (λ xs. floor_of (opening xs Left Theirs)) both_seated ∙ O.their_floor ∙ W.floor_theirs;
      their_bracket = ap (λ xs. bracket_of (opening xs Left Theirs)) both_seated ∙ O.their_bracket ∙ pair _ _ _ _ W.low_theirs W.high_theirs;
      their_best = ap (λ v. pos unit *ℤ v) (best Theirs) ∙ W.best_theirs;
      advised = subst (λ xs. Advises (step (opening xs Left Ours) (reply 0 0)) 0 0) (sym both_seated) advised_first;
      end = ap line both_seated;
      score = ap (λ xs. pos unit *ℤ total Left xs) (ap line both_seated);
      threat = ap (λ xs. (step (opening xs Right Theirs) (reply 1 0)).pending) both_seated ∙ threatened;
      answered = subst (λ xs. Advises (step (opening xs Right Theirs) (reply 1 0)) 1 0) (sym both_seated) answered_there;
    }

-- ---- the codes are lawful
small : (n : ℕ) → n ≤ score_limit → Score (pos n)
small n h = (omega (arith, ints), omega (arith, ints))

switch_lawful : (x y : Tree) → Lawful x → Lawful y → Lawful (switch x y)
switch_lawful x y h k = (omega arith, omega arith, h, k)

pub worked_story_lem : WorkedStory
worked_story_lem =
    let nothing : Lawful (points 0) = small 0 (omega arith) in
    let four = switch_lawful (points 4) (points 0) (small 4 (omega arith)) nothing in
    let nine = switch_lawful (points 9) (points 2) (small 9 (omega arith)) (small 2 (omega arith)) in
    record { lawful = (four, (tt, (switch_lawful nine_or_two (points 0) nine nothing, tt))); figures = figures }
