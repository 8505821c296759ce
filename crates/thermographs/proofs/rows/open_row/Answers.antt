use Rattle.std.proofs.Common.{◌≡◌, ℕ, List, length, ℤ, Some, None, Option, sym, refl, ap, ◌∙◌, subst, arith, to_z, of_z, w32}
use Rattle.std.proofs.lemmas.Int.{ints}
use Rattle.terms.specs.declared.side.Side.TheVariants.{Left, Right}
use Rattle.theory.specs.Trees.{Forest, branch}
use Rattle.theory.specs.Corners.{corners_of}
use Rattle.thermographs.specs.declared.figures.Figures.{Figures}
use Rattle.thermographs.specs.Near.{best, Sound}
use Rattle.thermographs.specs.Strips.{told, Grown}
use Rattle.thermographs.specs.Rows.{OpenReady, RowInto}
use Rattle.thermographs.specs.Sweep.{Meets}
use Rattle.thermographs.proofs.Draw.{made_wall}
use Rattle.thermographs.proofs.Positions.{left_sound, right_sound}
use Rattle.thermographs.proofs.OpenRow.{mean_ranged, left_ranged, right_ranged, left_wrote, right_wrote, still_ready, left_full, right_full, open_row}
use Rattle.thermographs.proofs.rows.open_row.Goals as goal
use Rattle.thermographs.proofs.rows.open_row.Goals.{After-meet-meeting, In_ok-left}

-- what the sweep found, over the told corners
met : (c : After-meet-meeting) → Meets (best Left (told c.args.strip.now) c.args.lefts.now) (best Right (told c.args.strip.now) c.args.rights.now) c.meet-meeting.result
met c = subst (λ (s : List ℕ). Meets (best Left s c.args.lefts.now) (best Right s c.args.rights.now) c.meet-meeting.result) c.told.ensures c.meet-meeting.ensures

pub meet-meeting-requires : goal.meet-meeting-requires
meet-meeting-requires c =
    let (L, R, O) = c.requires in
    record {
      lefts = subst (λ (s : List ℕ). Sound Left s c.args.lefts.now) (sym c.told.ensures) (left_sound _ c.args.lefts.now c.args.rights.now L R O);
      rights = subst (λ (s : List ℕ). Sound Right s c.args.rights.now) (sym c.told.ensures) (right_sound _ c.args.lefts.now c.args.rights.now L R O);
    }

pub draw-requires-clause-sound : goal.draw-requires-clause-sound
draw-requires-clause-sound c = let (L, R, O) = c.requires in left_sound _ c.args.lefts.now c.args.rights.now L R O

pub returns-in_err-left-clause-row : goal.returns-in_err-left-clause-row
returns-in_err-left-clause-row c L R O =
    let M = met (goal.at.returns-in_err-left-clause-row c).After-meet-meeting in
    subst (λ (o : Option Figures). RowInto (branch L R) c.args.strip.now o c.draw.new.self) (sym c.from_residual.ensures)
    (left_full L R c.args.strip.now c.draw.new.self
    (left_wrote c.args.strip.now c.args.lefts.now c.args.rights.now L R O c.meet-meeting.result M c.meet-meeting.result.left None c.draw.new.self c.in_err-left.ensures.wrote))

-- the left wall is written
left : (c : In_ok-left) → Meets (best Left (told c.args.strip.now) c.args.lefts.now) (best Right (told c.args.strip.now) c.args.rights.now) c.meet-meeting.result → (L R : Forest) → OpenReady (told c.args.strip.now) c.args.lefts.now c.args.rights.now L R
    → (c.in_ok-left.left ≡ made_wall (to_z w32 (of_z w32 c.meet-meeting.result.left)) c.args.strip.now.used (length (corners_of (branch L R) Left)))
    × Grown (corners_of (branch L R) Left) c.args.strip.now c.draw.new.self
left c M L R O =
    left_wrote c.args.strip.now c.args.lefts.now c.args.rights.now L R O c.meet-meeting.result M
    _ (Some c.in_ok-left.left) c.draw.new.self c.in_ok-left.ensures.wrote

pub draw-requires-2-clause-sound : goal.draw-requires-2-clause-sound
draw-requires-2-clause-sound c =
    let (L, R, O) = c.requires in
    let M = met (goal.at.draw-requires-2-clause-sound c).After-meet-meeting in
    let (is, G) = left (goal.at.draw-requires-2-clause-sound c).In_ok-left M L R O in
    right_sound _ c.args.lefts.now c.args.rights.now L R (still_ready c.args.strip.now c.args.lefts.now c.args.rights.now L R O c.meet-meeting.result M c.draw.new.self G)

pub returns-in_err-right-clause-row : goal.returns-in_err-right-clause-row
returns-in_err-right-clause-row c L R O =
    let M = met (goal.at.returns-in_err-right-clause-row c).After-meet-meeting in
    let (is, G) = left (goal.at.returns-in_err-right-clause-row c).In_ok-left M L R O in
    subst (λ (o : Option Figures). RowInto (branch L R) c.args.strip.now o c.draw-2.new.self) (sym c.from_residual-in_err-right.ensures)
    (right_full c.args.strip.now c.args.lefts.now c.args.rights.now L R O c.meet-meeting.result M c.draw.new.self G c.draw-2.new.self
    (right_wrote c.args.strip.now c.args.lefts.now c.args.rights.now L R O c.meet-meeting.result M c.draw.new.self G c.meet-meeting.result.right None c.draw-2.new.self c.in_err-right.ensures.wrote))

pub returns-clause-row : goal.returns-clause-row
returns-clause-row c L R O =
    let old = c.args.strip.now in
    let r = c.meet-meeting.result in
    let M = met (goal.at.returns-clause-row c).After-meet-meeting in
    let (is, G) = left (goal.at.returns-clause-row c).In_ok-left M L R O in
    let (is', H) = right_wrote old c.args.lefts.now c.args.rights.now L R O r M c.draw.new.self G _ (Some c.in_ok-right.right) c.draw-2.new.self c.in_ok-right.ensures.wrote in
    let rm = mean_ranged old c.args.lefts.now c.args.rights.now L R O r M in
    let rl = left_ranged old c.args.lefts.now c.args.rights.now L R O r M in
    let rr = right_ranged old c.args.lefts.now c.args.rights.now L R O r M in
    let a : to_z w32 (of_z w32 r.left) ≡ r.left = omega (arith, ints) in
    let b : to_z w32 (of_z w32 r.right) ≡ r.right = omega (arith, ints) in
    open_row old c.args.lefts.now c.args.rights.now L R O r M c.draw.new.self G _ c.draw-2.new.self H (omega (arith, ints)) refl
    (is ∙ ap (λ (v : ℤ). made_wall v old.used (length (corners_of (branch L R) Left))) a)
    (is' ∙ ap (λ (v : ℤ). made_wall v c.draw.new.self.used (length (corners_of (branch L R) Right))) b)
