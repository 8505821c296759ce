-- The worked figures, by certificates.
use Rattle.std.proofs.Common.{◌≡◌, ℕ, T, List, [], ◌∷◌, pos, negsuc, ◌*ℤ◌, refl, arith}
use borrow.Author.Differences.{ints}
use Rattle.terms.specs.declared.side.Side.TheVariants.{Left, Right}
use Rattle.theory.specs.Limits.{unit}
use Rattle.theory.specs.Trees.{size, height}
use Rattle.theory.specs.Stops.{stop, cold}
use Rattle.theory.specs.Fair.{Fair}
use Rattle.theory.specs.Walls.{temperature, mean}
use Rattle.theory.specs.Sums.{All, sum_stop, best_score}
use Rattle.theory.specs.Notes.{Note, leaf, node, last, also, bare, noted_temperature, noted_mean, noted, turns_at, certified}
use Rattle.theory.specs.Figures.{four_or_nothing, nine_two, five_two, two_regions, snort_path, Drawing, WorkedFigures}
use Rattle.theory.proofs.Certificate.{certificates}
use Rattle.theory.proofs.Floors.{opening_loss_lem}

-- {a|b} with its temperature
abbrev turn : ℕ → Note → Note → Note
turn m a b = node m (last a) (last b)

drawing : (n : Note) (lefts rights : List ℕ) → T (certified n) → T (turns_at (noted n Left) 0 lefts (noted_temperature n))
    → T (turns_at (noted n Right) 0 rights (noted_temperature n)) → Drawing (bare n) (noted_mean n) (noted_temperature n) lefts rights
drawing n lefts rights h l r =
    let c = certificates n h in record { middle = c.middle; heat = c.heat; left = c.corners Left lefts l; right = c.corners Right rights r }

abbrev note_four : Note
note_four = turn 8192 (leaf (pos 4)) (leaf (pos 0))

abbrev note_nine : Note
note_nine = turn 8192 (turn 14336 (leaf (pos 9)) (leaf (pos 2))) (leaf (pos 0))

abbrev note_five : Note
note_five = turn 7168 (turn 6144 (leaf (pos 5)) (leaf (pos 2))) (leaf (pos 0))

abbrev note_nothing : Note
note_nothing = turn 0 (leaf (pos 0)) (leaf (pos 0))

abbrev note_left_end : Note
note_left_end = node 6144 (also (leaf (pos 3)) (last (leaf (pos 3)))) (last (leaf (pos 0)))

abbrev note_right_end : Note
note_right_end = node 6144 (last (leaf (pos 0))) (also (leaf (negsuc 2)) (last (leaf (negsuc 2))))

abbrev note_snort : Note
note_snort = node 12288 (also note_left_end (also (leaf (pos 3)) (last note_left_end))) (also note_right_end (also (leaf (negsuc 2)) (last note_right_end)))

four : Drawing four_or_nothing (pos 8192) 8192 (8192 ∷ []) (8192 ∷ [])
unfolding height stop cold
four = drawing note_four (8192 ∷ []) (8192 ∷ []) tt tt tt

nine : Drawing nine_two (pos 8192) 8192 [] (8192 ∷ [])
unfolding height stop cold
nine = drawing note_nine [] (8192 ∷ []) tt tt tt

five : Drawing five_two (pos 7168) 7168 (6144 ∷ 7168 ∷ []) (7168 ∷ [])
unfolding height stop cold
five = drawing note_five (6144 ∷ 7168 ∷ []) (7168 ∷ []) tt tt tt

nothing : Drawing (bare note_nothing) (pos 0) 0 [] []
unfolding height stop cold
nothing = drawing note_nothing [] [] tt tt tt

snort : (mean snort_path ≡ pos 0) × (temperature snort_path ≡ 12288)
unfolding height stop cold
snort = let c = certificates note_snort tt in (c.middle, c.heat)

regions_fair : All Fair two_regions
unfolding height stop cold
regions_fair = ((certificates note_four tt).fair, ((certificates note_nine tt).fair, tt))

best_ours_lem : (pos unit *ℤ best_score Left two_regions) ≡ pos 24576
unfolding best_score sum_stop height
best_ours_lem = refl

best_theirs_lem : (pos unit *ℤ best_score Right two_regions) ≡ pos 8192
unfolding best_score sum_stop height
best_theirs_lem = refl

pub worked_figures_lem : WorkedFigures
unfolding size stop cold
worked_figures_lem =
    let o = opening_loss_lem Left two_regions regions_fair in
    let a = four.middle in
    let b = nine.middle in
    let c = four.heat in
    let d = nine.heat in
    record {
      four = four;
      nine = nine;
      five = five;
      nothing = nothing;
      cold_switch = refl;
      cold_below = refl;
      snort_size = refl;
      snort_mean = snort.0;
      snort_heat = snort.1;
      best_ours = best_ours_lem;
      floor_ours = omega (arith, ints, o.moving);
      low_ours = omega (arith, ints);
      high_ours = omega (arith, ints);
      best_theirs = best_theirs_lem;
      floor_theirs = omega (arith, ints, o.waiting);
      low_theirs = omega (arith, ints);
      high_theirs = omega (arith, ints);
    }
