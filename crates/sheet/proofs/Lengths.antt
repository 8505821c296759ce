-- How long the texts of a sheet are.
use Rattle.std.proofs.Common.{ℕ, suc, ◌+◌, ◌*◌, ◌<◌, ◌≤◌, List, [], ◌∷◌, length, get_or, take, ℤ, pos, negsuc, Some, None, Option, sym, subst, arith, length-append, length-take}
use lib.Signed.{mag}
use Rattle.std.proofs.lemmas.Int.{ints}
use Rattle.std.proofs.lemmas.List.{get_or-take}
use Rattle.terms.specs.declared.side.Side.{Side}
use Rattle.terms.specs.declared.side.Side.TheVariants.{Left, Right}
use Rattle.stories.specs.declared.turn.Turn.{Turn}
use Rattle.stories.specs.declared.turn.Turn.TheVariants.{Ours, Theirs, Over}
use Rattle.theory.specs.Limits.{wall_limit}
use Rattle.numbers.specs.Numbers.{written, decimal}
use Rattle.numbers.proofs.Written.{length_written, length_decimal}
use Rattle.sheet.specs.declared.values.PartLines.{PartLines}
use Rattle.sheet.specs.declared.values.Sheet.{Sheet}
use Rattle.sheet.specs.Page.{page_size}
use Rattle.sheet.specs.Fitting.{Within, SmallHeat, SmallPart, SmallAdvice, sum_limit, Fitting}
use Rattle.sheet.specs.Sheet.{side_text, turn_text, heat_text, advice_text, heat_line, advice_line, part_text, parts_text, head_text, foot_text, sheet_text}
use Rattle.sheet.proofs.Adding.{line_length}

side_short : (s : Side) → length (side_text s) ≤ 5
side_short Left = omega arith
side_short Right = omega arith

turn_short : (t : Turn) → length (turn_text t) ≤ 6
turn_short Ours = omega arith
turn_short Theirs = omega arith
turn_short Over = omega arith

-- the size of a number in a range
size_within : (n : ℕ) (v : ℤ) → Within n v → mag v ≤ n
size_within n (pos m) h = omega (arith, ints)
size_within n (negsuc m) h = omega (arith, ints)

wall_short : (v : ℤ) → Within wall_limit v → length (decimal v) ≤ 8
wall_short v h = length_decimal 7 v (omega arith) (omega (arith, size_within wall_limit v h))

sum_short : (v : ℤ) → Within sum_limit v → length (decimal v) ≤ 9
sum_short v h = length_decimal 8 v (omega arith) (omega (arith, size_within sum_limit v h))

heat_short : (h : Option ℕ) → SmallHeat h → length (heat_text h) ≤ 7
heat_short None h = omega arith
heat_short (Some t) h = length_written 7 t (omega arith) (omega arith)

pub head_short : (s : Sheet) → Fitting s → length (head_text s) ≤ 39
unfolding head_text
head_short s f =
    simp (length-append, line_length)
    (omega (arith, side_short s.side, turn_short s.turn, length_written 1 s.count (omega arith) (omega (arith, f.count))))

part_short : (i : ℕ) (p : PartLines) → i < 10 → SmallPart p → length (part_text i p) ≤ 34
unfolding part_text heat_line
part_short i p h f =
    simp (length-append, line_length)
    (omega (arith, length_written 1 i (omega arith) (omega arith), wall_short p.mean f.mean, heat_short p.heat f.heat))

parts_short : (i : ℕ) (ps : List PartLines) → i + length ps < 10 → ((k : ℕ) (d : PartLines) → k < length ps → SmallPart (get_or ps k d)) → length (parts_text i ps) ≤ 34 * length ps
unfolding parts_text
parts_short i [] h f = omega arith
parts_short i (p ∷ ps) h f =
    omega (arith, length-append (part_text i p) (parts_text (i + 1) ps), part_short i p (omega arith) (f 0 p (omega arith)), parts_short (i + 1) ps (omega arith) (λ k d l. f (suc k) d (omega arith)))

advice_short : (a : Option (ℕ × ℕ)) → SmallAdvice a → length (advice_text a) ≤ 4
advice_short None h = omega arith
advice_short (Some (p, k)) h =
    omega (arith, length-append (written p) (44 ∷ written k), length_written 1 p (omega arith) (omega arith), length_written 2 k (omega arith) (omega arith))

foot_short : (s : Sheet) → Fitting s → length (foot_text s) ≤ 73
unfolding foot_text advice_line
foot_short s f =
    simp (length-append, line_length)
    (omega (arith, length_written 7 s.ambient (omega arith) (omega (arith, f.ambient)), sum_short s.floor f.floor, sum_short s.low f.low, sum_short s.high f.high, advice_short s.advice f.advice))

pub sheet_short : (s : Sheet) → Fitting s → length (sheet_text s) ≤ page_size
unfolding sheet_text
sheet_short s f =
    let ps : List PartLines = take s.count s.parts in
    let few : length ps ≤ s.count = omega (arith, length-take s.count s.parts) in
    let small : (k : ℕ) (d : PartLines) → k < length ps → SmallPart (get_or ps k d) =
    λ k d h. subst SmallPart (sym (get_or-take s.count s.parts k d (omega arith))) (f.parts k d (omega arith)) in
    simp length-append
    (omega (arith, f.count, head_short s f, parts_short 0 ps (omega (arith, f.count)) small, foot_short s f))
