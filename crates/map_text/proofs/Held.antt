-- The number of points, by the parts of its text.
use Rattle.std.proofs.Common.{◌≡◌, ℕ, zero, suc, ◌<◌, eqb, List, [], ◌∷◌, length, get_or, drop, Some, None, Ok, Err, Option, sym, refl, ap, ◌∙◌, arith}
use Rattle.std.proofs.lemmas.Bool.{eq-eqb, cond-true}
use Rattle.terms.specs.declared.fault.Fault.{Fault}
use Rattle.terms.specs.declared.fault.Refusal.TheVariants.{WrongForm, WrongPoints}
use Rattle.terms.specs.Refusals.{fault}
use Rattle.numbers.specs.Numbers.{natural, below_zero, above_zero, capped, judged}
use Rattle.lines.specs.Reading.{then}
use Rattle.lines.proofs.Fields.{err_ok, err_same}
use Rattle.map_text.specs.Held.{from_zero, points_held}
use Rattle.map_text.proofs.Pairs.{number_read}

-- what follows a minus is no number, is 0, or is the size of a number below 0
held_minus : (n : ℕ) (xs : List ℕ) → 0 < length xs → get_or xs 0 0 ≡ 45 → points_held xs n ≡ then (judged (below_zero (natural (drop 1 xs))) n) (from_zero n)
held_minus n [] h e = absurd (omega arith)
held_minus n (b ∷ bs) h e = ap (λ o. then (judged o n) (from_zero n)) (cond-true (eqb b 45) (below_zero (natural bs)) (above_zero (natural (b ∷ bs))) (eq-eqb b 45 e))

module _ (n : ℕ) (xs : List ℕ) (h : 0 < length xs) (m : get_or xs 0 0 ≡ 45) where
  pub minus_wrong : (d : Fault) → Err d ≡ judged (capped (natural (drop 1 xs))) n → Err d ≡ points_held xs n
  minus_wrong d e = go (natural (drop 1 xs)) e ∙ sym (held_minus n xs h m)
    where
      go : (o : Option ℕ) → Err d ≡ judged (capped o) n → Err d ≡ then (judged (below_zero o) n) (from_zero n)
      go None e = ap Err (err_same e)
      go (Some a) e = err_ok e

  pub minus_zero : Ok 0 ≡ judged (capped (natural (drop 1 xs))) n → Err (fault WrongForm n) ≡ points_held xs n
  minus_zero e =
      let a = number_read (drop 1 xs) n 0 e in
      let z : a.0 ≡ 0 = omega arith in
      sym (held_minus n xs h m ∙ ap (λ o. then (judged (below_zero o) n) (from_zero n)) (a.1 ∙ ap Some z))

  pub minus_size : (k : ℕ) → 0 < k → Ok k ≡ judged (capped (natural (drop 1 xs))) n → Err (fault WrongPoints n) ≡ points_held xs n
  minus_size k p e =
      let a = number_read (drop 1 xs) n k e in
      let z : 0 < a.0 = omega arith in
      sym (held_minus n xs h m ∙ (ap (λ o. then (judged (below_zero o) n) (from_zero n)) a.1 ∙ below a.0 z))
    where
      below : (a : ℕ) → 0 < a → then (judged (below_zero (Some a)) n) (from_zero n) ≡ Err (fault WrongPoints n)
      below zero p = absurd (omega arith)
      below (suc a) p = refl
