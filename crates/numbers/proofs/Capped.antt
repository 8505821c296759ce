use Rattle.std.proofs.Common.{◌≡◌, ℕ, zero, suc, ◌+◌, ◌-◌, ◌*◌, ◌<◌, min, Bool, true, false, cond, eqb, ltb, leb, List, [], ◌∷◌, length, get_or, drop, ℤ, pos, negsuc, neg_ℤ, ◌≤ℤ◌, Some, None, Ok, Err, Option, sym, refl, ap, ◌∙◌, subst, arith}
use Rattle.std.proofs.lemmas.Bool.{cond-true, cond-false, ne_eqb, eq-eqb, leb-true, leb-false, le-leb, lt-leb, ltb-true, ltb-false}
use Rattle.std.proofs.lemmas.Int.{ints}
use Rattle.numbers.proofs.Written.{none_some}
use Rattle.std.proofs.lemmas.List.{at_drop_more}
use Rattle.numbers.specs.Numbers.{after, natural, capped, digit, at_most, upto, in_range, within, below_zero, above_zero, integer, judged}
use Rattle.terms.specs.declared.fault.Fault.{Fault}

-- to cap on the way changes nothing
pub after_capped : (n m : ℕ) (bs : List ℕ) → min n 0xffff_ffff ≡ min m 0xffff_ffff → capped (after n bs) ≡ capped (after m bs)
after_capped n m [] e = ap Some e
after_capped n m (b ∷ bs) e = both (digit b) (after_capped (n * 10 + (b - 48)) (m * 10 + (b - 48)) bs (omega arith))
  where
    both : (t : Bool) → capped (after (n * 10 + (b - 48)) bs) ≡ capped (after (m * 10 + (b - 48)) bs) → capped (cond t (after (n * 10 + (b - 48)) bs) None) ≡ capped (cond t (after (m * 10 + (b - 48)) bs) None)
    both true h = h
    both false h = refl

pub one_more : (xs : List ℕ) (i n : ℕ) → i < length xs → digit (get_or xs i 0) ≡ true → (m : ℕ) → m ≡ min (n * 10 + (get_or xs i 0 - 48)) 0xffff_ffff → capped (after n (drop i xs)) ≡ capped (after m (drop (i + 1) xs))
one_more xs i n h d m e =
    at_drop_more (λ ys. capped (after n ys)) xs i 0 h
    ∙ (ap capped (cond-true (digit (get_or xs i 0)) (after (n * 10 + (get_or xs i 0 - 48)) (drop (i + 1) xs)) None d)
    ∙ after_capped (n * 10 + (get_or xs i 0 - 48)) m (drop (i + 1) xs) (omega arith))

-- a range that ends below the cap sees nothing of it
pub capped_upto : (m : ℕ) (o : Option ℕ) → m < 0xffff_ffff → at_most m (capped o) ≡ at_most m o
capped_upto m None h = refl
capped_upto m (Some n) h = go (leb n m) refl
  where
    go : (t : Bool) → leb n m ≡ t → at_most m (Some (min n 0xffff_ffff)) ≡ at_most m (Some n)
    go true e = let k = leb-true n m e in let q : min n 0xffff_ffff ≡ n = omega arith in ap (λ x. at_most m (Some x)) q
    go false e =
        let k = leb-false n m e in
        cond-false (leb (min n 0xffff_ffff) m) _ _ (lt-leb (min n 0xffff_ffff) m (omega arith)) ∙ sym (cond-false (leb n m) _ _ e)

range_below : (m : ℕ) (o : Option ℕ) → in_range m (below_zero o) ≡ below_zero (at_most m o)
range_below m None = refl
range_below m (Some zero) = ap below_zero (sym (cond-true (leb 0 m) (Some 0) None (le-leb 0 m (omega arith))))
range_below m (Some (suc n)) = go (ltb n m) refl
  where
    go : (t : Bool) → ltb n m ≡ t → cond t (Some (negsuc n)) None ≡ below_zero (at_most m (Some (suc n)))
    go true e = ap below_zero (sym (cond-true (leb (suc n) m) _ None (le-leb (suc n) m (omega (arith, ltb-true n m e)))))
    go false e = ap below_zero (sym (cond-false (leb (suc n) m) (Some (suc n)) _ (lt-leb (suc n) m (omega (arith, ltb-false n m e)))))

range_above : (m : ℕ) (o : Option ℕ) → in_range m (above_zero o) ≡ above_zero (at_most m o)
range_above m None = refl
range_above m (Some n) = go (leb n m)
  where
    go : (t : Bool) → cond t (Some (pos n)) None ≡ above_zero (cond t (Some n) None)
    go true = refl
    go false = refl

pub within_minus : (m : ℕ) (xs : List ℕ) → 0 < length xs → get_or xs 0 0 ≡ 45 → within m xs ≡ below_zero (upto m (drop 1 xs))
within_minus m [] h e = absurd (omega arith)
within_minus m (b ∷ bs) h e = ap (in_range m) (cond-true (eqb b 45) (below_zero (natural bs)) (above_zero (natural (b ∷ bs))) (eq-eqb b 45 e)) ∙ range_below m (natural bs)

pub within_plain : (m : ℕ) (xs : List ℕ) → (0 < length xs → get_or xs 0 0 ≡ 45 → ⊥) → within m xs ≡ above_zero (upto m xs)
within_plain m [] h = refl
within_plain m (b ∷ bs) h = ap (in_range m) (cond-false (eqb b 45) (below_zero (natural bs)) (above_zero (natural (b ∷ bs))) (ne_eqb b 45 (h (omega arith)))) ∙ range_above m (natural (b ∷ bs))

judged_ok : {A : Type 0} (o : Option A) (line : ℕ) (a : A) → Ok a ≡ judged o line → o ≡ Some a
judged_ok None line a e = let z : ◌≡◌ {A = ℕ} 0 1 = cc in absurd (omega arith)
judged_ok (Some b) line a e = let q : b ≡ a = cc in ap Some q

judged_stops : (o : Option ℕ) (line : ℕ) (e : Fault) → Err e ≡ judged o line → judged (below_zero o) line ≡ Err e
judged_stops None line e q = (cc)
judged_stops (Some n) line e q = let z : ◌≡◌ {A = ℕ} 0 1 = cc in absurd (omega arith)

-- the text behind a minus was refused, or was the number n
pub minus_stops : (m line : ℕ) (xs : List ℕ) (e : Fault) → 0 < length xs → get_or xs 0 0 ≡ 45 → Err e ≡ judged (upto m (drop 1 xs)) line → judged (within m xs) line ≡ Err e
minus_stops m line xs e h q r = ap (λ o. judged o line) (within_minus m xs h q) ∙ judged_stops (upto m (drop 1 xs)) line e r

pub minus_goes : (m line n : ℕ) (xs : List ℕ) → 0 < length xs → get_or xs 0 0 ≡ 45 → Ok n ≡ judged (upto m (drop 1 xs)) line → judged (within m xs) line ≡ judged (below_zero (Some n)) line
minus_goes m line n xs h q r = ap (λ o. judged o line) (within_minus m xs h q ∙ ap below_zero (judged_ok (upto m (drop 1 xs)) line n r))

-- what is read within a range lies in it
pub in_range_small : (m : ℕ) (o : Option ℤ) (z : ℤ) → in_range m o ≡ Some z → (neg_ℤ (pos m) ≤ℤ z) × (z ≤ℤ pos m)
in_range_small m None z e = none_some e
in_range_small m (Some (pos n)) z e = go (leb n m) refl e
  where
    go : (t : Bool) → leb n m ≡ t → cond t (Some (pos n)) None ≡ Some z → (neg_ℤ (pos m) ≤ℤ z) × (z ≤ℤ pos m)
    go true t e = let q : pos n ≡ z = cc in let h = leb-true n m t in subst (λ y. (neg_ℤ (pos m) ≤ℤ y) × (y ≤ℤ pos m)) q (omega (arith, ints), omega (arith, ints))
    go false t e = none_some e
in_range_small m (Some (negsuc n)) z e = go (ltb n m) refl e
  where
    go : (t : Bool) → ltb n m ≡ t → cond t (Some (negsuc n)) None ≡ Some z → (neg_ℤ (pos m) ≤ℤ z) × (z ≤ℤ pos m)
    go true t e = let q : negsuc n ≡ z = cc in let h = ltb-true n m t in subst (λ y. (neg_ℤ (pos m) ≤ℤ y) × (y ≤ℤ pos m)) q (omega (arith, ints), omega (arith, ints))
    go false t e = none_some e

pub within_small : (m line : ℕ) (text : List ℕ) (z : ℤ) → Ok z ≡ judged (within m text) line → (neg_ℤ (pos m) ≤ℤ z) × (z ≤ℤ pos m)
within_small m line text z e = in_range_small m (integer text) z (judged_ok (within m text) line z e)

pub in_range_is : (m : ℕ) (o : Option ℤ) (z : ℤ) → in_range m o ≡ Some z → o ≡ Some z
in_range_is m None z e = none_some e
in_range_is m (Some (pos n)) z e = go (leb n m) e
  where
    go : (t : Bool) → cond t (Some (pos n)) None ≡ Some z → Some (pos n) ≡ Some z
    go true e = e
    go false e = none_some e
in_range_is m (Some (negsuc n)) z e = go (ltb n m) e
  where
    go : (t : Bool) → cond t (Some (negsuc n)) None ≡ Some z → Some (negsuc n) ≡ Some z
    go true e = e
    go false e = none_some e
