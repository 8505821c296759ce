-- A text cut at a byte, and a word taken from its start.
use Rattle.std.proofs.Common.{◌≡◌, ℕ, ◌<◌, Bool, true, false, cond, eqb, List, [], ◌∷◌, ◌++◌, length, Some, None, Option, sym, refl, ap, ◌∙◌, subst, arith, length-append}
use Rattle.std.specs.List.{AllByRecursion}
use Rattle.std.proofs.lemmas.Bool.{eqb-true, eqb-false, eq-eqb, ne_eqb, cond-true, cond-false}
use Rattle.numbers.proofs.Written.{none_some}
use Rattle.lines.specs.Reading.{cut, ahead}
use Rattle.lines.specs.Lines.{strip}

-- a text without the byte b
abbrev pub Clear : ℕ → List ℕ → Type 0
Clear b xs = AllByRecursion (λ x. x ≡ b → ⊥) xs

pub some_same : {X : Type 0} {x y : X} → Some x ≡ Some y → x ≡ y
some_same e = cc

ahead_some : (x : ℕ) (o : Option (List ℕ × List ℕ)) (l r : List ℕ) → ahead x o ≡ Some (l, r) → (k : List ℕ) × (o ≡ Some (k, r)) × (x ∷ k ≡ l)
ahead_some x None l r e = none_some e
ahead_some x (Some (k, q)) l r e =
    let s = some_same e in
    (k, ap (λ t. Some (k, t)) (ap (λ p. p.1) s), ap (λ p. p.0) s)

pub cut_sound : (b : ℕ) (xs l r : List ℕ) → cut b xs ≡ Some (l, r) → Clear b l × (xs ≡ l ++ (b ∷ r))
cut_sound b [] l r e = none_some e
cut_sound b (x ∷ xs) l r e = go (eqb x b) refl e (λ k. cut_sound b xs k r)
  where
    go : (t : Bool) → eqb x b ≡ t → cond t (Some ([], xs)) (ahead x (cut b xs)) ≡ Some (l, r) → ((k : List ℕ) → cut b xs ≡ Some (k, r) → Clear b k × (xs ≡ k ++ (b ∷ r))) → Clear b l × (x ∷ xs ≡ l ++ (b ∷ r))
    go true t e ih =
        let s = some_same e in
        subst (λ k. Clear b k × (x ∷ xs ≡ k ++ (b ∷ r))) (ap (λ p. p.0) s) (tt, λ i. eqb-true x b t i ∷ (s i).1)
    go false t e ih =
        let w = ahead_some x (cut b xs) l r e in
        let h = ih w.0 w.1 in
        subst (λ k. Clear b k × (x ∷ xs ≡ k ++ (b ∷ r))) w.2 ((eqb-false x b t, h.0), ap (λ ys. x ∷ ys) h.1)

pub cut_complete : (b : ℕ) (l r : List ℕ) → Clear b l → cut b (l ++ (b ∷ r)) ≡ Some (l, r)
cut_complete b [] r c = cond-true (eqb b b) _ _ (eq-eqb b b refl)
cut_complete b (x ∷ l) r c = cond-false (eqb x b) _ _ (ne_eqb x b c.0) ∙ ap (ahead x) (cut_complete b l r c.1)

pub strip_sound : (p xs r : List ℕ) → strip p xs ≡ Some r → xs ≡ p ++ r
strip_sound [] xs r e = some_same e
strip_sound (y ∷ p) [] r e = none_some e
strip_sound (y ∷ p) (x ∷ xs) r e = go (eqb x y) refl e (strip_sound p xs r)
  where
    go : (t : Bool) → eqb x y ≡ t → cond t (strip p xs) None ≡ Some r → (strip p xs ≡ Some r → xs ≡ p ++ r) → x ∷ xs ≡ y ∷ (p ++ r)
    go true t e ih = let q = eqb-true x y t in let h = ih e in λ i. q i ∷ h i
    go false t e ih = none_some e

pub strip_complete : (p r : List ℕ) → strip p (p ++ r) ≡ Some r
strip_complete [] r = refl
strip_complete (y ∷ p) r = cond-true (eqb y y) _ _ (eq-eqb y y refl) ∙ strip_complete p r

pub clear_after : (b : ℕ) (p v : List ℕ) → Clear b (p ++ v) → Clear b v
clear_after b [] v c = c
clear_after b (x ∷ p) v c = clear_after b p v c.1

pub cut_shorter : (b : ℕ) (xs l r : List ℕ) → Some (l, r) ≡ cut b xs → length r < length xs
cut_shorter b xs l r e = omega (arith, ap length (cut_sound b xs l r (sym e)).1, length-append l (b ∷ r))
