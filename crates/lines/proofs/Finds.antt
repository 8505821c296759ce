-- A text cut at the place of a byte.
use Rattle.std.proofs.Common.{◌≡◌, ℕ, suc, ◌+◌, ◌<◌, ◌≤◌, Bool, true, false, cond, not, eqb, ltb, List, [], ◌∷◌, length, take, drop, Some, None, Option, sym, refl, ap, ◌∙◌, arith}
use Rattle.std.proofs.lemmas.Bool.{ltb-true, ltb-false}
use Rattle.std.specs.List.{position, position_or_len}
use Rattle.lines.specs.Reading.{cut, ahead}

abbrev pub halves : List ℕ → Option ℕ → Option (List ℕ × List ℕ)
halves xs None = None
halves xs (Some n) = Some (take n xs, drop (n + 1) xs)

-- how many bytes stand before the first b
abbrev before : ℕ → List ℕ → ℕ
before b xs = position_or_len (λ x. eqb x b) xs

cut_there : (b : ℕ) (xs : List ℕ) → before b xs < length xs → cut b xs ≡ halves xs (Some (before b xs))
cut_there b [] h = absurd (omega arith)
cut_there b (x ∷ xs) h = go (eqb x b) h (cut_there b xs)
  where
    go : (t : Bool) → cond (not t) (1 + before b xs) 0 < suc (length xs) → (before b xs < length xs → cut b xs ≡ halves xs (Some (before b xs))) → cond t (Some ([], xs)) (ahead x (cut b xs)) ≡ halves (x ∷ xs) (Some (cond (not t) (1 + before b xs) 0))
    go true h ih = refl
    go false h ih =
        let q : 1 + before b xs ≡ suc (before b xs) = omega arith in
        let p : 1 + before b xs + 1 ≡ suc (before b xs + 1) = omega arith in
        ap (ahead x) (ih (omega arith)) ∙ (λ i. Some (take (sym q i) (x ∷ xs), drop (sym p i) (x ∷ xs)))

cut_nowhere : (b : ℕ) (xs : List ℕ) → length xs ≤ before b xs → cut b xs ≡ None
cut_nowhere b [] h = refl
cut_nowhere b (x ∷ xs) h = go (eqb x b) h (cut_nowhere b xs)
  where
    go : (t : Bool) → suc (length xs) ≤ cond (not t) (1 + before b xs) 0 → (length xs ≤ before b xs → cut b xs ≡ None) → cond t (Some ([], xs)) (ahead x (cut b xs)) ≡ None
    go true h ih = absurd (omega arith)
    go false h ih = ap (ahead x) (ih (omega arith))

pub cut_halves : (b : ℕ) (xs : List ℕ) (r : Option ℕ) → r ≡ position (λ x. eqb x b) xs → halves xs r ≡ cut b xs
cut_halves b xs r e = ap (halves xs) e ∙ go (ltb (before b xs) (length xs)) refl
  where
    go : (t : Bool) → ltb (before b xs) (length xs) ≡ t → halves xs (cond t (Some (before b xs)) None) ≡ cut b xs
    go true t = sym (cut_there b xs (ltb-true (before b xs) (length xs) t))
    go false t = sym (cut_nowhere b xs (ltb-false (before b xs) (length xs) t))
