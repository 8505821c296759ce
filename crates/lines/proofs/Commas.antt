-- A list with commas is read piece by piece, and just where it is written.
use Rattle.std.proofs.Common.{◌≡◌, ℕ, ◌<◌, Bool, true, false, cond, eqb, List, [], ◌∷◌, ◌++◌, map, length, Some, None, Option, sym, refl, ap, ◌∙◌, subst, append_assoc, append-nil, arith}
use Rattle.std.specs.List.{AllByRecursion}
use Rattle.std.proofs.ByRecursion.{All-append}
use Rattle.std.proofs.lemmas.Bool.{eqb-true, ne_eqb, cond-false}
use Rattle.numbers.proofs.Written.{none_some}
use Rattle.lines.specs.Reading.{cut, ahead}
use Rattle.lines.specs.Commas.{onto_first, pieces, commas, both, all_of, begun}
use Rattle.lines.proofs.Splits.{Clear, some_same, cut_sound}

-- pieces and commas undo one another
pub pieces_some : (v : List ℕ) → (l : List ℕ) × (more : List (List ℕ)) × (pieces v ≡ l ∷ more)
pieces_some [] = ([], [], refl)
pieces_some (x ∷ xs) = go (eqb x 44) (pieces xs)
  where
    go : (t : Bool) (ls : List (List ℕ)) → (l : List ℕ) × (more : List (List ℕ)) × (cond t ([] ∷ ls) (onto_first x ls) ≡ l ∷ more)
    go true ls = ([], ls, refl)
    go false [] = (x ∷ [], [], refl)
    go false (l ∷ ls) = (x ∷ l, ls, refl)

pub commas_pieces : (v : List ℕ) → commas (pieces v) ≡ v
commas_pieces [] = refl
commas_pieces (x ∷ xs) = go (eqb x 44) refl (pieces xs) (commas_pieces xs) (pieces_some xs)
  where
    first : (l : List ℕ) (more : List (List ℕ)) → commas ((x ∷ l) ∷ more) ≡ x ∷ commas (l ∷ more)
    first l [] = refl
    first l (m ∷ ms) = refl

    go : (t : Bool) → eqb x 44 ≡ t → (ls : List (List ℕ)) → commas ls ≡ xs → (l : List ℕ) × (more : List (List ℕ)) × (ls ≡ l ∷ more) → commas (cond t ([] ∷ ls) (onto_first x ls)) ≡ x ∷ xs
    go true t ls e w =
        let q = eqb-true x 44 t in
        ap (λ ys. commas ([] ∷ ys)) w.2 ∙ (λ i. sym q i ∷ (ap commas (sym w.2) ∙ e) i)
    go false t ls e w =
        ap (λ ys. commas (onto_first x ys)) w.2 ∙ (first w.0 w.1 ∙ ap (λ ys. x ∷ ys) (ap commas (sym w.2) ∙ e))

pieces_one : (l : List ℕ) → Clear 44 l → pieces l ≡ l ∷ []
pieces_one [] c = refl
pieces_one (x ∷ l) c = cond-false (eqb x 44) _ _ (ne_eqb x 44 c.0) ∙ ap (onto_first x) (pieces_one l c.1)

pieces_more : (l r : List ℕ) → Clear 44 l → pieces (l ++ (44 ∷ r)) ≡ l ∷ pieces r
pieces_more [] r c = refl
pieces_more (x ∷ l) r c = cond-false (eqb x 44) _ _ (ne_eqb x 44 c.0) ∙ ap (onto_first x) (pieces_more l r c.1)

pub pieces_commas : (l : List ℕ) (ls : List (List ℕ)) → AllByRecursion (Clear 44) (l ∷ ls) → pieces (commas (l ∷ ls)) ≡ l ∷ ls
pieces_commas l [] c = pieces_one l c.0
pieces_commas l (m ∷ ms) c = pieces_more l (commas (m ∷ ms)) c.0 ∙ ap (λ ys. l ∷ ys) (pieces_commas m ms c.1)

pub commas_clear : (ls : List (List ℕ)) → AllByRecursion (Clear 10) ls → Clear 10 (commas ls)
commas_clear [] c = tt
commas_clear (l ∷ []) c = c.0
commas_clear (l ∷ (m ∷ ms)) c = All-append (λ x. x ≡ 10 → ⊥) l (44 ∷ commas (m ∷ ms)) c.0 ((λ e. omega arith), commas_clear (m ∷ ms) c.1)

-- the pieces that are read are those that are written
pub both_some : {A : Type 0} (o : Option A) (p : Option (List A)) (xs : List A) → both o p ≡ Some xs → (a : A) × (more : List A) × (o ≡ Some a) × (p ≡ Some more) × (a ∷ more ≡ xs)
both_some None p xs e = none_some e
both_some (Some a) None xs e = none_some e
both_some (Some a) (Some more) xs e = (a, more, refl, refl, some_same e)

pub all_of_sound : {A : Type 0} (f : List ℕ → Option A) (w : A → List ℕ) (G : A → Type 0) → ((v : List ℕ) (a : A) → f v ≡ Some a → G a × (v ≡ w a)) → (ls : List (List ℕ)) (xs : List A) → all_of f ls ≡ Some xs → AllByRecursion G xs × (ls ≡ map w xs)
all_of_sound f w G h [] xs e = subst (λ ys. AllByRecursion G ys × ([] ≡ map w ys)) (some_same e) (tt, refl)
all_of_sound f w G h (l ∷ ls) xs e =
    let b = both_some (f l) (all_of f ls) xs e in
    let p = h l b.0 b.2 in
    let q = all_of_sound f w G h ls b.1 b.3 in
    subst (λ ys. AllByRecursion G ys × (l ∷ ls ≡ map w ys)) b.4 ((p.0, q.0), λ i. p.1 i ∷ q.1 i)

pub all_of_complete : {A : Type 0} (f : List ℕ → Option A) (w : A → List ℕ) (G : A → Type 0) → ((a : A) → G a → f (w a) ≡ Some a) → (xs : List A) → AllByRecursion G xs → all_of f (map w xs) ≡ Some xs
all_of_complete f w G h [] g = refl
all_of_complete f w G h (x ∷ xs) g = λ i. both (h x g.0 i) (all_of_complete f w G h xs g.1 i)

-- a text that has pieces has something in its list
pub some_pieces : {A : Type 0} (w : A → List ℕ) (v : List ℕ) (xs : List A) → pieces v ≡ map w xs → 0 < length xs
some_pieces w v [] e = let s = pieces_some v in absurd (omega (arith, ap length (sym s.2 ∙ e)))
some_pieces w v (x ∷ xs) e = omega arith

-- a list of such pieces, read whole: the texts of it are the lists that are not empty
pub list_sound : {A : Type 0} (f : List ℕ → Option A) (w : A → List ℕ) (G : A → Type 0) → ((v : List ℕ) (a : A) → f v ≡ Some a → G a × (v ≡ w a)) → (v : List ℕ) (xs : List A) → all_of f (pieces v) ≡ Some xs → (0 < length xs) × AllByRecursion G xs × (v ≡ commas (map w xs))
list_sound f w G h v xs e =
    let a = all_of_sound f w G h (pieces v) xs e in
    (some_pieces w v xs a.1, a.0, sym (commas_pieces v) ∙ ap commas a.1)

pub list_complete : {A : Type 0} (f : List ℕ → Option A) (w : A → List ℕ) (G : A → Type 0) → ((a : A) → G a → f (w a) ≡ Some a) → (xs : List A) → 0 < length xs → AllByRecursion G xs → AllByRecursion (Clear 44) (map w xs) → all_of f (pieces (commas (map w xs))) ≡ Some xs
list_complete f w G h [] z g c = absurd (omega arith)
list_complete f w G h (x ∷ xs) z g c = ap (all_of f) (pieces_commas (w x) (map w xs) c) ∙ all_of_complete f w G h (x ∷ xs) g

-- the turns of a loop over the pieces
pub pieces_cut : (v l r : List ℕ) → Some (l, r) ≡ cut 44 v → pieces v ≡ l ∷ pieces r
pieces_cut v l r e = let c = cut_sound 44 v l r (sym e) in ap pieces c.1 ∙ pieces_more l r c.0

pub pieces_last : (v : List ℕ) → None ≡ cut 44 v → pieces v ≡ v ∷ []
pieces_last [] e = refl
pieces_last (x ∷ xs) e = go (eqb x 44) e (cut 44 xs) refl (pieces_last xs)
  where
    go : (t : Bool) → None ≡ cond t (Some ([], xs)) (ahead x (cut 44 xs)) → (o : Option (List ℕ × List ℕ)) → cut 44 xs ≡ o → (None ≡ cut 44 xs → pieces xs ≡ xs ∷ []) → cond t ([] ∷ pieces xs) (onto_first x (pieces xs)) ≡ (x ∷ xs) ∷ []
    go true e o q ih = none_some e
    go false e None q ih = ap (onto_first x) (ih (sym q))
    go false e (Some (l, r)) q ih = none_some (e ∙ ap (ahead x) q)

pub begun_more : {A : Type 0} (xs : List A) (f : List ℕ → Option A) (l : List ℕ) (ls : List (List ℕ)) (a : A) → Some a ≡ f l → begun xs (all_of f (l ∷ ls)) ≡ begun (xs ++ (a ∷ [])) (all_of f ls)
begun_more {A} xs f l ls a e = ap (λ o. begun xs (both o (all_of f ls))) (sym e) ∙ go (all_of f ls)
  where
    go : (o : Option (List A)) → begun xs (both (Some a) o) ≡ begun (xs ++ (a ∷ [])) o
    go None = refl
    go (Some ys) = ap Some (sym (append_assoc xs (a ∷ []) ys))

pub begun_stops : {A : Type 0} (xs : List A) (f : List ℕ → Option A) (l : List ℕ) (ls : List (List ℕ)) → None ≡ f l → begun xs (all_of f (l ∷ ls)) ≡ None
begun_stops xs f l ls e = ap (λ o. begun xs (both o (all_of f ls))) (sym e)

pub begun_end : {A : Type 0} (xs : List A) (f : List ℕ → Option A) → begun xs (all_of f []) ≡ Some xs
begun_end xs f = ap Some (append-nil xs)

pub begun_none : {A : Type 0} (f : List ℕ → Option A) (ls : List (List ℕ)) → begun [] (all_of f ls) ≡ all_of f ls
begun_none {A} f ls = go (all_of f ls)
  where
    go : (o : Option (List A)) → begun [] o ≡ o
    go None = refl
    go (Some ys) = refl
