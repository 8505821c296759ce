-- Lists of row numbers: what is read is what is written, and the turns of the loops that read them.
use Rattle.std.proofs.Common.{◌≡◌, ℕ, ◌+◌, ◌<◌, ◌≤◌, Bool, true, false, cond, ltb, leb, List, [], ◌∷◌, ◌++◌, map, length, Some, None, Ok, Err, Option, refl, ap, ◌∙◌, subst, append-nil, arith, length-append}
use Rattle.std.specs.List.{AllByRecursion}
use Rattle.std.proofs.ByRecursion.{All-map}
use Rattle.std.proofs.lemmas.Bool.{cond-true, cond-false, leb-true, le-leb, lt-leb, ltb-true, lt-ltb, and_parts, and_from}
use Rattle.terms.specs.declared.fault.Fault.{Fault}
use Rattle.terms.specs.declared.fault.Refusal.TheVariants.{RowNotAbove, TreeTooLarge, WrongForm}
use Rattle.terms.specs.Refusals.{fault}
use Rattle.theory.specs.Limits.{option_limit}
use Rattle.numbers.specs.Numbers.{written, upto, judged}
use Rattle.numbers.proofs.Written.{none_some}
use Rattle.lines.specs.Reading.{then}
use Rattle.lines.specs.Commas.{pieces, both, all_of, begun}
use Rattle.lines.proofs.Splits.{Clear, some_same}
use Rattle.lines.proofs.Fields.{ok_same, err_ok, err_same}
use Rattle.lines.proofs.Laws.{Whole, then_ok}
use Rattle.lines.proofs.Counts.{upto_sound, upto_complete, written_clear}
use Rattle.lines.proofs.Commas.{list_sound, list_complete, commas_clear}
use Rattle.tree_text.specs.Rows.{Place, few, links, all_above, placed, list_of, links_text, GoodLinks}

few_some : (o : Option (List ℕ)) (xs : List ℕ) → few o ≡ Some xs → (length xs ≤ option_limit) × (o ≡ Some xs)
few_some None xs e = none_some e
few_some (Some ys) xs e = go (leb (length ys) option_limit) refl e
  where
    go : (t : Bool) → leb (length ys) option_limit ≡ t → cond t (Some ys) None ≡ Some xs → (length xs ≤ option_limit) × (Some ys ≡ Some xs)
    go true t e = (subst (λ zs. length zs ≤ option_limit) (some_same e) (leb-true (length ys) option_limit t), e)
    go false t e = none_some e

above_all : (row : ℕ) (xs : List ℕ) → all_above row xs ≡ true → AllByRecursion (λ x. row < x) xs
above_all row [] e = tt
above_all row (x ∷ xs) e = let p = and_parts (ltb row x) (all_above row xs) e in (ltb-true row x p.0, above_all row xs p.1)

all_above_from : (row : ℕ) (xs : List ℕ) → AllByRecursion (λ x. row < x) xs → all_above row xs ≡ true
all_above_from row [] g = refl
all_above_from row (x ∷ xs) g = and_from (ltb row x) (all_above row xs) (lt-ltb row x g.0) (all_above_from row xs g.1)

pub judged_ok : {A : Type 0} (o : Option A) (n : ℕ) (a : A) → judged o n ≡ Ok a → o ≡ Some a
judged_ok None n a e = err_ok e
judged_ok (Some b) n a e = ap Some (ok_same e)

pub judged_err : {A : Type 0} (o : Option A) (n : ℕ) (e : Fault) → Err e ≡ judged o n → (None ≡ o) × (e ≡ fault WrongForm n)
judged_err None n e q = (refl, err_same q)
judged_err (Some a) n e q = err_ok q

clears : (b : ℕ) → b < 48 → (ys : List ℕ) → AllByRecursion (λ y. Clear b (written y)) ys
clears b h [] = tt
clears b h (y ∷ ys) = (written_clear b y h, clears b h ys)

links_sound : (last : ℕ) (v xs : List ℕ) → links last v ≡ Some xs → (0 < length xs) × (length xs ≤ option_limit) × AllByRecursion (λ x. x ≤ last) xs × (v ≡ links_text xs)
unfolding links_text
links_sound last v xs e =
    let f = few_some (all_of (upto last) (pieces v)) xs e in
    let a = list_sound (upto last) written (λ x. x ≤ last) (upto_sound last) v xs f.1 in
    (a.0, f.0, a.1, a.2)

links_complete : (last : ℕ) (xs : List ℕ) → 0 < length xs → length xs ≤ option_limit → AllByRecursion (λ x. x ≤ last) xs → links last (links_text xs) ≡ Some xs
unfolding links_text
links_complete last xs z h g =
    ap few (list_complete (upto last) written (λ x. x ≤ last) (upto_complete last) xs z g (All-map (Clear 44) written xs (clears 44 (omega arith) xs)))
    ∙ cond-true (leb (length xs) option_limit) _ _ (le-leb (length xs) option_limit h)

-- a list of options is read as it is written
placed_ok : (room : ℕ) (p : Place) (xs : List ℕ) (n : ℕ) (ys : List ℕ) → placed room p xs n ≡ Ok ys → AllByRecursion (λ x. p.row < x) xs × (p.used + length xs ≤ room) × (xs ≡ ys)
placed_ok room p xs n ys e = go (all_above p.row xs) (leb (p.used + length xs) room) refl refl e
  where
    go : (t u : Bool) → all_above p.row xs ≡ t → leb (p.used + length xs) room ≡ u → cond t (cond u (Ok xs) (Err (fault TreeTooLarge n))) (Err (fault RowNotAbove n)) ≡ Ok ys → AllByRecursion (λ x. p.row < x) xs × (p.used + length xs ≤ room) × (xs ≡ ys)
    go true true t u e = (above_all p.row xs t, leb-true (p.used + length xs) room u, ok_same e)
    go true false t u e = err_ok e
    go false u t v e = err_ok e

pub list_whole : (last room : ℕ) (p : Place) → Whole (list_of last room p) links_text (GoodLinks last room p)
unfolding links_text
list_whole last room p = record {
  sound = λ v n xs e.
      let f = then_ok (judged (links last v) n) _ _ e in
      let l = links_sound last v f.0 (judged_ok (links last v) n f.0 f.1) in
      let q = placed_ok room p f.0 n xs f.2 in
      subst (λ zs. GoodLinks last room p zs × (v ≡ links_text zs)) q.2 ((l.0, l.1, l.2, q.0, q.1), l.3);
  complete = λ xs n g.
      ap (λ o. then (judged o n) (λ xs. placed room p xs n)) (links_complete last xs g.0 g.1 g.2)
      ∙ (cond-true (all_above p.row xs) _ _ (all_above_from p.row xs g.3)
      ∙ cond-true (leb (p.used + length xs) room) _ _ (le-leb (p.used + length xs) room g.4));
  clear = λ xs g. commas_clear (map written xs) (All-map (Clear 10) written xs (clears 10 (omega arith) xs));
}

-- the loop over the pieces
pub begun_full : (xs : List ℕ) (f : List ℕ → Option ℕ) (l : List ℕ) (ls : List (List ℕ)) → length xs ≡ option_limit → few (begun xs (all_of f (l ∷ ls))) ≡ None
begun_full xs f l ls h = go (f l) (all_of f ls)
  where
    go : (o : Option ℕ) (p : Option (List ℕ)) → few (begun xs (both o p)) ≡ None
    go None p = refl
    go (Some a) None = refl
    go (Some a) (Some ys) = cond-false (leb (length (xs ++ (a ∷ ys))) option_limit) _ _ (lt-leb (length (xs ++ (a ∷ ys))) option_limit (omega (arith, length-append xs (a ∷ ys))))

pub few_begun : (xs : List ℕ) (f : List ℕ → Option ℕ) → length xs ≤ option_limit → few (begun xs (all_of f [])) ≡ Some xs
few_begun xs f h = ap (λ ys. few (Some ys)) (append-nil xs) ∙ cond-true (leb (length xs) option_limit) _ _ (le-leb (length xs) option_limit h)
