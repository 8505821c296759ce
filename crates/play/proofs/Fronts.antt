-- The loops that keep the greatest so far: what they find is the first of the greatest.
use Rattle.std.proofs.Common.{◌≡◌, ℕ, zero, suc, ◌<◌, ◌≤◌, List, [], ◌∷◌, map, length, get_or, ℤ, pos, ◌≤ℤ◌, ◌<ℤ◌, Some, None, Option, sym, refl, ap, ◌∙◌, subst, arith}
use borrow.Author.Differences.{ints}
use Rattle.std.proofs.lemmas.List.{length-map}
use Rattle.theory.specs.Trees.{Tree, ended, branch, at, Open, Ended}
use Rattle.theory.specs.Walls.{temperature}
use Rattle.theory.specs.Sums.{hottest, All}
use Rattle.stories.proofs.Places.{none_some, some_same}
use Rattle.stories.proofs.Moves.{all_shut, hottest_under, open_under, over_hottest}
use Rattle.play.specs.Standing.{heat_of}
use Rattle.play.specs.Leads.{Foremost, Front, HottestOf, Hottest}
use Rattle.play.specs.Answers.{BestOption}
use Rattle.play.specs.declared.leads.Lead.{Lead}

-- ---- what stands in a list
pub there_at : {A : Type 0} (xs : List A) (p : ℕ) → p < length xs → (x : A) × (at xs p ≡ Some x)
there_at [] p h = absurd (omega arith)
there_at (x ∷ xs) zero h = (x, refl)
there_at (x ∷ xs) (suc p) h = there_at xs p (omega arith)

pub at_short : {A : Type 0} (xs : List A) (p : ℕ) (x : A) → at xs p ≡ Some x → p < length xs
at_short [] p x e = none_some x e
at_short (y ∷ xs) zero x e = omega arith
at_short (y ∷ xs) (suc p) x e = let r = at_short xs p x e in omega arith

pub map_at : {A B : Type 0} (f : A → B) (xs : List A) (p : ℕ) (x : A) (d : B) → at xs p ≡ Some x → get_or (map f xs) p d ≡ f x
map_at f [] p x d e = none_some x e
map_at f (y ∷ xs) zero x d e = ap f (some_same y x e)
map_at f (y ∷ xs) (suc p) x d e = map_at f xs p x d e

-- ---- of the trees
open_heat : (x : Tree) → Open x → heat_of x ≡ Some (temperature x)
open_heat (ended v) i = elim i [ ]
open_heat (branch L R) i = refl

heat_open : (x : Tree) (t : ℕ) → heat_of x ≡ Some t → Open x × (temperature x ≡ t)
heat_open (ended v) t e = none_some t e
heat_open (branch L R) t e = (tt, some_same (temperature (branch L R)) t e)

ended_heat : (x : Tree) → heat_of x ≡ None → Ended x
ended_heat (ended v) e = tt
ended_heat (branch L R) e = none_some (temperature (branch L R)) (sym e)

none_open : (xs : List Tree) → ((j : ℕ) → j < length xs → get_or (map heat_of xs) j None ≡ None) → All Ended xs
none_open [] h = tt
none_open (x ∷ xs) h = (ended_heat x (h 0 (omega arith)), none_open xs (λ j l. h (suc j) (omega arith)))

first_hottest : (xs : List Tree) (b : Lead) → Foremost (map heat_of xs) (length xs) b → HottestOf xs (Some b)
first_hottest xs b F =
    let (x, e) = there_at xs b.part F.within in
    let (o, q) = heat_open x b.heat (sym (map_at heat_of xs b.part x None e) ∙ F.there) in
    let most : (j : ℕ) (y : Tree) → at xs j ≡ Some y → Open y → temperature y ≤ temperature x =
    λ j y f i. omega (arith, F.most j (temperature y) (at_short xs j y f) (map_at heat_of xs j y None f ∙ open_heat y i)) in
    let under : hottest xs ≤ temperature x = hottest_under xs (temperature x) (λ j y f. open_under y (temperature x) (λ i. most j y f i)) in
    let over : temperature x ≤ hottest xs = over_hottest xs b.part x e in (
      record {
        item = x;
        there = e;
        counts = o;
        most = λ j y f i. omega (arith, ints, most j y f i);
        lowest = λ j y f i l. omega (arith, ints, F.lowest j (temperature y) l (map_at heat_of xs j y None f ∙ open_heat y i));
      },
      omega arith,
    )

by_front : (xs : List Tree) (r : Option Lead) → Front (map heat_of xs) (length xs) r → HottestOf xs r
by_front xs None F = all_shut xs (none_open xs F)
by_front xs (Some b) F = first_hottest xs b F

pub hottest_so : (hs : List (Option ℕ)) (n : ℕ) (r : Option Lead) → n ≡ length hs → Front hs n r → Hottest hs r
hottest_so hs n r l F xs e =
    by_front xs r (subst (λ m. Front (map heat_of xs) m r) (l ∙ ap length e ∙ length-map xs heat_of) (subst (λ ks. Front ks n r) e F))

-- ---- the greatest near wall
pub record Top (vs : List ℤ) (n k : ℕ) : Type 0 where
  pub within : k < length vs
  pub most : (j : ℕ) → j < n → get_or vs j (pos 0) ≤ℤ get_or vs k (pos 0)
  pub lowest : (j : ℕ) → j < k → get_or vs j (pos 0) <ℤ get_or vs k (pos 0)

pub top_so : (vs : List ℤ) (n k : ℕ) → n ≡ length vs → Top vs n k → BestOption vs k
top_so vs n k l W xs f e =
    let long : length vs ≡ length xs = ap length e ∙ length-map xs f in
    let (x, q) = there_at xs k (omega (arith, W.within)) in
    let read : (j : ℕ) (y : Tree) → at xs j ≡ Some y → get_or vs j (pos 0) ≡ f y = λ j y h. ap (λ ws. get_or ws j (pos 0)) e ∙ map_at f xs j y (pos 0) h in
    record {
      item = x;
      there = q;
      counts = tt;
      most = λ j y h i. omega (arith, ints, W.most j (omega (arith, at_short xs j y h)), read j y h, read k x q);
      lowest = λ j y h i m. omega (arith, ints, W.lowest j m, read j y h, read k x q);
    }
