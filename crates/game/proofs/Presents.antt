-- The present trees of the parts, and figures of them as lists.
use Rattle.std.proofs.Common.{◌≡◌, ℕ, zero, suc, ◌<◌, ◌≤◌, true, List, [], ◌∷◌, length, get_or, take, Some, None, Option, sym, refl, ap, ◌∙◌, subst, le_of_suc-le-suc, not-suc-le-zero, arith}
use native.Mathlib.Decide.{dec_lt}
use Rattle.std.specs.Option.{IsSome}
use Rattle.std.proofs.lemmas.Bool.{cond-true, cond-false}
use Rattle.theory.specs.Trees.{Tree, at, size}
use Rattle.theory.specs.Sums.{hottest}
use Rattle.spreading.specs.Order.{none}
use Rattle.stories.specs.Game.{any_open}
use Rattle.stories.proofs.Places.{place, none_some}
use Rattle.stories.proofs.Moves.{some_open}
use Rattle.bank.specs.declared.bank.Bank.{Bank}
use Rattle.bank.specs.Contents.{trees}
use Rattle.bank.specs.Positions.{position_of, IsAt, Found}
use Rattle.bank.specs.declared.position.Position.{Position}
use Rattle.play.specs.declared.leads.Lead.{Lead}
use Rattle.play.specs.Leads.{HottestOf}
use Rattle.play.specs.Standing.{present, hottest_of}
use Rattle.game.specs.Rows.{position}
use Rattle.game.specs.Presents.{standing, Here, Tells}
use Rattle.game.specs.declared.present.Present.{Present}
use Rattle.play.proofs.Fronts.{there_at}
use Rattle.game.proofs.Lists.{filled_all}

pub present_long : (ts : List Tree) (rows : List ℕ) → length ts ≤ length rows → length (present ts rows) ≡ length ts
present_long [] rows h = refl
present_long (t ∷ ts) [] h = absurd (not-suc-le-zero h)
present_long (t ∷ ts) (r ∷ rows) h = ap suc (present_long ts rows (le_of_suc-le-suc h))

pub present_at : (ts : List Tree) (rows : List ℕ) (p : ℕ) → length ts ≤ length rows → p < length ts → at (present ts rows) p ≡ Some (position ts p (get_or rows p 0))
present_at [] rows p h l = absurd (not-suc-le-zero l)
present_at (t ∷ ts) [] p h l = absurd (not-suc-le-zero h)
present_at (t ∷ ts) (r ∷ rows) zero h l = refl
present_at (t ∷ ts) (r ∷ rows) (suc p) h l = present_at ts rows p (le_of_suc-le-suc h) (le_of_suc-le-suc l)

pub present_past : (ts : List Tree) (rows : List ℕ) (p : ℕ) → length ts ≤ p → at (present ts rows) p ≡ None
present_past [] rows p h = refl
present_past (t ∷ ts) [] p h = refl
present_past (t ∷ ts) (r ∷ rows) zero h = absurd (not-suc-le-zero h)
present_past (t ∷ ts) (r ∷ rows) (suc p) h = present_past ts rows p (le_of_suc-le-suc h)

present_get : (ts : List Tree) (rows : List ℕ) (p : ℕ) → length ts ≤ length rows → p < length ts → get_or (present ts rows) p none ≡ position ts p (get_or rows p 0)
present_get [] rows p h l = absurd (not-suc-le-zero l)
present_get (t ∷ ts) [] p h l = absurd (not-suc-le-zero h)
present_get (t ∷ ts) (r ∷ rows) zero h l = refl
present_get (t ∷ ts) (r ∷ rows) (suc p) h l = present_get ts rows p (le_of_suc-le-suc h) (le_of_suc-le-suc l)

-- ---- the position at a row
pub same_position : (b : Bank) (k i : ℕ) (q : Position) → IsAt b k i q → position (trees b) k i ≡ position_of q
same_position b k i q h =
    ap (λ c. position (trees c) k i) (sym h.bank) ∙ ap (λ p. position (trees q.bank.now) p i) (sym h.part) ∙ ap (position (trees q.bank.now) q.part) (sym h.row)

pub found_here : (w : Present) (k i : ℕ) (r : Option Position) → k < length w.rows → get_or w.rows k 0 ≡ i → Found w.bank.now k i r → Here w k r
found_here w k i (Some q) l e f =
    let lt : k < length (trees w.bank.now) = omega (arith, q.there.part, f.part, ap (λ b. length (trees b)) f.bank) in
    let is : IsAt w.bank.now k (get_or w.rows k 0) q = record { bank = f.bank; part = f.part; row = f.row ∙ sym e } in
    record { is = is; tree = present_at (trees w.bank.now) w.rows k w.enough lt ∙ ap (λ x. Some x) (same_position w.bank.now k (get_or w.rows k 0) q is) }
found_here w k i None l e f =
    elim (dec_lt k (length (trees w.bank.now))) [
      | yes h ↦ absurd (f (record { part = h; line = subst (λ n. n < size (get_or (trees w.bank.now) k none)) e (w.on_rows k h) }))
      | no n ↦ present_past (trees w.bank.now) w.rows k (omega arith)
    ]

pub here_some : (w : Present) (k : ℕ) (r : Option Position) → k < length (standing w) → Here w k r → IsSome r
here_some w k (Some q) l h = refl
here_some w k None l h = let there = there_at (standing w) k l in none_some there.0 (sym h ∙ there.1)

-- a list that has the figure of each part tells the figures of the trees
pub tells_all : {A : Type 0} (f : Tree → A) (g : Option Tree → A) (d : A) → ((x : Tree) → g (Some x) ≡ f x) → (w : Present) (r : List A) → length (trees w.bank.now) ≤ length r
    → ((k : ℕ) (e : A) → k < length (trees w.bank.now) → get_or r k e ≡ g (at (standing w) k)) → Tells f w r
tells_all f g d same w r room h =
    let ts : List Tree = trees w.bank.now in
    let long : length (standing w) ≡ length ts = present_long ts w.rows w.enough in
    ap (λ m. take m r) (sym long)
    ∙ filled_all f (standing w) r (length ts) none d (sym long) (omega arith) (λ k l.
    h k d l ∙ ap g (present_at ts w.rows k w.enough l) ∙ same (position ts k (get_or w.rows k 0)) ∙ ap f (sym (present_get ts w.rows k w.enough l)))

-- ---- the greatest temperature
abbrev pub heat_in : Option Lead → Option ℕ
heat_in None = None
heat_in (Some b) = Some b.heat

pub greatest_so : (xs : List Tree) (r : Option Lead) → HottestOf xs r → heat_in r ≡ hottest_of xs
greatest_so xs None e = sym (cond-false (any_open xs) (Some (hottest xs)) None e)
greatest_so xs (Some b) (F, e) =
    let shown : any_open xs ≡ true = some_open (place xs b.part F.item F.there).part F.counts in
    ap (λ t. Some t) e ∙ sym (cond-true (any_open xs) (Some (hottest xs)) None shown)
