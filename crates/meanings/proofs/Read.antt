-- The buffers that hold the rows of a tree part say the tree that the rows mean.
use Rattle.std.proofs.Common.{◌≡◌, ℕ, zero, suc, ◌+◌, ◌-◌, ◌<◌, ◌≤◌, min, true, false, cond, ◌&&◌, ltb, leb, List, [], ◌∷◌, ◌++◌, map, length, get_or, take, drop, ℤ, Some, None, Ok, Option, sym, refl, ap, ◌∙◌, append_assoc, arith, length-append}
use lib.Seq.{take-append_seam, drop-append_seam}
use Rattle.std.specs.List.{AllByRecursion}
use Rattle.std.proofs.lemmas.List.{length-take, length-take-le, get_or-take, take-append-drop, drop-drop, ext_get_or}
use Rattle.std.proofs.lemmas.Int.{ints}
use Rattle.std.proofs.lemmas.Bool.{true≢false, and_from, le-leb, lt-ltb, le-ltb}
use Rattle.terms.specs.declared.side.Side.{Side}
use Rattle.terms.specs.declared.side.Side.TheVariants.{Left, Right}
use Rattle.terms.specs.Sides.{pick}
use Rattle.theory.specs.Limits.{option_limit}
use Rattle.theory.specs.Trees.{Tree, ended, options, Score}
use Rattle.rules.proofs.Options.{map_same, map_map}
use Rattle.trees.specs.declared.row.PickRun.{PickRun}
use Rattle.trees.specs.declared.row.TreeRow.{TreeRow}
use Rattle.trees.specs.Written as written
use Rattle.trees.specs.Written.{row_limit, pick_limit, blank, named, all_above, lawful_list, score_or_zero, open_row, options_at, tree_at}
use Rattle.trees.specs.WrittenLemmas.{Above, as_written, row_read}
use Rattle.lines.specs.Reading.{State, Along}
use Rattle.tree_text.specs.Rows.{Place, Row, leaf, fork, picked, after_row, top, tree_lines, GoodRow, GoodTree}
use Rattle.tree_text.specs.Written.{row_at, rows_from, picks_of, Holds}
use Rattle.tree_text.proofs.Exact.{tree_reads}
use Rattle.job.specs.Grammar.{tree}
use Rattle.meanings.specs.Meaning.{row_of, tree_of, meaning}
use Rattle.meanings.specs.Laws as laws
use Rattle.meanings.proofs.Rows.{Listed, Fits, fits, says}

-- a run of the picks that names these rows
abbrev Runs : List ℕ → PickRun → List ℕ → Type 0
Runs lent l xs = (l.count ≡ length xs) × (l.begin + l.count ≤ length lent) × (named lent l ≡ xs)

-- what stands in the buffers of a row
abbrev Kept : List ℕ → TreeRow → Row → Type 0
Kept lent x (leaf z) = x ≡ row_at 0 (leaf z)
Kept lent x (fork left right) = Runs lent x.left left × Runs lent x.right right

kept_first : (lent : List ℕ) (last : ℕ) (p : Place) (r : Row) (tail : List ℕ) → GoodRow last (length lent) p r → drop p.used lent ≡ picked r ++ tail → Kept lent (row_at p.used r) r
kept_first lent last p (leaf z) tail g e = refl
kept_first lent last p (fork left right) tail g e =
    let d : drop p.used lent ≡ left ++ (right ++ tail) = e ∙ append_assoc left right tail in
    let f : drop (p.used + length left) lent ≡ right ++ tail =
    sym (drop-drop (length left) p.used lent) ∙ ap (drop (length left)) d ∙ drop-append_seam left (right ++ tail) in (
      (refl, g.0.4, ap (take (length left)) d ∙ take-append_seam left (right ++ tail)),
      (refl, g.1.4, ap (take (length right)) f ∙ take-append_seam right tail),
    )

kept_from : (lent : List ℕ) (last : ℕ) (p : Place) (rs : List Row) (rest : List ℕ) (i : ℕ) → Along (GoodRow last (length lent)) after_row p rs → drop p.used lent ≡ picks_of rs ++ rest → Kept lent (get_or (rows_from p.used rs) i blank) (row_of rs i)
unfolding rows_from picks_of
kept_from lent last p [] rest i g e = refl
kept_from lent last p (r ∷ rs) rest zero g e = kept_first lent last p r (picks_of rs ++ rest) g.0 (e ∙ append_assoc (picked r) (picks_of rs) rest)
kept_from lent last p (r ∷ rs) rest (suc i) g e =
    kept_from lent last (after_row p r) rs rest i g.1
    (sym (drop-drop (length (picked r)) p.used lent) ∙ ap (drop (length (picked r))) (e ∙ append_assoc (picked r) (picks_of rs) rest) ∙ drop-append_seam (picked r) (picks_of rs ++ rest))

-- the picks of good rows have room
first_room : (last room : ℕ) (p : Place) (r : Row) → p.used ≤ room → GoodRow last room p r → p.used + length (picked r) ≤ room
first_room last room p (leaf z) h g = omega arith
first_room last room p (fork left right) h g = let q = g.1.4 in omega (arith, length-append left right)

picks_room : (last room : ℕ) (p : Place) (rs : List Row) → p.used ≤ room → Along (GoodRow last room) after_row p rs → p.used + length (picks_of rs) ≤ room
unfolding picks_of
picks_room last room p [] h g = omega arith
picks_room last room p (r ∷ rs) h g =
    let q = picks_room last room (after_row p r) rs (first_room last room p r h g.0) g.1 in
    omega (arith, length-append (picked r) (picks_of rs))

-- lists are lawful
above_all : (own low end : ℕ) (ks : List ℕ) → low ≤ end → AllByRecursion (Above own low) ks → all_above own end ks ≡ true
above_all own low end [] h a = refl
above_all own low end (k ∷ ks) h a =
    let p = a.0.0 in
    let q = a.0.1 in
    and_from (ltb own k && ltb k end) (all_above own end ks) (and_from (ltb own k) (ltb k end) (lt-ltb own k p) (lt-ltb k end (omega arith))) (above_all own low end ks h a.1)

run_lawful : (lent : List ℕ) (own low end : ℕ) (l : PickRun) (xs : List ℕ) → low ≤ end → Runs lent l xs → Listed own low xs → lawful_list end lent own l ≡ true
run_lawful lent own low end l xs h r f =
    let n = r.0 in
    let a = f.0 in
    let b = f.1 in
    and_from (leb 1 l.count && leb l.count option_limit) (leb (l.begin + l.count) (length lent) && all_above own end (named lent l))
    (and_from (leb 1 l.count) (leb l.count option_limit) (le-leb 1 l.count (omega arith)) (le-leb l.count option_limit (omega arith)))
    (and_from (leb (l.begin + l.count) (length lent)) (all_above own end (named lent l)) (le-leb (l.begin + l.count) (length lent) r.1) (ap (all_above own end) r.2 ∙ above_all own low end xs h f.2))

score_same : (z : ℤ) → Score z → score_or_zero z ≡ z
score_same z h = let a = h.0 in let b = h.1 in grind (arith, ints)

module _ (rs : List Row) (rows : List TreeRow) (picks : List ℕ) (good : GoodTree (length rows) (min (length picks) pick_limit) rs) (held : Holds rs rows picks) where
  abbrev counted : List TreeRow
  counted = take row_limit rows

  abbrev lent : List ℕ
  lent = take pick_limit picks

  enough : length rs ≤ length counted
  enough = let a = good.0.1 in let b = good.0.2 in omega (arith, length-take row_limit rows)

  room_is : min (length picks) pick_limit ≡ length lent
  room_is = omega (arith, length-take pick_limit picks)

  good_rows : Along (GoodRow (length rs - 1) (length lent)) after_row top rs
  good_rows = rw room_is at good.1

  picks_few : length (picks_of rs) ≤ length lent
  picks_few = let q = picks_room (length rs - 1) (length lent) top rs (omega arith) good_rows in omega arith

  -- the picks begin with those of the rows
  begun : take (length (picks_of rs)) lent ≡ picks_of rs
  begun =
      let n = length-take-le (length (picks_of rs)) lent picks_few in
      let m = length-take pick_limit picks in
      let few = picks_few in
      ext_get_or 0 (take (length (picks_of rs)) lent) (picks_of rs) n
      (λ k h. get_or-take (length (picks_of rs)) lent k 0 (omega arith) ∙ get_or-take pick_limit picks k 0 (omega arith) ∙ held.1 k)

  lent_is : lent ≡ picks_of rs ++ drop (length (picks_of rs)) lent
  lent_is = sym (take-append-drop (length (picks_of rs)) lent) ∙ ap (λ ps. ps ++ drop (length (picks_of rs)) lent) begun

  kept : (i : ℕ) → i < length counted → Kept lent (written.row_at counted i) (row_of rs i)
  kept i h =
      rw (row_read rows picks i h, held.0 i) (kept_from lent (length rs - 1) top rs (drop (length (picks_of rs)) lent) i good_rows lent_is)

  -- what a row of the buffers says
  leaf_ended : (i : ℕ) (z : ℤ) → Kept lent (written.row_at counted i) (leaf z) → open_row counted lent i ≡ false
  leaf_ended i z k = ap (λ (x : TreeRow). lawful_list (length counted) lent i x.left && lawful_list (length counted) lent i x.right) k

  fork_open : (i : ℕ) (left right : List ℕ) → Kept lent (written.row_at counted i) (fork left right) → Fits i (length rs) (fork left right) → open_row counted lent i ≡ true
  fork_open i left right k f =
      let x = written.row_at counted i in
      and_from (lawful_list (length counted) lent i x.left) (lawful_list (length counted) lent i x.right) (run_lawful lent i (length rs) (length counted) x.left left enough k.0 f.0) (run_lawful lent i (length rs) (length counted) x.right right enough k.1 f.1)

  fork_options : (i : ℕ) (left right : List ℕ) (s : Side) → Kept lent (written.row_at counted i) (fork left right) → open_row counted lent i ≡ true → options_at counted lent i s ≡ pick s left right
  fork_options i left right Left k e = ap (λ b. named lent (cond b (written.row_at counted i).left written.empty)) e ∙ k.0.2
  fork_options i left right Right k e = ap (λ b. named lent (cond b (written.row_at counted i).right written.empty)) e ∙ k.1.2

  -- the trees of the rows, as far as there are rows in the buffer
  abbrev given : ℕ → Option Tree
  given i = cond (ltb i (length counted)) (Some (tree_of rs i)) None

  given_known : (i : ℕ) → i < length counted → given i ≡ Some (tree_of rs i)
  given_known i h = ap (λ b. cond b (Some (tree_of rs i)) None) (lt-ltb i (length counted) h)

  given_unknown : (i : ℕ) → length counted ≤ i → given i ≡ None
  given_unknown i h = ap (λ b. cond b (Some (tree_of rs i)) None) (le-ltb i (length counted) h)

  given_ended : (i : ℕ) → i < length counted → open_row counted lent i ≡ false → (r : Row) → Kept lent (written.row_at counted i) r → Fits i (length rs) r → laws.Says (tree_of rs) (tree_of rs i) r → given i ≡ Some (ended (score_or_zero (written.row_at counted i).score))
  given_ended i h e (leaf z) k f s =
      given_known i h ∙ ap Some s ∙ ap (λ v. Some (ended v)) (sym (score_same z f)) ∙ ap (λ (x : TreeRow). Some (ended (score_or_zero x.score))) (sym k)
  given_ended i h e (fork left right) k f s = absurd (true≢false (sym (fork_open i left right k f) ∙ e))

  mapped : (i : ℕ) (xs : List ℕ) → AllByRecursion (Above i (length rs)) xs → map (λ k. Some (tree_of rs k)) xs ≡ map given xs
  mapped i xs a =
      let n = enough in
      map_same (λ k. Some (tree_of rs k)) given (Above i (length rs)) (λ k b. sym (given_known k (omega arith))) xs a

  both_above : (i : ℕ) (left right : List ℕ) (s : Side) → Fits i (length rs) (fork left right) → AllByRecursion (Above i (length rs)) (pick s left right)
  both_above i left right Left f = f.0.2
  both_above i left right Right f = f.1.2

  given_open : (i : ℕ) → i < length counted → open_row counted lent i ≡ true → (r : Row) → Kept lent (written.row_at counted i) r → Fits i (length rs) r → laws.Says (tree_of rs) (tree_of rs i) r → (x : Tree) × (given i ≡ Some x) × ((s : Side) → map (λ y. Some y) (options x s) ≡ map given (options_at counted lent i s))
  given_open i h e (leaf z) k f s = absurd (true≢false (sym e ∙ leaf_ended i z k))
  given_open i h e (fork left right) k f s = (
    tree_of rs i,
    given_known i h,
    λ a. ap (map (λ y. Some y)) (s a) ∙ map_map (λ y. Some y) (tree_of rs) (pick a left right) ∙ mapped i (pick a left right) (both_above i left right a f) ∙ ap (map given) (sym (fork_options i left right a k e)),
  )

  agrees : (i : ℕ) → written.Says counted lent given i
  agrees i =
      let f = fits (length rows) (min (length picks) pick_limit) rs good in
      let s = says rs f good.0.0 i in (
        given_unknown i,
        λ h e. given_ended i h e (row_of rs i) (kept i h) (f i) s,
        λ h e. given_open i h e (row_of rs i) (kept i h) (f i) s,
      )

  -- row 0 of the buffers has the tree that the rows mean
  pub tree_held : tree_at rows picks 0 ≡ meaning (tree rs)
  tree_held =
      let some = good.0.0 in
      let n = enough in
      sym ((as_written rows picks).1 given agrees 0) ∙ given_known 0 (omega arith)

pub tree_read : (s t : State) (rows : List TreeRow) (picks : List ℕ) (rs : List Row) → tree_lines (length rows) (min (length picks) pick_limit) s ≡ Ok (rs, t) → Holds rs rows picks → tree_at rows picks 0 ≡ meaning (tree rs)
tree_read s t rows picks rs e held = tree_held rs rows picks ((tree_reads (length rows) (min (length picks) pick_limit)).sound s rs t e).0 held
