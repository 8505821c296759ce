-- The trees of rows: what they are, that no others agree with the rows, and what the four questions answer of them.
use Rattle.std.specs.Prelude.{◌≡◌, ℕ, zero, suc, ◌+◌, ◌<◌, ◌≤◌, Bool, true, false, cond, ◌&&◌, ◌⊎◌, List, [], ◌∷◌, map, length, take, drop, ℤ, Some, None, Option, nat_le, nat_lt, slice_index, slice_index_or}
use Rattle.std.proofs.Math.Path.{refl, ap, ap₂, sym}
use Rattle.std.proofs.Common.{◌∙◌, inl, inr}
use native.Mathlib.Omega.{arith}
use Rattle.std.specs.List.{AllByRecursion}
use Rattle.std.proofs.lemmas.List.{length-map, length-take, length-take-le, length-drop, get_or_past, get_or-take}
use Rattle.std.proofs.ByRecursion.{All-get_or}
use Rattle.std.proofs.lemmas.Int.{ints}
use Rattle.std.proofs.lemmas.Bool.{and_parts, leb-true, ltb-true, lt-ltb, le-ltb, cases_lt, cases_Bool}
use Rattle.terms.specs.declared.side.Side.{Side}
use Rattle.terms.specs.declared.side.Side.TheVariants.{Left, Right}
use Rattle.terms.specs.Sides.{pick}
use Rattle.theory.specs.Limits.{option_limit}
use Rattle.theory.specs.Trees.{Tree, ended, options, at, Score, Lawful}
use Rattle.rules.specs.Meaning.{known_in, score_of, score_in, options_in, Names, LawfulIn}
use Rattle.rules.specs.Positions.{position}
use Rattle.rules.proofs.Options.{at_past, at_map, map_same, map_map, some_apart, all_map, same_tree}
use Rattle.rules.proofs.Positions.{options_open, score_open, lawful_position}
use Rattle.trees.specs.declared.row.PickRun.{PickRun}
use Rattle.trees.specs.declared.row.TreeRow.{TreeRow}
use Rattle.trees.specs.Written.{row_limit, pick_limit, empty, blank, named, all_above, lawful_list, score_or_zero, row_at, open_row, list_at, options_at, tree_within, tree_of_row, tree_at, Says, TreesAsWritten}

-- a row above the own one and below the end
abbrev pub Above : ℕ → ℕ → ℕ → Type 0
Above own end k = (own < k) × (k < end)

all_above_all : (own end : ℕ) (ks : List ℕ) → all_above own end ks ≡ true → AllByRecursion (Above own end) ks
all_above_all own end [] h = tt
all_above_all own end (k ∷ ks) h =
    let p = and_parts (nat_lt own k && nat_lt k end) (all_above own end ks) h in
    let q = and_parts (nat_lt own k) (nat_lt k end) p.0 in
    ((ltb-true own k q.0, ltb-true k end q.1), all_above_all own end ks p.1)

pub record Sound (end : ℕ) (picks : List ℕ) (own : ℕ) (l : PickRun) : Type 0 where
  pub some : 1 ≤ l.count
  pub few : l.count ≤ option_limit
  pub within : l.begin + l.count ≤ length picks
  pub above : AllByRecursion (Above own end) (named picks l)

pub sound : (end : ℕ) (picks : List ℕ) (own : ℕ) (l : PickRun) → lawful_list end picks own l ≡ true → Sound end picks own l
sound end picks own l h =
    let p = and_parts (nat_le 1 l.count && nat_le l.count option_limit) (nat_le (l.begin + l.count) (length picks) && all_above own end (named picks l)) h in
    let a = and_parts (nat_le 1 l.count) (nat_le l.count option_limit) p.0 in
    let b = and_parts (nat_le (l.begin + l.count) (length picks)) (all_above own end (named picks l)) p.1 in
    record {
      some = leb-true 1 l.count a.0;
      few = leb-true l.count option_limit a.1;
      within = leb-true (l.begin + l.count) (length picks) b.0;
      above = all_above_all own end (named picks l) b.1;
    }

pub length_named : (picks : List ℕ) (l : PickRun) → l.begin + l.count ≤ length picks → length (named picks l) ≡ l.count
length_named picks l h =
    let d = length-drop l.begin picks in
    length-take-le l.count (drop l.begin picks) (omega arith)

pub lawful_score : (v : ℤ) → Score (score_or_zero v)
lawful_score v = grind (arith, ints)

-- a row's options: all above it, at most 16, and some for each side exactly where the row is open
module _ (rows : List TreeRow) (picks : List ℕ) where
  both_lawful : (i : ℕ) (s : Side) → open_row rows picks i ≡ true → lawful_list (length rows) picks i (pick s (row_at rows i).left (row_at rows i).right) ≡ true
  both_lawful i Left h = (and_parts (lawful_list (length rows) picks i (row_at rows i).left) (lawful_list (length rows) picks i (row_at rows i).right) h).0
  both_lawful i Right h = (and_parts (lawful_list (length rows) picks i (row_at rows i).left) (lawful_list (length rows) picks i (row_at rows i).right) h).1

  list_by : (i : ℕ) (s : Side) (b : Bool) → open_row rows picks i ≡ b → list_at rows picks i s ≡ cond b (pick s (row_at rows i).left (row_at rows i).right) empty
  list_by i s b e = ap (λ t. cond t (pick s (row_at rows i).left (row_at rows i).right) empty) e

  pub list_open : (i : ℕ) (s : Side) → open_row rows picks i ≡ true → Sound (length rows) picks i (list_at rows picks i s)
  list_open i s e = rw (list_by i s true e) (sound (length rows) picks i (pick s (row_at rows i).left (row_at rows i).right) (both_lawful i s e))

  pub list_ended : (i : ℕ) (s : Side) → open_row rows picks i ≡ false → list_at rows picks i s ≡ empty
  list_ended i s e = list_by i s false e

  none_named : (l : PickRun) → l ≡ empty → named picks l ≡ []
  none_named l e = ap (λ (x : PickRun). named picks x) e

  pub options_ended : (i : ℕ) (s : Side) → open_row rows picks i ≡ false → options_at rows picks i s ≡ []
  options_ended i s e = none_named (list_at rows picks i s) (list_ended i s e)

  options_above_by : (i : ℕ) (s : Side) → (open_row rows picks i ≡ true) ⊎ (open_row rows picks i ≡ false) → AllByRecursion (Above i (length rows)) (options_at rows picks i s)
  options_above_by i s (inl e) = (list_open i s e).above
  options_above_by i s (inr e) = rw (options_ended i s e) tt

  pub options_above : (i : ℕ) (s : Side) → AllByRecursion (Above i (length rows)) (options_at rows picks i s)
  options_above i s = options_above_by i s (cases_Bool (open_row rows picks i))

  length_options_by : (i : ℕ) (s : Side) → (open_row rows picks i ≡ true) ⊎ (open_row rows picks i ≡ false) → length (options_at rows picks i s) ≡ (list_at rows picks i s).count
  length_options_by i s (inl e) = length_named picks (list_at rows picks i s) (list_open i s e).within
  length_options_by i s (inr e) = rw (list_ended i s e)

  pub length_options : (i : ℕ) (s : Side) → length (options_at rows picks i s) ≡ (list_at rows picks i s).count
  length_options i s = length_options_by i s (cases_Bool (open_row rows picks i))

  count_few_by : (i : ℕ) (s : Side) → (open_row rows picks i ≡ true) ⊎ (open_row rows picks i ≡ false) → (list_at rows picks i s).count ≤ option_limit
  count_few_by i s (inl e) = (list_open i s e).few
  count_few_by i s (inr e) = rw (list_ended i s e) (omega arith)

  pub count_few : (i : ℕ) (s : Side) → (list_at rows picks i s).count ≤ option_limit
  count_few i s = count_few_by i s (cases_Bool (open_row rows picks i))

  pub some_options : (i : ℕ) (s : Side) → open_row rows picks i ≡ true → 0 < length (options_at rows picks i s)
  some_options i s e = let f = (list_open i s e).some in omega (arith, length_options i s)

  -- a row past the end is not open
  pub past_ended : (i : ℕ) → length rows ≤ i → open_row rows picks i ≡ false
  past_ended i h = rw (get_or_past rows i blank h)

  -- the trees
  abbrev score_at : ℕ → ℤ
  score_at i = score_or_zero (row_at rows i).score

  abbrev within : ℕ → ℕ → Tree
  within n = tree_within n rows picks

  step : (n i : ℕ) → within (suc n) i ≡ position (score_at i) (map (within n) (options_at rows picks i Left)) (map (within n) (options_at rows picks i Right))
  unfolding tree_within
  step n i = refl

  -- looking deeper than there are rows above changes nothing
  pub deeper : (m n i : ℕ) → i < length rows → length rows ≤ m + i → length rows ≤ n + i → within m i ≡ within n i
  deeper zero n i h p q = absurd (omega arith)
  deeper (suc m) zero i h p q = absurd (omega arith)
  deeper (suc m) (suc n) i h p q =
      let same : (k : ℕ) → Above i (length rows) k → within m k ≡ within n k = λ k a. deeper m n k a.1 (omega arith) (omega arith) in
      let l = map_same (within m) (within n) (Above i (length rows)) same (options_at rows picks i Left) (options_above i Left) in
      let r = map_same (within m) (within n) (Above i (length rows)) same (options_at rows picks i Right) (options_above i Right) in
      step m i ∙ ap₂ (position (score_at i)) l r ∙ sym (step n i)

  unfold_by : (n i : ℕ) → i < length rows → length rows ≤ n → within n i ≡ position (score_at i) (map (within n) (options_at rows picks i Left)) (map (within n) (options_at rows picks i Right))
  unfold_by zero i h p = absurd (omega arith)
  unfold_by (suc n) i h p =
      let same : (k : ℕ) → Above i (length rows) k → within n k ≡ within (suc n) k = λ k a. deeper n (suc n) k a.1 (omega arith) (omega arith) in
      let l = map_same (within n) (within (suc n)) (Above i (length rows)) same (options_at rows picks i Left) (options_above i Left) in
      let r = map_same (within n) (within (suc n)) (Above i (length rows)) same (options_at rows picks i Right) (options_above i Right) in
      step n i ∙ ap₂ (position (score_at i)) l r

  abbrev whole : ℕ → Tree
  whole = within (length rows)

  unfold_row : (i : ℕ) → i < length rows → whole i ≡ position (score_at i) (map whole (options_at rows picks i Left)) (map whole (options_at rows picks i Right))
  unfold_row i h = unfold_by (length rows) i h (omega arith)

  pub row_ended : (i : ℕ) → i < length rows → open_row rows picks i ≡ false → whole i ≡ ended (score_at i)
  row_ended i h e =
      unfold_row i h ∙ ap (λ l. position (score_at i) (map whole l) (map whole (options_at rows picks i Right))) (options_ended i Left e)

  pick_map : (i : ℕ) (s : Side) → pick s (map whole (options_at rows picks i Left)) (map whole (options_at rows picks i Right)) ≡ map whole (options_at rows picks i s)
  pick_map i Left = refl
  pick_map i Right = refl

  some_mapped : (i : ℕ) (s : Side) → open_row rows picks i ≡ true → 0 < length (map whole (options_at rows picks i s))
  some_mapped i s e = let f = some_options i s e in omega (arith, length-map (options_at rows picks i s) whole)

  row_options : (i : ℕ) (s : Side) → i < length rows → open_row rows picks i ≡ true → options (whole i) s ≡ map whole (options_at rows picks i s)
  row_options i s h e =
      ap (λ t. options t s) (unfold_row i h) ∙ options_open (score_at i) (map whole (options_at rows picks i Left)) (map whole (options_at rows picks i Right)) s (some_mapped i Left e) (some_mapped i Right e) ∙ pick_map i s

  row_no_score : (i : ℕ) → i < length rows → open_row rows picks i ≡ true → score_of (whole i) ≡ None
  row_no_score i h e =
      ap score_of (unfold_row i h) ∙ score_open (score_at i) (map whole (options_at rows picks i Left)) (map whole (options_at rows picks i Right)) (some_mapped i Left e) (some_mapped i Right e)

  lawful_within : (n i : ℕ) → Lawful (within n i)
  lawful_within zero i = unfold tree_within in (omega (arith, ints), omega (arith, ints))
  lawful_within (suc n) i =
      let l = length-map (options_at rows picks i Left) (within n) in
      let r = length-map (options_at rows picks i Right) (within n) in
      let p = length_options i Left in
      let q = length_options i Right in
      let f = count_few i Left in
      let g = count_few i Right in
      rw (step n i) (lawful_position (score_at i) (map (within n) (options_at rows picks i Left)) (map (within n) (options_at rows picks i Right)) (lawful_score (row_at rows i).score) (omega arith) (omega arith) (all_map Lawful (within n) (lawful_within n) (options_at rows picks i Left)) (all_map Lawful (within n) (lawful_within n) (options_at rows picks i Right)))

  -- what the rows say of their trees
  abbrev tree : ℕ → Option Tree
  tree = tree_of_row rows picks

  pub tree_known : (i : ℕ) → i < length rows → tree i ≡ Some (whole i)
  tree_known i h = ap (λ b. cond b (Some (whole i)) None) (lt-ltb i (length rows) h)

  pub tree_unknown : (i : ℕ) → length rows ≤ i → tree i ≡ None
  tree_unknown i h = ap (λ b. cond b (Some (whole i)) None) (le-ltb i (length rows) h)

  mapped : (i : ℕ) (s : Side) → map (λ k. Some (whole k)) (options_at rows picks i s) ≡ map tree (options_at rows picks i s)
  mapped i s = map_same (λ k. Some (whole k)) tree (Above i (length rows)) (λ k a. sym (tree_known k a.1)) (options_at rows picks i s) (options_above i s)

  row_says : (i : ℕ) (s : Side) → i < length rows → open_row rows picks i ≡ true → map (λ y. Some y) (options (whole i) s) ≡ map tree (options_at rows picks i s)
  row_says i s h e = ap (map (λ y. Some y)) (row_options i s h e) ∙ map_map (λ y. Some y) whole (options_at rows picks i s) ∙ mapped i s

  pub says : (i : ℕ) → Says rows picks tree i
  says i = (
    tree_unknown i,
    λ h e. tree_known i h ∙ ap (λ t. Some t) (row_ended i h e),
    λ h e. (whole i, tree_known i h, λ s. row_says i s h e),
  )

  -- and no other trees agree with them
  module _ (other : ℕ → Option Tree) (agrees : (i : ℕ) → Says rows picks other i) where
    open_same : (i : ℕ) → i < length rows → open_row rows picks i ≡ true → ((k : ℕ) → Above i (length rows) k → other k ≡ tree k) → other i ≡ tree i
    open_same i h e same =
        let a = (agrees i).2 h e in
        let by : (s : Side) → options a.0 s ≡ options (whole i) s =
        λ s. some_apart (options a.0 s) (options (whole i) s) (a.2 s ∙ map_same other tree (Above i (length rows)) same (options_at rows picks i s) (options_above i s) ∙ sym (row_says i s h e)) in
        let some : 0 < length (options (whole i) Left) = rw (row_options i Left h e) (some_mapped i Left e) in
        a.1 ∙ ap (λ t. Some t) (same_tree a.0 (whole i) (by Left) (by Right) some) ∙ sym (tree_known i h)

    same_by : (n i : ℕ) → length rows ≤ n + i → (i < length rows) ⊎ (length rows ≤ i) → (open_row rows picks i ≡ true) ⊎ (open_row rows picks i ≡ false) → other i ≡ tree i
    same_by n i p (inr h) b = (agrees i).0 h ∙ sym (tree_unknown i h)
    same_by n i p (inl h) (inr e) = (agrees i).1 h e ∙ sym ((says i).1 h e)
    same_by zero i p (inl h) (inl e) = absurd (omega arith)
    same_by (suc n) i p (inl h) (inl e) =
        open_same i h e (λ k a. same_by n k (omega arith) (cases_lt k (length rows)) (cases_Bool (open_row rows picks k)))

    pub only : (i : ℕ) → other i ≡ tree i
    only i = same_by (length rows) i (omega arith) (cases_lt i (length rows)) (cases_Bool (open_row rows picks i))

-- what the four questions answer
module _ (rows : List TreeRow) (picks : List ℕ) where
  abbrev counted : List TreeRow
  counted = take row_limit rows

  abbrev lent : List ℕ
  lent = take pick_limit picks

  pub as_written : TreesAsWritten rows picks
  unfolding tree_at
  as_written = (says counted lent, λ other agrees. only counted lent other agrees)

  -- what the code reads of the buffers
  pub row_read : (i : ℕ) → i < length counted → row_at counted i ≡ slice_index_or rows i blank
  row_read i h = get_or-take row_limit rows i blank (omega (arith, length-take row_limit rows))

  answers_by : (i : ℕ) (s : Side) → (i < length counted) ⊎ (length counted ≤ i) → (open_row counted lent i ≡ true) ⊎ (open_row counted lent i ≡ false) → options_in (tree_of_row counted lent i) s ≡ map (tree_within (length counted) counted lent) (options_at counted lent i s)
  answers_by i s (inr h) b = rw (tree_unknown counted lent i h, options_ended counted lent i s (past_ended counted lent i h)) refl
  answers_by i s (inl h) (inr e) = rw (tree_known counted lent i h, row_ended counted lent i h e, options_ended counted lent i s e) refl
  answers_by i s (inl h) (inl e) = rw (tree_known counted lent i h) (row_options counted lent i s h e)

  answer_options : (i : ℕ) (s : Side) → options_in (tree_at rows picks i) s ≡ map (tree_within (length counted) counted lent) (options_at counted lent i s)
  unfolding tree_at
  answer_options i s = answers_by i s (cases_lt i (length counted)) (cases_Bool (open_row counted lent i))

  pub answer_known : (i : ℕ) → nat_lt i (length counted) ≡ known_in (tree_at rows picks i)
  unfolding tree_at
  answer_known i = elim (nat_lt i (length counted)) as (λ b. b ≡ known_in (cond b (Some (tree_within (length counted) counted lent i)) None)) [ true ↦ refl | false ↦ refl ]

  pub answer_unknown_score : (i : ℕ) → length counted ≤ i → None ≡ score_in (tree_at rows picks i)
  unfolding tree_at
  answer_unknown_score i h = rw (tree_unknown counted lent i h) refl

  pub answer_open_score : (i : ℕ) → i < length counted → open_row counted lent i ≡ true → None ≡ score_in (tree_at rows picks i)
  unfolding tree_at
  answer_open_score i h e = rw (tree_known counted lent i h) (sym (row_no_score counted lent i h e))

  pub answer_score : (i : ℕ) → i < length counted → open_row counted lent i ≡ false → Some (score_or_zero (row_at counted i).score) ≡ score_in (tree_at rows picks i)
  unfolding tree_at
  answer_score i h e = rw (tree_known counted lent i h, row_ended counted lent i h e) refl

  pub answer_count : (i : ℕ) (s : Side) → length (options_at counted lent i s) ≡ length (options_in (tree_at rows picks i) s)
  answer_count i s = sym (ap length (answer_options i s) ∙ length-map (options_at counted lent i s) (tree_within (length counted) counted lent))

  pub answer_no_option : (i : ℕ) (s : Side) (k : ℕ) → length (options_at counted lent i s) ≤ k → at (options_in (tree_at rows picks i) s) k ≡ None
  answer_no_option i s k h = at_past (options_in (tree_at rows picks i) s) k (omega (arith, answer_count i s))

  pub answer_option : (i : ℕ) (s : Side) (k : ℕ) (o : ℕ) → k < length (options_at counted lent i s) → o ≡ slice_index (options_at counted lent i s) k → Names (tree_at rows picks) (at (options_in (tree_at rows picks i) s) k) (Some o)
  unfolding tree_at
  answer_option i s k o h e =
      let a = All-get_or (Above i (length counted)) (options_at counted lent i s) k 0 h (options_above counted lent i s) in
      let below : o < length counted = omega arith in
      let whole = tree_within (length counted) counted lent in
      let p : at (options_in (tree_of_row counted lent i) s) k ≡ Some (whole o) =
      ap (λ l. at l k) (answer_options i s) ∙ at_map whole (options_at counted lent i s) k h ∙ ap (λ n. Some (whole n)) (sym e) in
      (tree_known counted lent o below ∙ sym p, ap known_in p)

  pub lawful : (i : ℕ) → LawfulIn (tree_at rows picks i)
  unfolding tree_at
  lawful i = elim (nat_lt i (length counted)) as (λ b. LawfulIn (cond b (Some (tree_within (length counted) counted lent i)) None)) [ true ↦ lawful_within counted lent (length counted) i | false ↦ tt ]
