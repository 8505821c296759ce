-- What holds of every column, whatever its entries are: it begins blank, a tree more is written behind the others, what is wiped behind them is as before, and each part can be read.
use Rattle.std.proofs.Common.{◌≡◌, ℕ, zero, suc, ◌+◌, ◌-◌, ◌<◌, ◌≤◌, ltb, ◌≢◌, List, [], ◌∷◌, ◌++◌, length, get_or, take, drop, set, replicate, sym, refl, ap, ◌∙◌, subst, le_of_suc-le-suc, not-suc-le-zero, arith, length-append}
use native.Mathlib.Decide.{dec_lt}
use lib.ListN.{length-replicate}
use Rattle.std.specs.List.{flat_map}
use Rattle.std.proofs.lemmas.List.{flat_map_more, get_or_append_left, get_or-append_right, get_or-append-add, get_or-take, get_or-drop, get_or_past, get_or-replicate, get_or-set_same, get_or-set_other, length-take-le, length-drop, length_push, take_all, take_at, take-append-le, ext_get_or}
use Rattle.std.proofs.lemmas.Bool.{lt-ltb, le-ltb, cond-true, cond-false}
use Rattle.theory.specs.Trees.{Tree}
use Rattle.spreading.specs.Order.{none}
use Rattle.encoding.specs.Columns.{start, Column}
use Rattle.measures.proofs.Entries.{all_replicate}

pub joined_push : {A : Type 0} (entries : Tree → List A) (ts : List Tree) (t : Tree) → flat_map entries (ts ++ (t ∷ [])) ≡ flat_map entries ts ++ entries t
joined_push entries ts t = sym (flat_map_more entries [] ts t)

-- where a part begins
pub start_there : {A : Type 0} (entries : Tree → List A) (ts : List Tree) (p : ℕ) → p < length ts → start entries ts p ≡ length (flat_map entries (take p ts))
start_there entries ts p lt = cond-true (ltb p (length ts)) (length (flat_map entries (take p ts))) 0 (lt-ltb p (length ts) lt)

pub start_past : {A : Type 0} (entries : Tree → List A) (ts : List Tree) (p : ℕ) → length ts ≤ p → start entries ts p ≡ 0
start_past entries ts p ge = cond-false (ltb p (length ts)) (length (flat_map entries (take p ts))) 0 (le-ltb p (length ts) ge)

-- a blank column holds no tree
pub column_none : {A : Type 0} (entries : Tree → List A) (d : A) (n parts : ℕ) → Column entries d (replicate n d) (replicate parts 0) 0 []
column_none entries d n parts = record {
  filled = refl;
  written = all_replicate (λ x. x ≡ d) d n d refl refl;
  begun = λ p. all_replicate (λ x. x ≡ 0) 0 parts 0 refl refl p ∙ sym (start_past entries [] p (omega arith));
}

-- the column once the entries xs are written behind those used
abbrev pub put : {A : Type 0} → ℕ → List A → List A → List A
put used column xs = take used column ++ (xs ++ drop (length xs) (drop used column))

written_more : {A : Type 0} (d : A) (column before xs : List A) (used : ℕ) → used ≡ length before → used ≤ length column
    → ((k : ℕ) → get_or column k d ≡ get_or before k d) → (k : ℕ) → get_or (put used column xs) k d ≡ get_or (before ++ xs) k d
written_more d column before xs used filled room old k =
    let front : length (take used column) ≡ used = length-take-le used column room in
    let rest = drop (length xs) (drop used column) in
    elim (dec_lt k used) [
      | yes lt ↦
          get_or_append_left (take used column) (xs ++ rest) d k (omega arith) ∙ get_or-take used column k d lt ∙ old k ∙ sym (get_or_append_left before xs d k (omega arith))
      | no ge ↦
          let le : used ≤ k = omega arith in
          get_or-append_right (take used column) (xs ++ rest) used k d front le
          ∙ elim (dec_lt (k - used) (length xs)) [
            | yes lt ↦ get_or_append_left xs rest d (k - used) lt
            | no far ↦
                let past : length xs ≤ k - used = omega arith in
                let place : used + (length xs + ((k - used) - length xs)) ≡ k = omega arith in
                get_or-append_right xs rest (length xs) (k - used) d refl past ∙ get_or-drop (length xs) (drop used column) ((k - used) - length xs) d
                ∙ get_or-drop used column (length xs + ((k - used) - length xs)) d ∙ ap (λ j. get_or column j d) place
                ∙ old k ∙ get_or_past before k d (omega arith) ∙ sym (get_or_past xs (k - used) d past)
          ]
          ∙ sym (get_or-append_right before xs used k d (sym filled) le)
    ]

begun_more : {A : Type 0} (entries : Tree → List A) (starts : List ℕ) (used : ℕ) (ts : List Tree) (t : Tree) (count : ℕ) → used ≡ length (flat_map entries ts) → count ≡ length ts → count < length starts
    → ((p : ℕ) → get_or starts p 0 ≡ start entries ts p) → (p : ℕ) → get_or (set starts count used) p 0 ≡ start entries (ts ++ (t ∷ [])) p
begun_more entries starts used ts t count filled many room old p =
    let wide = length_push ts t in
    elim (dec_lt p count) [
      | yes lt ↦
          let ne : p ≢ count = omega arith in
          get_or-set_other starts count p used 0 ne ∙ old p ∙ start_there entries ts p (omega arith)
          ∙ ap (λ l. length (flat_map entries l)) (sym (take-append-le p ts (t ∷ []) (omega arith))) ∙ sym (start_there entries (ts ++ (t ∷ [])) p (omega arith))
      | no ge ↦
          elim (dec_lt count p) [
            | yes gt ↦
                let ne : p ≢ count = omega arith in
                get_or-set_other starts count p used 0 ne ∙ old p ∙ start_past entries ts p (omega arith) ∙ sym (start_past entries (ts ++ (t ∷ [])) p (omega arith))
            | no le ↦
                let same : count ≡ p = omega arith in
                subst (λ j. get_or (set starts count used) j 0 ≡ start entries (ts ++ (t ∷ [])) j) same
                (get_or-set_same starts count used 0 room ∙ filled ∙ ap (λ l. length (flat_map entries l)) (sym (take_at ts (t ∷ []) count (sym many)))
                ∙ sym (start_there entries (ts ++ (t ∷ [])) count (omega arith)))
          ]
    ]

-- one tree more, as the last part
pub column_more : {A : Type 0} (entries : Tree → List A) (d : A) (column : List A) (starts : List ℕ) (used : ℕ) (ts : List Tree) (t : Tree) (count : ℕ)
    → used ≤ length column → count ≡ length ts → count < length starts → Column entries d column starts used ts
    → Column entries d (put used column (entries t)) (set starts count used) (used + length (entries t)) (ts ++ (t ∷ []))
column_more entries d column starts used ts t count room many few old =
    let push = joined_push entries ts t in
    record {
      filled = omega (arith, ap length push, length-append (flat_map entries ts) (entries t), old.filled);
      written = λ k. written_more d column (flat_map entries ts) (entries t) used old.filled room old.written k ∙ ap (λ l. get_or l k d) (sym push);
      begun = begun_more entries starts used ts t count old.filled many few old.begun;
    }

-- behind the entries used it is blank: to wipe what was written there gives the column back
pub column_wiped : {A : Type 0} (entries : Tree → List A) (d : A) (column : List A) (starts : List ℕ) (used : ℕ) (ts : List Tree)
    → used ≤ length column → Column entries d column starts used ts → take used column ++ replicate (length column - used) d ≡ column
column_wiped entries d column starts used ts room old =
    let front : length (take used column) ≡ used = length-take-le used column room in
    let back = length-replicate (length column - used) d in
    let blank-row = replicate (length column - used) d in
    let wide = length-append (take used column) blank-row in
    ext_get_or d (take used column ++ blank-row) column (omega arith) (λ k lt.
    elim (dec_lt k used) [
      | yes few ↦ get_or_append_left (take used column) blank-row d k (omega arith) ∙ get_or-take used column k d few
      | no ge ↦
          let le : used ≤ k = omega arith in
          get_or-append_right (take used column) blank-row used k d front le ∙ get_or-replicate (length column - used) (k - used) d d (omega arith)
          ∙ sym (old.written k ∙ get_or_past (flat_map entries ts) k d (omega (arith, old.filled)))
    ])

-- the entries of part p within those of all
inside_parts : {A : Type 0} (entries : Tree → List A) (ts : List Tree) (p : ℕ) → p < length ts → length (flat_map entries (take p ts)) + length (entries (get_or ts p none)) ≤ length (flat_map entries ts)
inside_parts entries [] p h = absurd (not-suc-le-zero h)
inside_parts entries (t ∷ ts) zero h = omega (arith, length-append (entries t) (flat_map entries ts))
inside_parts entries (t ∷ ts) (suc p) h =
    omega (arith, length-append (entries t) (flat_map entries ts), length-append (entries t) (flat_map entries (take p ts)), inside_parts entries ts p (le_of_suc-le-suc h))

pub next_part : {A : Type 0} (entries : Tree → List A) (ts : List Tree) (p : ℕ) → p < length ts → length (flat_map entries (take (suc p) ts)) ≡ length (flat_map entries (take p ts)) + length (entries (get_or ts p none))
next_part entries [] p h = absurd (not-suc-le-zero h)
next_part entries (t ∷ ts) zero h = omega (arith, length-append (entries t) [])
next_part entries (t ∷ ts) (suc p) h =
    omega (arith, length-append (entries t) (flat_map entries (take (suc p) ts)), length-append (entries t) (flat_map entries (take p ts)), next_part entries ts p (le_of_suc-le-suc h))

part_entry : {A : Type 0} (entries : Tree → List A) (d : A) (ts : List Tree) (p i : ℕ) → p < length ts → i < length (entries (get_or ts p none))
    → get_or (flat_map entries ts) (length (flat_map entries (take p ts)) + i) d ≡ get_or (entries (get_or ts p none)) i d
part_entry entries d [] p i h lt = absurd (not-suc-le-zero h)
part_entry entries d (t ∷ ts) zero i h lt =
    ap (λ k. get_or (entries t ++ flat_map entries ts) k d) (omega arith) ∙ get_or_append_left (entries t) (flat_map entries ts) d i lt
part_entry entries d (t ∷ ts) (suc p) i h lt =
    let place : length (entries t ++ flat_map entries (take p ts)) + i ≡ length (entries t) + (length (flat_map entries (take p ts)) + i) = omega (arith, length-append (entries t) (flat_map entries (take p ts))) in
    ap (λ k. get_or (entries t ++ flat_map entries ts) k d) place ∙ get_or-append-add (entries t) (flat_map entries ts) (length (flat_map entries (take p ts)) + i) d
    ∙ part_entry entries d ts p i (le_of_suc-le-suc h) lt

pub column_start : {A : Type 0} {entries : Tree → List A} {d : A} {column : List A} {starts : List ℕ} {used : ℕ} {ts : List Tree} → Column entries d column starts used ts
    → (p : ℕ) → p < length ts → get_or starts p 0 ≡ length (flat_map entries (take p ts))
column_start {entries = entries} {ts = ts} h p lt = h.begun p ∙ start_there entries ts p lt

-- a part ends within the entries used
pub column_end : {A : Type 0} {entries : Tree → List A} {d : A} {column : List A} {starts : List ℕ} {used : ℕ} {ts : List Tree} → Column entries d column starts used ts
    → (p : ℕ) → p < length ts → get_or starts p 0 + length (entries (get_or ts p none)) ≤ used
column_end {entries = entries} {ts = ts} h p lt = omega (arith, column_start h p lt, inside_parts entries ts p lt, h.filled)

-- where the next part begins, and where the last one ends
pub column_next : {A : Type 0} {entries : Tree → List A} {d : A} {column : List A} {starts : List ℕ} {used : ℕ} {ts : List Tree} → Column entries d column starts used ts
    → (p : ℕ) → p + 1 < length ts → get_or starts (p + 1) 0 ≡ get_or starts p 0 + length (entries (get_or ts p none))
column_next {entries = entries} {ts = ts} h p lt =
    let up : p + 1 ≡ suc p = omega arith in
    column_start h (p + 1) lt ∙ ap (λ n. length (flat_map entries (take n ts))) up ∙ omega (arith, next_part entries ts p (omega arith), column_start h p (omega arith))

pub column_last : {A : Type 0} {entries : Tree → List A} {d : A} {column : List A} {starts : List ℕ} {used : ℕ} {ts : List Tree} → Column entries d column starts used ts
    → (p : ℕ) → p + 1 ≡ length ts → used ≡ get_or starts p 0 + length (entries (get_or ts p none))
column_last {entries = entries} {ts = ts} h p e =
    let all : take (suc p) ts ≡ ts = take_all (suc p) ts (omega arith) in
    omega (arith, h.filled, ap (λ l. length (flat_map entries l)) all, next_part entries ts p (omega arith), column_start h p (omega arith))

-- entry i of part p
pub column_entry : {A : Type 0} {entries : Tree → List A} {d : A} {column : List A} {starts : List ℕ} {used : ℕ} {ts : List Tree} → Column entries d column starts used ts
    → (p i : ℕ) → p < length ts → i < length (entries (get_or ts p none)) → get_or column (get_or starts p 0 + i) d ≡ get_or (entries (get_or ts p none)) i d
column_entry {entries = entries} {d = d} {column = column} {ts = ts} h p i lt few =
    ap (λ n. get_or column (n + i) d) (column_start h p lt) ∙ h.written (length (flat_map entries (take p ts)) + i) ∙ part_entry entries d ts p i lt few

-- part p, as a slice of the column
pub column_part : {A : Type 0} {entries : Tree → List A} {d : A} {column : List A} {starts : List ℕ} {used : ℕ} {ts : List Tree} → Column entries d column starts used ts
    → used ≤ length column → (p n : ℕ) → p < length ts → n ≡ length (entries (get_or ts p none)) → take n (drop (get_or starts p 0) column) ≡ entries (get_or ts p none)
column_part {entries = entries} {d = d} {column = column} {starts = starts} {ts = ts} h room p n lt many =
    let s = get_or starts p 0 in
    let rest : length (drop s column) ≡ length column - s = length-drop s column in
    let wide : length (take n (drop s column)) ≡ n = length-take-le n (drop s column) (omega (arith, column_end h p lt)) in
    ext_get_or d (take n (drop s column)) (entries (get_or ts p none)) (wide ∙ many) (λ k few.
    get_or-take n (drop s column) k d (omega arith) ∙ get_or-drop s column k d ∙ column_entry h p k lt (omega arith))
