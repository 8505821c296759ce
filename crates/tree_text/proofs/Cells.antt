-- Buffers that begin with a list and are blank after it.
use Rattle.std.proofs.Common.{◌≡◌, ℕ, suc, ◌+◌, ◌-◌, ◌<◌, ◌≤◌, min, ◌≢◌, ◌⊎◌, List, [], ◌∷◌, ◌++◌, length, get_or, take, drop, set, Ok, Err, Result, sym, refl, ap, ap₂, ◌∙◌, subst, inl, inr, append_assoc, append-nil, arith, length-append, length-take, length-drop}
use Rattle.std.proofs.lemmas.List.{get_or-set_same, get_or-set_other, get_or-take, get_or-drop, get_or-append_right, get_or_append_left, get_or_push, get_or_past}
use Rattle.std.proofs.lemmas.Bool.{cases_order, cases_lt}
use borrow.Rule.Slice.PartMut.{put_mid}
use Rattle.trees.specs.declared.row.TreeRow.{TreeRow}
use Rattle.trees.specs.Written.{blank, pick_limit}
use Rattle.terms.specs.declared.fault.Fault.{Fault}
use Rattle.lines.specs.declared.key.Key.TheVariants as key
use Rattle.lines.specs.Lines.{entry}
use Rattle.lines.specs.Reading.{State, then, led, walk, onto}
use Rattle.lines.proofs.Laws.{walk_more}
use Rattle.tree_text.specs.Rows.{Place, Row, picked, after_row, top, row_lines, row_count, tree_lines}
use Rattle.tree_text.specs.Written.{Content, Holds, Blank, ReadRows, ReadPart, row_at, rows_from, picks_of}

-- one cell more
pub content_push : {A : Type 0} (none : A) (cells xs : List A) (i : ℕ) (v : A) → length xs ≡ i → i < length cells → Content none cells xs → Content none (set cells i v) (xs ++ (v ∷ []))
content_push {A} none cells xs i v n h c k = go (cases_order k i)
  where
    go : (k ≡ i) ⊎ ((k < i) ⊎ (i < k)) → get_or (set cells i v) k none ≡ get_or (xs ++ (v ∷ [])) k none
    go (inl e) = ap (λ j. get_or (set cells i v) j none) e ∙ (get_or-set_same cells i v none h ∙ (sym (get_or_push xs v none i n) ∙ ap (λ j. get_or (xs ++ (v ∷ [])) j none) (sym e)))
    go (inr (inl l)) = let ne : k ≢ i = omega arith in get_or-set_other cells i k v none ne ∙ (c k ∙ sym (get_or_append_left xs (v ∷ []) none k (omega arith)))
    go (inr (inr l)) =
        let ne : k ≢ i = omega arith in
        get_or-set_other cells i k v none ne ∙ (c k ∙ (get_or_past xs k none (omega arith) ∙ sym (get_or_past (xs ++ (v ∷ [])) k none (omega (arith, length-append xs (v ∷ []))))))

-- a list written behind another
pub content_write : (cells ys xs : List ℕ) (a k : ℕ) → length ys ≡ a → length xs ≡ k → a + k ≤ length cells → Content 0 cells ys → Content 0 (put_mid a k cells xs) (ys ++ xs)
content_write cells ys xs a k n m h c i = go (cases_lt i a) (cases_lt i (a + k))
  where
    go : (i < a) ⊎ (a ≤ i) → (i < a + k) ⊎ (a + k ≤ i) → get_or (put_mid a k cells xs) i 0 ≡ get_or (ys ++ xs) i 0
    go (inl l) r = get_or_append_left (take a cells) _ 0 i (omega (arith, length-take a cells)) ∙ (get_or-take a cells i 0 l ∙ (c i ∙ sym (get_or_append_left ys xs 0 i (omega arith))))
    go (inr g) (inl l) =
        get_or-append_right (take a cells) _ a i 0 (omega (arith, length-take a cells)) g
        ∙ (get_or_append_left xs _ 0 (i - a) (omega arith) ∙ sym (get_or-append_right ys xs a i 0 n g))
    go (inr g) (inr r) =
        let j : k + (i - a - k) ≡ i - a = omega arith in
        let e : a + (i - a) ≡ i = omega arith in
        get_or-append_right (take a cells) _ a i 0 (omega (arith, length-take a cells)) g
        ∙ (get_or-append_right xs _ k (i - a) 0 m (omega arith)
        ∙ (get_or-drop k (drop a cells) (i - a - k) 0
        ∙ (ap (λ o. get_or (drop a cells) o 0) j
        ∙ (get_or-drop a cells (i - a) 0
        ∙ (ap (λ o. get_or cells o 0) e
        ∙ (c i ∙ (get_or_past ys i 0 (omega arith) ∙ sym (get_or_past (ys ++ xs) i 0 (omega (arith, length-append ys xs))))))))))

-- a buffer of which the first cells were written
pub content_part : {A : Type 0} (none : A) (part whole xs : List A) (n : ℕ) → length part ≡ n → Content none whole [] → Content none part xs → Content none (part ++ drop n whole) xs
content_part none part whole xs n e blank c k = go (cases_lt k n)
  where
    go : (k < n) ⊎ (n ≤ k) → get_or (part ++ drop n whole) k none ≡ get_or xs k none
    go (inl l) = get_or_append_left part (drop n whole) none k (omega arith) ∙ c k
    go (inr g) = get_or-append_right part (drop n whole) n k none e g ∙ (get_or-drop n whole (k - n) none ∙ (blank (n + (k - n)) ∙ (sym (get_or_past part k none (omega arith)) ∙ c k)))

pub open_picks : (before middle after left right : List ℕ) (used : ℕ)
    → ((ys : List ℕ) → length ys ≡ used → Content 0 before ys → Content 0 middle (ys ++ left))
    → ((ys : List ℕ) → length ys ≡ used + length left → Content 0 middle ys → Content 0 after (ys ++ right))
    → (ys : List ℕ) → length ys ≡ used → Content 0 before ys → Content 0 after (ys ++ (left ++ right))
open_picks before middle after left right used first second ys n h =
    subst (Content 0 after) (append_assoc ys left right) (second (ys ++ left) (omega (arith, length-append ys left)) (first ys n h))

-- rows and picks, one row more
rows_push : (used : ℕ) (xs : List Row) (x : Row) → rows_from used (xs ++ (x ∷ [])) ≡ rows_from used xs ++ (row_at (used + length (picks_of xs)) x ∷ [])
unfolding rows_from picks_of
rows_push used [] x = let q : used ≡ used + 0 = omega arith in ap (λ n. row_at n x ∷ []) q
rows_push used (y ∷ xs) x =
    let q : used + length (picked y) + length (picks_of xs) ≡ used + length (picked y ++ picks_of xs) = omega (arith, length-append (picked y) (picks_of xs)) in
    ap (λ rs. row_at used y ∷ rs) (rows_push (used + length (picked y)) xs x ∙ ap (λ n. rows_from (used + length (picked y)) xs ++ (row_at n x ∷ [])) q)

picks_push : (xs : List Row) (x : Row) → picks_of (xs ++ (x ∷ [])) ≡ picks_of xs ++ picked x
unfolding picks_of
picks_push [] x = append-nil (picked x)
picks_push (y ∷ xs) x = ap (λ ps. picked y ++ ps) (picks_push xs x) ∙ sym (append_assoc (picked y) (picks_of xs) (picked x))

rows_long : (used : ℕ) (xs : List Row) → length (rows_from used xs) ≡ length xs
unfolding rows_from
rows_long used [] = refl
rows_long used (x ∷ xs) = ap suc (rows_long (used + length (picked x)) xs)

pub led_push : (p : Place) (xs : List Row) (x : Row) → led after_row p (xs ++ (x ∷ [])) ≡ after_row (led after_row p xs) x
led_push p [] x = refl
led_push p (y ∷ xs) x = led_push (after_row p y) xs x

led_used : (p : Place) (xs : List Row) → (led after_row p xs).used ≡ p.used + length (picks_of xs)
unfolding picks_of
led_used p [] = omega arith
led_used p (x ∷ xs) = led_used (after_row p x) xs ∙ omega (arith, length-append (picked x) (picks_of xs))

pub used_is : (xs : List Row) (row used : ℕ) → led after_row top xs ≡ record { row = row; used = used } → length (picks_of xs) ≡ used
used_is xs row used e = let q = led_used top xs in let h : (led after_row top xs).used ≡ used = ap (λ p. p.used) e in omega arith

-- the buffers after one row more
pub holds_push : (rows : List TreeRow) (before after : List ℕ) (xs : List Row) (x : Row) (i used : ℕ) (r : TreeRow)
    → length xs ≡ i → i < length rows → length (picks_of xs) ≡ used → r ≡ row_at used x
    → ((ys : List ℕ) → length ys ≡ used → Content 0 before ys → Content 0 after (ys ++ picked x))
    → Holds xs rows before → Holds (xs ++ (x ∷ [])) (set rows i r) after
holds_push rows before after xs x i used r n h u e stored held = (
  (λ k. content_push blank rows (rows_from 0 xs) i r (rows_long 0 xs ∙ n) h held.0 k
      ∙ ap (λ rs. get_or rs k blank) (ap (λ y. rows_from 0 xs ++ (y ∷ [])) (e ∙ ap (λ m. row_at m x) (sym u)) ∙ sym (rows_push 0 xs x ∙ ap (λ m. rows_from 0 xs ++ (row_at m x ∷ [])) (omega arith)))),
  (λ k. stored (picks_of xs) u held.1 k ∙ ap (λ ps. get_or ps k 0) (sym (picks_push xs x))),
)

pub holds_none : (rows : List TreeRow) (picks : List ℕ) → Blank rows picks → Holds [] rows picks
unfolding rows_from picks_of
holds_none rows picks b = b

-- the turns of the loop over the rows
pub turn_first : (n room : ℕ) (s : State) → onto [] (walk (row_lines (n - 1) room) after_row top (n - 0) s) ≡ walk (row_lines (n - 1) room) after_row top n s
turn_first n room s = let q : n - 0 ≡ n = omega arith in ap (λ k. onto [] (walk (row_lines (n - 1) room) after_row top k s)) q ∙ same (walk (row_lines (n - 1) room) after_row top n s)
  where
    same : (r : Result (List Row × State) Fault) → onto [] r ≡ r
    same (Ok q) = refl
    same (Err d) = refl

pub turn_more : (n room : ℕ) (xs : List Row) (i used : ℕ) (s s₀ : State) (x : Row) (t : State) (next : ℕ) → i < n
    → Ok (x, t) ≡ row_lines (n - 1) room (record { row = i; used = used }) s
    → used + length (picked x) ≡ next
    → onto xs (walk (row_lines (n - 1) room) after_row (record { row = i; used = used }) (n - i) s) ≡ walk (row_lines (n - 1) room) after_row top n s₀
    → onto (xs ++ (x ∷ [])) (walk (row_lines (n - 1) room) after_row (record { row = i + 1; used = next }) (n - (i + 1)) t) ≡ walk (row_lines (n - 1) room) after_row top n s₀
turn_more n room xs i used s s₀ x t next h q u inv =
    let k : n - i ≡ suc (n - (i + 1)) = omega arith in
    ap (λ m. onto (xs ++ (x ∷ [])) (walk (row_lines (n - 1) room) after_row (record { row = i + 1; used = m }) (n - (i + 1)) t)) (sym u)
    ∙ (sym (walk_more xs (n - (i + 1)) (row_lines (n - 1) room) after_row (record { row = i; used = used }) s x t q)
    ∙ (ap (λ m. onto xs (walk (row_lines (n - 1) room) after_row (record { row = i; used = used }) m s)) (sym k) ∙ inv))

-- how many rows, and then the rows
part_more : (lent room : ℕ) (s : State) (n : ℕ) (t : State) → Ok (n, t) ≡ entry key.Rows (row_count lent) s → tree_lines lent room s ≡ walk (row_lines (n - 1) room) after_row top n t
unfolding tree_lines
part_more lent room s n t e = ap (λ r. then r (λ q. walk (row_lines (q.0 - 1) room) after_row top q.0 q.1)) (sym e)

pub part_stops : (lent room : ℕ) (s : State) (e : Fault) → Err e ≡ entry key.Rows (row_count lent) s → tree_lines lent room s ≡ Err e
unfolding tree_lines
part_stops lent room s e q = ap (λ r. then r (λ q. walk (row_lines (q.0 - 1) room) after_row top q.0 q.1)) (sym q)

module _ (rows : List TreeRow) (picks : List ℕ) (rows₁ : List TreeRow) (picks₁ : List ℕ) (n room : ℕ) (a : length rows₁ ≡ n) (b : n ≤ length rows) (c : length picks₁ ≡ room) (d : room ≡ min (length picks) pick_limit) (blank : Blank rows picks) where
  rows_same : length rows ≡ length (rows₁ ++ drop n rows)
  rows_same = omega (arith, length-append rows₁ (drop n rows), length-drop n rows)

  room_same : room ≡ min (length (picks₁ ++ drop room picks)) pick_limit
  room_same = omega (arith, length-append picks₁ (drop room picks), length-drop room picks)

  pub part_read : (s s₁ t : State) (r : Result (Unit {0}) Fault) → Ok (n, s₁) ≡ entry key.Rows (row_count (length rows)) s → ReadRows n room s₁ r t rows₁ picks₁ → ReadPart s r t (rows₁ ++ drop n rows) (picks₁ ++ drop room picks)
  part_read s s₁ t (Ok u) e w = (
    w.0,
    ap₂ (λ i j. tree_lines i j s) (sym rows_same) (sym room_same) ∙ (part_more (length rows) room s n s₁ e ∙ w.1),
    (content_part _ rows₁ rows (rows_from 0 w.0) n a blank.0 w.2.0, content_part 0 picks₁ picks (picks_of w.0) room c blank.1 w.2.1),
  )
  part_read s s₁ t (Err x) e w = ap₂ (λ i j. tree_lines i j s) (sym rows_same) (sym room_same) ∙ (part_more (length rows) room s n s₁ e ∙ w)
