-- The tree of a position of Snort: each move colours a point and leaves a position that may stand.
use Rattle.std.specs.Prelude.{◌≡◌, ℕ, zero, suc, ◌+◌, ◌^◌, ◌<◌, ◌≤◌, Bool, true, false, not, ◌&&◌, ◌||◌, ◌⊎◌, List, [], map, length, ℤ, ◌==◌, ◌≢◌, nat_lt}
use Rattle.std.proofs.Math.Path.{refl}
use Rattle.std.proofs.Common.{ap, ap₂, sym, ◌∙◌, inl, inr, arith}
use Rattle.std.proofs.lemmas.List.{length-map}
use Rattle.std.proofs.lemmas.Int.{ints}
use Rattle.std.proofs.lemmas.Bool.{true≢false, cases_Bool, cases_eq, and_parts, and_from, and_left, and_right, and_cases, or_parts, or_from, or_right, not-true, not_from_true, not_from_false, ltb-true, lt-ltb, eq-eqb, ne_eqb}
use Rattle.theory.specs.Trees.{Tree, ended, Score, Lawful}
use Rattle.rules.specs.Positions.{position}
use Rattle.rules.proofs.Options.{map_same, all_map}
use Rattle.rules.proofs.Positions.{ended_left, lawful_position}
use Rattle.masks.specs.Masks.{has, members}
use Rattle.masks.proofs.Members.{Member, members_same, members_all, members_few, members_none, none_passes, less, none_below, no_some}
use Rattle.masks.proofs.Bits.{has_added, added_below}
use Rattle.std.proofs.Math.Bool.{or-false, and-true, and_comm}
use Rattle.snort.specs.Play as play

module _ (points : ℕ) (joined : ℕ → ℕ → Bool) where
  abbrev beside : ℕ → ℕ → Bool
  beside = play.beside points joined

  abbrev legal : ℕ → ℕ → ℕ → Bool
  legal = play.legal points joined

  abbrev moves : ℕ → ℕ → List ℕ
  moves = play.moves points joined

  abbrev score : ℕ → ℕ → ℤ
  score = play.score points joined

  abbrev within : ℕ → ℕ → ℕ → Tree
  within = play.tree_within points joined

  abbrev stands : ℕ → ℕ → Bool
  stands = play.stands points joined

  pub legal_parts : (own far k : ℕ) → legal own far k ≡ true → (has own k ≡ false) × (has far k ≡ false) × (beside far k ≡ false)
  legal_parts own far k e =
      let a = and_parts (not (has own k)) (not (has far k) && not (beside far k)) e in
      let b = and_parts (not (has far k)) (not (beside far k)) a.1 in
      (not-true (has own k) a.0, not-true (has far k) b.0, not-true (beside far k) b.1)

  -- a point that neither has coloured
  abbrev pub free : ℕ → ℕ → ℕ → Bool
  free left right k = not (has left k) && not (has right k)

  abbrev pub uncoloured : ℕ → ℕ → ℕ
  uncoloured left right = length (members (free left right) 0 points)

  free_same : (left right k : ℕ) → free left right k ≡ free right left k
  free_same left right k = and_comm (not (has left k)) (not (has right k))

  pub uncoloured_same : (left right : ℕ) → uncoloured left right ≡ uncoloured right left
  uncoloured_same left right = ap length (members_same (free left right) (free right left) 0 points (λ k a b. free_same left right k))

  free_more : (own far k j : ℕ) → has own k ≡ false → free (own + 2 ^ k) far j ≡ true → free own far j ≡ true
  free_more own far k j h e =
      let p = and_parts (not (has (own + 2 ^ k) j)) (not (has far j)) e in
      let q = not-true (has (own + 2 ^ k) j) p.0 in
      let r = or_parts (has own j) (j == k) (sym (has_added own k j h) ∙ q) in
      and_from (not (has own j)) (not (has far j)) (not_from_false (has own j) r.0) p.1

  pub falls : (own far k : ℕ) → k < points → legal own far k ≡ true → uncoloured (own + 2 ^ k) far < uncoloured own far
  falls own far k h e =
      let p = legal_parts own far k e in
      less (free own far) (free (own + 2 ^ k) far) (λ j. free_more own far k j p.0) k
      (and_from (not (has own k)) (not (has far k)) (not_from_false (has own k) p.0) (not_from_false (has far k) p.1))
      (and_left (not (has (own + 2 ^ k) k)) (not (has far k)) (not_from_true (has (own + 2 ^ k) k) (has_added own k k p.0 ∙ or_right (has own k) (k == k) (eq-eqb k k refl))))
      0 points (omega arith) (omega arith)

  -- where all is coloured nobody moves
  pub no_moves : (own far : ℕ) → uncoloured own far ≡ 0 → moves own far ≡ []
  no_moves own far z = members_none (legal own far) 0 points (λ k a b. by k (none_passes (free own far) 0 points z k a b))
    where
      by : (k : ℕ) → free own far k ≡ false → legal own far k ≡ false
      by k e = by_cases k (and_cases (not (has own k)) (not (has far k)) e)
        where
          by_cases : (k : ℕ) → (not (has own k) ≡ false) ⊎ (not (has far k) ≡ false) → legal own far k ≡ false
          by_cases k (inl q) = and_left (not (has own k)) (not (has far k) && not (beside far k)) q
          by_cases k (inr q) = and_right (not (has own k)) (not (has far k) && not (beside far k)) (and_left (not (has far k)) (not (beside far k)) q)

  step : (n left right : ℕ) → within (suc n) left right ≡ position (score left right) (map (λ k. within n (left + 2 ^ k) right) (moves left right)) (map (λ k. within n left (right + 2 ^ k)) (moves right left))
  unfolding play.tree_within
  step n left right = refl

  stop : (left right : ℕ) → within zero left right ≡ ended (score left right)
  unfolding play.tree_within
  stop left right = refl

  stopped : (n left right : ℕ) → uncoloured left right ≡ 0 → within n left right ≡ ended (score left right)
  stopped zero left right z = stop left right
  stopped (suc n) left right z =
      step n left right ∙ ended_left (score left right) (map (λ k. within n (left + 2 ^ k) right) (moves left right)) (map (λ k. within n left (right + 2 ^ k)) (moves right left)) (length-map (moves left right) (λ k. within n (left + 2 ^ k) right) ∙ ap length (no_moves left right z))

  -- looking deeper than there are uncoloured points changes nothing
  deeper : (m n left right : ℕ) → uncoloured left right ≤ m → uncoloured left right ≤ n → within m left right ≡ within n left right
  deeper zero n left right p q = stop left right ∙ sym (stopped n left right (omega arith))
  deeper (suc m) zero left right p q = stopped (suc m) left right (omega arith) ∙ sym (stop left right)
  deeper (suc m) (suc n) left right p q =
      let l : map (λ k. within m (left + 2 ^ k) right) (moves left right) ≡ map (λ k. within n (left + 2 ^ k) right) (moves left right) =
      map_same (λ k. within m (left + 2 ^ k) right) (λ k. within n (left + 2 ^ k) right) (Member (legal left right) 0 points)
      (λ k h. let f = falls left right k (omega arith) h.2 in deeper m n (left + 2 ^ k) right (omega arith) (omega arith)) (moves left right) (members_all (legal left right) 0 points) in
      let r : map (λ k. within m left (right + 2 ^ k)) (moves right left) ≡ map (λ k. within n left (right + 2 ^ k)) (moves right left) =
      map_same (λ k. within m left (right + 2 ^ k)) (λ k. within n left (right + 2 ^ k)) (Member (legal right left) 0 points)
      (λ k h. let f = falls right left k (omega arith) h.2 in let a = uncoloured_same left right in let b = uncoloured_same left (right + 2 ^ k) in deeper m n left (right + 2 ^ k) (omega arith) (omega arith)) (moves right left) (members_all (legal right left) 0 points) in
      step m left right ∙ ap₂ (position (score left right)) l r ∙ sym (step n left right)

  abbrev whole : ℕ → ℕ → Tree
  whole = within points

  pub unfold_position : (left right : ℕ) → whole left right ≡ position (score left right) (map (λ k. whole (left + 2 ^ k) right) (moves left right)) (map (λ k. whole left (right + 2 ^ k)) (moves right left))
  unfold_position left right =
      let f = members_few (free left right) 0 points in
      deeper points (suc points) left right (omega arith) (omega arith) ∙ step points left right

  -- no clash: a point of Left's is not Right's, and no neighbour of it is
  abbrev pub Apart : ℕ → ℕ → Type 0
  Apart left right = (j : ℕ) → j < points → has left j ≡ true → (has right j ≡ false) × (beside right j ≡ false)

  apart_from : (left right : ℕ) → play.clash points joined left right ≡ false → Apart left right
  apart_from left right e j h l =
      let n = none_below (λ k. has left k && (has right k || beside right k)) points e j h in
      or_parts (has right j) (beside right j) (sym (ap (λ b. b && (has right j || beside right j)) l) ∙ n)

  clash_from : (left right : ℕ) → Apart left right → play.clash points joined left right ≡ false
  clash_from left right apart = no_some (λ k. has left k && (has right k || beside right k)) points (λ k h. by k h (cases_Bool (has left k)))
    where
      by : (k : ℕ) → k < points → (has left k ≡ true) ⊎ (has left k ≡ false) → (has left k && (has right k || beside right k)) ≡ false
      by k h (inl e) = and_right (has left k) (has right k || beside right k) (or_from (has right k) (beside right k) (apart k h e).0 (apart k h e).1)
      by k h (inr e) = and_left (has left k) (has right k || beside right k) e

  pub record Standing (left right : ℕ) : Type 0 where
    pub low : left < 2 ^ points
    pub high : right < 2 ^ points
    pub apart : Apart left right

  pub standing : (left right : ℕ) → stands left right ≡ true → Standing left right
  standing left right e =
      let a = and_parts (nat_lt left (2 ^ points)) (nat_lt right (2 ^ points) && not (play.clash points joined left right)) e in
      let b = and_parts (nat_lt right (2 ^ points)) (not (play.clash points joined left right)) a.1 in
      record {
        low = ltb-true left (2 ^ points) a.0;
        high = ltb-true right (2 ^ points) b.0;
        apart = apart_from left right (not-true (play.clash points joined left right) b.1);
      }

  stands_from : (left right : ℕ) → Standing left right → stands left right ≡ true
  stands_from left right s =
      and_from (nat_lt left (2 ^ points)) (nat_lt right (2 ^ points) && not (play.clash points joined left right)) (lt-ltb left (2 ^ points) s.low)
      (and_from (nat_lt right (2 ^ points)) (not (play.clash points joined left right)) (lt-ltb right (2 ^ points) s.high) (not_from_false (play.clash points joined left right) (clash_from left right s.apart)))

  -- Left's move leaves a position that may stand
  left_apart : (left right k : ℕ) → Apart left right → legal left right k ≡ true → Apart (left + 2 ^ k) right
  left_apart left right k apart e j h l = by (cases_eq j k)
    where
      p : (has left k ≡ false) × (has right k ≡ false) × (beside right k ≡ false)
      p = legal_parts left right k e

      by : (j ≡ k) ⊎ (j ≢ k) → (has right j ≡ false) × (beside right j ≡ false)
      by (inl q) = (ap (has right) q ∙ p.1, ap (beside right) q ∙ p.2)
      by (inr q) = apart j h (sym (ap (λ b. has left j || b) (ne_eqb j k q) ∙ or-false (has left j)) ∙ sym (has_added left k j p.0) ∙ l)

  pub left_stands : (left right k : ℕ) → stands left right ≡ true → k < points → legal left right k ≡ true → stands (left + 2 ^ k) right ≡ true
  left_stands left right k s h e =
      let st = standing left right s in
      stands_from (left + 2 ^ k) right
      (record { low = added_below points left k st.low h (legal_parts left right k e).0; high = st.high; apart = left_apart left right k st.apart e })

  module _ (symmetric : (a b : ℕ) → joined a b ≡ joined b a) where
    -- and so does Right's, since neighbours are neighbours of each other
    right_beside : (left right k j : ℕ) → k < points → j < points → legal right left k ≡ true → has left j ≡ true → beside right j ≡ false → beside (right + 2 ^ k) j ≡ false
    right_beside left right k j b h e l none = no_some (λ i. joined j i && has (right + 2 ^ k) i) points (λ i g. by i g (cases_eq i k))
      where
        p : (has right k ≡ false) × (has left k ≡ false) × (beside left k ≡ false)
        p = legal_parts right left k e

        -- no edge from j to k: j is Left's
        unjoined : joined j k ≡ false
        unjoined =
            symmetric j k ∙ sym (ap (λ x. joined k j && x) l ∙ and-true (joined k j)) ∙ none_below (λ i. joined k i && has left i) points p.2 j h

        by : (i : ℕ) → i < points → (i ≡ k) ⊎ (i ≢ k) → (joined j i && has (right + 2 ^ k) i) ≡ false
        by i g (inl q) = and_left (joined j i) (has (right + 2 ^ k) i) (ap (joined j) q ∙ unjoined)
        by i g (inr q) =
            ap (λ b. joined j i && b) (has_added right k i p.0 ∙ ap (λ b. has right i || b) (ne_eqb i k q) ∙ or-false (has right i)) ∙ none_below (λ i. joined j i && has right i) points none i g

    right_apart : (left right k : ℕ) → k < points → Apart left right → legal right left k ≡ true → Apart left (right + 2 ^ k)
    right_apart left right k b apart e j h l = (by (cases_eq j k), right_beside left right k j b h e l (apart j h l).1)
      where
        p : (has right k ≡ false) × (has left k ≡ false) × (beside left k ≡ false)
        p = legal_parts right left k e

        by : (j ≡ k) ⊎ (j ≢ k) → has (right + 2 ^ k) j ≡ false
        by (inl q) = absurd (true≢false (sym l ∙ ap (has left) q ∙ p.1))
        by (inr q) = has_added right k j p.0 ∙ or_from (has right j) (j == k) (apart j h l).0 (ne_eqb j k q)

    pub right_stands : (left right k : ℕ) → stands left right ≡ true → k < points → legal right left k ≡ true → stands left (right + 2 ^ k) ≡ true
    right_stands left right k s h e =
        let st = standing left right s in
        stands_from left (right + 2 ^ k)
        (record { low = st.low; high = added_below points right k st.high h (legal_parts right left k e).0; apart = right_apart left right k h st.apart e })

  -- every tree is lawful: as many options as points at most, and no more points held
  lawful_score : points ≤ 12 → (left right : ℕ) → Score (score left right)
  lawful_score few left right =
      let a = members_few (λ k. has left k || legal left right k) 0 points in
      let b = members_few (λ k. has right k || legal right left k) 0 points in
      (omega (arith, ints), omega (arith, ints))

  pub lawful_within : points ≤ 12 → (n left right : ℕ) → Lawful (within n left right)
  lawful_within few zero left right = rw (stop left right) (lawful_score few left right)
  lawful_within few (suc n) left right =
      let a = members_few (legal left right) 0 points in
      let b = members_few (legal right left) 0 points in
      let l = length-map (moves left right) (λ k. within n (left + 2 ^ k) right) in
      let r = length-map (moves right left) (λ k. within n left (right + 2 ^ k)) in
      rw (step n left right) (lawful_position (score left right) (map (λ k. within n (left + 2 ^ k) right) (moves left right)) (map (λ k. within n left (right + 2 ^ k)) (moves right left)) (lawful_score few left right) (omega arith) (omega arith) (all_map Lawful (λ k. within n (left + 2 ^ k) right) (λ k. lawful_within few n (left + 2 ^ k) right) (moves left right)) (all_map Lawful (λ k. within n left (right + 2 ^ k)) (λ k. lawful_within few n left (right + 2 ^ k)) (moves right left)))
