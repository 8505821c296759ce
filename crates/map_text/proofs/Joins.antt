-- Edges that are added to a map, one after another.
use Rattle.std.proofs.Common.{◌≡◌, ℕ, ◌<◌, ◌≤◌, min, Bool, true, false, cond, not, ◌&&◌, ◌||◌, eqb, ltb, ◌⊎◌, List, [], ◌∷◌, Some, Ok, Err, Result, sym, refl, ap, ◌∙◌, subst, inl, inr, arith}
use Rattle.std.proofs.Math.Bool.{or-false, and-true, or_assoc}
use Rattle.std.proofs.lemmas.Bool.{true≢false, lt-ltb, le-ltb, ltb-true, eq-eqb, ne_eqb, and_parts, and_right, cases_lt, cases_order}
use Rattle.terms.specs.declared.fault.Fault.{Fault}
use Rattle.terms.specs.declared.fault.Refusal.{Refusal}
use Rattle.terms.specs.declared.fault.Refusal.TheVariants.{WrongEdge}
use Rattle.terms.specs.Refusals.{fault}
use Rattle.numbers.specs.Numbers.{natural, capped, judged}
use Rattle.lines.specs.Reading.{on_line}
use Rattle.lines.specs.Commas.{all_of}
use Rattle.lines.proofs.Splits.{some_same}
use Rattle.lines.proofs.Fields.{ok_same, err_ok}
use Rattle.lines.proofs.Commas.{both_some}
use Rattle.snort.specs.declared.map.Snort.{Snort}
use Rattle.snort.specs.Maps.{joined, edge as joins, edge_fits}
use Rattle.map_text.specs.declared.pair.Pair.{Pair}
use Rattle.map_text.specs.Maps.{Edge, edge_of, on_map}
use Rattle.map_text.specs.Pairs.{said}
use Rattle.map_text.specs.Shows.{has_edge, Added, Joined}
use Rattle.map_text.proofs.Maps.{pair_some}

-- one edge, by its numbers as the code holds them
abbrev on_one : ℕ → Edge → Bool
on_one p e = ltb e.from e.to && ltb e.to p

module _ (p a b x y : ℕ) (few : p ≤ 12) (h : a ≤ b) (i : x ≡ min a 0xffff_ffff) (j : y ≡ min b 0xffff_ffff) where
  fits_held : edge_fits p x y ≡ (ltb a b && ltb b p)
  fits_held = go (cases_lt b p) (cases_order a b)
    where
      go : (b < p) ⊎ (p ≤ b) → (a ≡ b) ⊎ ((a < b) ⊎ (b < a)) → edge_fits p x y ≡ (ltb a b && ltb b p)
      go (inr k) o =
          and_right (ltb x p) (ltb y p && not (eqb x y)) (ap (λ t. t && not (eqb x y)) (le-ltb y p (omega arith)))
          ∙ sym (and_right (ltb a b) (ltb b p) (le-ltb b p k))
      go (inl k) (inl q) =
          and_right (ltb x p) (ltb y p && not (eqb x y)) (and_right (ltb y p) (not (eqb x y)) (ap not (eq-eqb x y (omega arith))))
          ∙ sym (ap (λ t. t && ltb b p) (le-ltb a b (omega arith)))
      go (inl k) (inr (inl q)) =
          (λ r. lt-ltb x p (omega arith) r && (lt-ltb y p (omega arith) r && not (ne_eqb x y (λ e. omega arith) r)))
          ∙ sym (λ r. lt-ltb a b q r && lt-ltb b p k r)
      go (inl k) (inr (inr q)) = absurd (omega arith)

  -- an edge on the map is held as it is
  held_as_it_is : (ltb a b && ltb b p) ≡ true → (x ≡ a) × (y ≡ b)
  held_as_it_is t = let k = ltb-true b p (and_parts (ltb a b) (ltb b p) t).1 in (omega arith, omega arith)

one_joined : (s t : Snort) (e : Edge) (n a b : ℕ) (r : Result (Unit {0}) Refusal) → s.points ≤ 12 → e.from ≤ e.to → a ≡ min e.from 0xffff_ffff → b ≡ min e.to 0xffff_ffff → r ≡ cond (edge_fits s.points a b) (Ok tt) (Err WrongEdge) → t.points ≡ s.points → ((x y : ℕ) → joined t.near x y ≡ (joined s.near x y || (edge_fits s.points a b && joins a b x y))) → Joined (e ∷ []) n s t (on_line r n)
one_joined s t e n a b r few h i j answer points edges = record {
  answer = ap (λ q. on_line q n) (answer ∙ ap (λ z. cond z (Ok tt) (Err WrongEdge)) fits) ∙ met (on_one s.points e);
  added = λ on. (points, λ x y. edges x y ∙ ap (λ z. joined s.near x y || z) (same x y (sym (and-true (on_one s.points e)) ∙ on)));
}
  where
    fits : edge_fits s.points a b ≡ on_one s.points e
    fits = fits_held s.points e.from e.to a b few h i j

    met : (z : Bool) → ◌≡◌ {A = Result (Unit {0}) Fault} (on_line (cond z (Ok (tt {0})) (Err WrongEdge)) n) (cond (z && true) (Ok tt) (Err (fault WrongEdge n)))
    met true = refl
    met false = refl

    same : (x y : ℕ) → on_one s.points e ≡ true → (edge_fits s.points a b && joins a b x y) ≡ (joins e.from e.to x y || false)
    same x y on =
        let k = held_as_it_is s.points e.from e.to a b few h i j on in
        (λ q. (fits ∙ on) q && joins (k.0 q) (k.1 q) x y) ∙ sym (or-false (joins e.from e.to x y))

-- one edge and then the others
yes : {A B : Type 0} (z : Bool) (a : A) (d : B) → ◌≡◌ {A = Result A B} (Ok a) (cond z (Ok a) (Err d)) → z ≡ true
yes true a d e = refl
yes false a d e = let z : ◌≡◌ {A = ℕ} 0 1 = cc in absurd (omega arith)

no : {A B : Type 0} (z : Bool) (a : A) (c d : B) → ◌≡◌ {A = Result A B} (Err c) (cond z (Ok a) (Err d)) → (z ≡ false) × (c ≡ d)
no false a c d e = (refl, (cc))
no true a c d e = let z : ◌≡◌ {A = ℕ} 0 1 = cc in absurd (omega arith)

module _ (e : Edge) (es : List Edge) (n : ℕ) (s t : Snort) where
  join_more : (u : Snort) (r : Result (Unit {0}) Fault) → Joined (e ∷ []) n s t (Ok tt) → Joined es n t u r → Joined (e ∷ es) n s u r
  join_more u r j k = record {
    answer = k.answer ∙ ap (λ z. cond z (Ok tt) (Err (fault WrongEdge n))) rest;
    added = λ on.
        let b = k.added (rest ∙ on) in
        (b.0 ∙ a.0, λ x y. b.1 x y ∙ (ap (λ z. z || has_edge es x y) (a.1 x y ∙ ap (λ z. joined s.near x y || z) (or-false (joins e.from e.to x y))) ∙ or_assoc (joined s.near x y) (joins e.from e.to x y) (has_edge es x y)));
  }
    where
      on : (on_one s.points e && true) ≡ true
      on = yes (on_one s.points e && true) tt (fault WrongEdge n) j.answer

      a : Added (e ∷ []) s t
      a = j.added on

      rest : on_map t.points es ≡ on_map s.points (e ∷ es)
      rest = ap (λ p. on_map p es) a.0 ∙ ap (λ z. z && on_map s.points es) (sym (sym (and-true (on_one s.points e)) ∙ on))

  join_stops : (d : Fault) → Joined (e ∷ []) n s t (Err d) → Joined (e ∷ es) n s t (Err d)
  join_stops d j = record {
    answer = ap Err off.1 ∙ ap (λ z. cond z (Ok tt) (Err (fault WrongEdge n))) (sym out);
    added = λ on. absurd (true≢false (sym on ∙ out));
  }
    where
      off : ((on_one s.points e && true) ≡ false) × (d ≡ fault WrongEdge n)
      off = no (on_one s.points e && true) tt d (fault WrongEdge n) j.answer

      out : on_map s.points (e ∷ es) ≡ false
      out = ap (λ z. z && on_map s.points es) (sym (and-true (on_one s.points e)) ∙ off.0)

-- the numbers of a pair that says an edge
pub no_number : {A : Type 0} (p : Pair) (e : Edge) → said p ≡ Some e → (n : ℕ) (d : Fault) → Err d ≡ judged (capped (natural p.to.bytes.now)) n → A
no_number p e q n d f = err_ok (f ∙ ap (λ o. judged (capped o) n) (pair_some (natural p.from.bytes.now) (natural p.to.bytes.now) e q).2)

pub edge_joined : (s t : Snort) (p : Pair) (e : Edge) (n i j a b : ℕ) (r : Result (Unit {0}) Refusal) → s.points ≤ 12 → said p ≡ Some e → Ok a ≡ judged (capped (natural p.from.bytes.now)) i → Ok b ≡ judged (capped (natural p.to.bytes.now)) j → r ≡ cond (edge_fits s.points a b) (Ok tt) (Err WrongEdge) → t.points ≡ s.points → ((x y : ℕ) → joined t.near x y ≡ (joined s.near x y || (edge_fits s.points a b && joins a b x y))) → Joined (e ∷ []) n s t (on_line r n)
edge_joined s t p e n i j a b r few says f g =
    let k = pair_some (natural p.from.bytes.now) (natural p.to.bytes.now) e says in
    one_joined s t e n a b r few k.0 (ok_same (f ∙ ap (λ o. judged (capped o) i) k.1)) (ok_same (g ∙ ap (λ o. judged (capped o) j) k.2))

-- the turns of the loop over the pieces, each of which stands on the list's line
module _ (l : List ℕ) (ls ks : List (List ℕ)) (gs : List Edge) (c : ks ≡ l ∷ ls) (q : all_of edge_of ks ≡ Some gs) (m n : ℕ) (line : m ≡ n) (s t : Snort) where
  first_edge : (e : Edge) × (hs : List Edge) × (edge_of l ≡ Some e) × (all_of edge_of ls ≡ Some hs) × (e ∷ hs ≡ gs)
  first_edge = both_some (edge_of l) (all_of edge_of ls) gs (ap (all_of edge_of) (sym c) ∙ q)

  first_joined : (r : Result (Unit {0}) Fault) → ((e : Edge) → edge_of l ≡ Some e → Joined (e ∷ []) m s t r) → Joined (first_edge.0 ∷ []) n s t r
  first_joined r j = subst (λ k. Joined (first_edge.0 ∷ []) k s t r) line (j first_edge.0 first_edge.2)

  pub turn_more : ((e : Edge) → edge_of l ≡ Some e → Joined (e ∷ []) m s t (Ok tt)) → (hs : List Edge) × (all_of edge_of ls ≡ Some hs) × ((u : Snort) (r : Result (Unit {0}) Fault) → Joined hs n t u r → Joined gs n s u r)
  turn_more j =
      let f = first_edge in
      (f.1, f.3, λ u r k. subst (λ es. Joined es n s u r) f.4 (join_more f.0 f.1 n s t u r (first_joined (Ok tt) j) k))

  pub turn_stops : (d : Fault) → ((e : Edge) → edge_of l ≡ Some e → Joined (e ∷ []) m s t (Err d)) → Joined gs n s t (Err d)
  turn_stops d j = let f = first_edge in subst (λ es. Joined es n s t (Err d)) f.4 (join_stops f.0 f.1 n s t d (first_joined (Err d) j))

pub turns_end : (ks : List (List ℕ)) (gs : List Edge) → ks ≡ [] → all_of edge_of ks ≡ Some gs → (n : ℕ) (s : Snort) → Joined gs n s s (Ok tt)
turns_end ks gs e q n s = subst (λ es. Joined es n s s (Ok tt)) (some_same (ap (all_of edge_of) (sym e) ∙ q)) (record {
  answer = refl;
  added = λ on. (refl, λ x y. sym (or-false (joined s.near x y)));
})
