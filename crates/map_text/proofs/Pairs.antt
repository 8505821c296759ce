-- Edges by the texts of their numbers, and a list of them piece by piece.
use Rattle.std.proofs.Common.{◌≡◌, ℕ, ◌<◌, min, Bool, true, false, cond, not, ◌&&◌, ◌||◌, eqb, ltb, leb, ◌⊎◌, List, ◌∷◌, is_some, Some, None, Ok, Err, Option, sym, refl, ap, ◌∙◌, inl, inr, arith}
use Rattle.std.proofs.lemmas.Bool.{false≢true, le-leb, lt-leb, ltb-true, ltb-false, lt-ltb, le-ltb, eq-eqb, ne_eqb, cond-true, cond-false, cases_order}
use Rattle.terms.specs.declared.fault.Fault.{Fault}
use Rattle.terms.specs.declared.fault.Refusal.TheVariants.{WrongForm}
use Rattle.terms.specs.Refusals.{fault}
use Rattle.numbers.specs.Numbers.{natural, capped, judged, less_text}
use Rattle.numbers.proofs.Written.{none_some}
use Rattle.numbers.proofs.Orders.{ordered}
use Rattle.lines.specs.Reading.{cut}
use Rattle.lines.specs.Commas.{pieces, all_of, both}
use Rattle.lines.proofs.Splits.{some_same}
use Rattle.lines.proofs.Fields.{ok_same, err_ok}
use Rattle.map_text.specs.declared.pair.Pair.{Pair}
use Rattle.map_text.specs.Maps.{Edge, edge, pair_of, ends, edge_of, before_edge, rising}
use Rattle.map_text.specs.Pairs.{said, before_text, last_said, after_edge, goes_on, formed}
use Rattle.map_text.proofs.Maps.{pair_some}

-- a number that was read, as the code holds it
pub number_read : (v : List ℕ) (n k : ℕ) → Ok k ≡ judged (capped (natural v)) n → (a : ℕ) × (natural v ≡ Some a) × (k ≡ min a 0xffff_ffff)
number_read v n k e = go (natural v) refl e
  where
    go : (o : Option ℕ) → natural v ≡ o → Ok k ≡ judged (capped o) n → (a : ℕ) × (natural v ≡ Some a) × (k ≡ min a 0xffff_ffff)
    go None q e = err_ok (sym e)
    go (Some a) q e = (a, q, ok_same e)

-- the first number is above the second, or it is not
pub pair_wrong : (v l r : List ℕ) (m n j k : ℕ) → Some (l, r) ≡ cut 45 v → Ok j ≡ judged (capped (natural l)) m → Ok k ≡ judged (capped (natural r)) n → less_text r l ≡ true → edge_of v ≡ None
pair_wrong v l r m n j k c p q t =
    let a = number_read l m j p in
    let b = number_read r n k q in
    let h = ltb-true b.0 a.0 (sym (ordered r l b.0 a.0 b.1 a.1) ∙ t) in
    ap ends (sym c) ∙ ((λ i. pair_of (a.1 i) (b.1 i)) ∙ cond-false (leb a.0 b.0) _ _ (lt-leb a.0 b.0 h))

pub pair_right : (l r : List ℕ) (m n j k : ℕ) → Ok j ≡ judged (capped (natural l)) m → Ok k ≡ judged (capped (natural r)) n → less_text r l ≡ false → is_some (ends (Some (l, r))) ≡ true
pair_right l r m n j k p q t =
    let a = number_read l m j p in
    let b = number_read r n k q in
    let h = ltb-false b.0 a.0 (sym (ordered r l b.0 a.0 b.1 a.1) ∙ t) in
    (λ i. is_some (pair_of (a.1 i) (b.1 i))) ∙ ap is_some (cond-true (leb a.0 b.0) (Some (edge a.0 b.0)) None (le-leb a.0 b.0 h))

-- the edge that a pair says
pub edge_said : (p : Pair) → (e : Edge) × (said p ≡ Some e)
edge_said p = go (said p) refl p.says_edge
  where
    go : (o : Option Edge) → said p ≡ o → is_some o ≡ true → (e : Edge) × (said p ≡ Some e)
    go None q t = absurd (false≢true t)
    go (Some e) q t = (e, q)

-- the order of edges, as the code asks for it
by_less : (a b c d : ℕ) → (ltb a c || (not (ltb c a) && ltb b d)) ≡ (ltb a c || (eqb a c && ltb b d))
by_less a b c d = go (cases_order a c)
  where
    go : (a ≡ c) ⊎ ((a < c) ⊎ (c < a)) → (ltb a c || (not (ltb c a) && ltb b d)) ≡ (ltb a c || (eqb a c && ltb b d))
    go (inl q) = λ i. ltb a c || ((ap not (le-ltb c a (omega arith)) ∙ sym (eq-eqb a c q)) i && ltb b d)
    go (inr (inl q)) = ap (λ t. t || (not (ltb c a) && ltb b d)) (lt-ltb a c q) ∙ sym (ap (λ t. t || (eqb a c && ltb b d)) (lt-ltb a c q))
    go (inr (inr q)) = λ i. ltb a c || ((ap not (lt-ltb c a q) ∙ sym (ne_eqb a c (λ e. omega arith))) i && ltb b d)

pub order : (a b c d : List ℕ) (e f : Edge) → ends (Some (a, b)) ≡ Some e → ends (Some (c, d)) ≡ Some f → (less_text a c || (not (less_text c a) && less_text b d)) ≡ before_edge e f
order a b c d e f p q =
    let x = pair_some (natural a) (natural b) e p in
    let y = pair_some (natural c) (natural d) f q in
    (λ i. ordered a c e.from f.from x.1 y.1 i || (not (ordered c a f.from e.from y.1 x.1 i) && ordered b d e.to f.to x.2 y.2 i))
    ∙ by_less e.from e.to f.from f.to

-- an edge after the one before it, if there is one
after_by_text : (p q : Pair) → after_edge (said p) (said q) ≡ cond (before_text p q) (said q) None
after_by_text p q =
    let d = edge_said p in
    let f = edge_said q in
    (λ i. after_edge (d.1 i) (f.1 i))
    ∙ (ap (λ t. cond t (Some f.0) None) (sym (order p.from.bytes.now p.to.bytes.now q.from.bytes.now q.to.bytes.now d.0 f.0 d.1 f.1))
    ∙ ap (λ o. cond (before_text p q) o None) (sym f.1))

pub next_wrong : (last : Option Pair) (p q : Pair) → last ≡ Some p → false ≡ before_text p q → after_edge (last_said last) (said q) ≡ None
next_wrong last p q is t = ap (λ o. after_edge (last_said o) (said q)) is ∙ (after_by_text p q ∙ ap (λ t. cond t (said q) None) (sym t))

pub next_right : (last : Option Pair) (p q : Pair) → last ≡ Some p → true ≡ before_text p q → after_edge (last_said last) (said q) ≡ said q
next_right last p q is t = ap (λ o. after_edge (last_said o) (said q)) is ∙ (after_by_text p q ∙ ap (λ t. cond t (said q) None) (sym t))

pub next_first : (last : Option Pair) (q : Pair) → last ≡ None → after_edge (last_said last) (said q) ≡ said q
next_first last q is = let f = edge_said q in ap (λ o. after_edge (last_said o) (said q)) is ∙ (ap (after_edge None) f.1 ∙ sym f.1)

-- the turns of the loop over the pieces
goes_more : (o : Option Edge) (l : List ℕ) (ls : List (List ℕ)) (e : Edge) → after_edge o (edge_of l) ≡ Some e → goes_on o (all_of edge_of (l ∷ ls)) ≡ goes_on (Some e) (all_of edge_of ls)
goes_more o l ls e q = go o (edge_of l) (all_of edge_of ls) q
  where
    next : (d f : Edge) (p : Option (List Edge)) (t : Bool) → before_edge d f ≡ t → cond t (Some f) None ≡ Some e → goes_on (Some d) (both (Some f) p) ≡ goes_on (Some e) p
    next d f None t b q = refl
    next d f (Some es) true b q = ap (λ t. t && rising (f ∷ es)) b ∙ ap (λ g. rising (g ∷ es)) (some_same q)
    next d f (Some es) false b q = none_some q

    go : (o k : Option Edge) (p : Option (List Edge)) → after_edge o k ≡ Some e → goes_on o (both k p) ≡ goes_on (Some e) p
    go None None p q = none_some q
    go (Some d) None p q = none_some q
    go None (Some f) None q = refl
    go None (Some f) (Some es) q = ap (λ g. rising (g ∷ es)) (some_same q)
    go (Some d) (Some f) p q = next d f p (before_edge d f) refl q

goes_stops : (o : Option Edge) (l : List ℕ) (ls : List (List ℕ)) → after_edge o (edge_of l) ≡ None → goes_on o (all_of edge_of (l ∷ ls)) ≡ false
goes_stops o l ls q = go o (edge_of l) (all_of edge_of ls) q
  where
    next : (d f : Edge) (p : Option (List Edge)) (t : Bool) → before_edge d f ≡ t → cond t (Some f) None ≡ None → goes_on (Some d) (both (Some f) p) ≡ false
    next d f None t b q = refl
    next d f (Some es) true b q = none_some (sym q)
    next d f (Some es) false b q = ap (λ t. t && rising (f ∷ es)) b

    go : (o k : Option Edge) (p : Option (List Edge)) → after_edge o k ≡ None → goes_on o (both k p) ≡ false
    go None None p q = refl
    go (Some d) None p q = refl
    go None (Some f) p q = none_some (sym q)
    go (Some d) (Some f) p q = next d f p (before_edge d f) refl q

module _ (o : Option Edge) (v w l : List ℕ) (ls : List (List ℕ)) (inv : goes_on o (all_of edge_of (pieces w)) ≡ goes_on None (all_of edge_of (pieces v))) (c : pieces w ≡ l ∷ ls) where
  pub form_more : (e : Edge) → after_edge o (edge_of l) ≡ Some e → goes_on (Some e) (all_of edge_of ls) ≡ goes_on None (all_of edge_of (pieces v))
  form_more e q = sym (goes_more o l ls e q) ∙ (ap (λ k. goes_on o (all_of edge_of k)) (sym c) ∙ inv)

  pub form_stops : (n : ℕ) (d : Fault) → (after_edge o (edge_of l) ≡ None) × (d ≡ fault WrongForm n) → Err d ≡ formed (goes_on None (all_of edge_of (pieces v))) n
  form_stops n d q = ap Err q.1 ∙ ap (λ t. formed t n) (sym (goes_stops o l ls q.0) ∙ (ap (λ k. goes_on o (all_of edge_of k)) (sym c) ∙ inv))
