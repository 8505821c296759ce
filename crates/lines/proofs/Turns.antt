-- One of two readings, by the key of the next line.
use Rattle.std.proofs.Common.{◌≡◌, ℕ, Bool, true, false, cond, eqb, List, [], ◌∷◌, ◌++◌, Some, Ok, codes, Result, sym, refl, ap, ◌∙◌}
use Rattle.std.proofs.lemmas.Bool.{eqb-true, eq-eqb, and_parts, and_from, cond-true, cond-false}
use Rattle.terms.specs.declared.fault.Fault.{Fault}
use Rattle.lines.specs.declared.key.Key.{Key}
use Rattle.lines.specs.Keys.{name}
use Rattle.lines.specs.Reading.{State, Reading, cut, starts}
use Rattle.lines.specs.Lines.{Said, next, strip, valued, fielded, field, either, is_next}
use Rattle.lines.proofs.Splits.{Clear, cut_sound}
use Rattle.lines.proofs.Fields.{ok_same, name_clear, next_field, field_sound, field_next, with_end_ok}

pub starts_itself : (p r : List ℕ) → starts p (p ++ r) ≡ true
starts_itself [] r = refl
starts_itself (y ∷ p) r = and_from (eqb y y) (starts p (p ++ r)) (eq-eqb y y refl) (starts_itself p r)

-- a word that a text begins with stands before the byte that it does not hold
starts_before : (b : ℕ) (p l r : List ℕ) → Clear b p → starts p (l ++ (b ∷ r)) ≡ true → (v : List ℕ) × (strip p l ≡ Some v)
starts_before b [] l r c e = (l, refl)
starts_before b (y ∷ p) [] r c e =
    let h = and_parts (eqb b y) (starts p r) e in
    absurd (c.0 (sym (eqb-true b y h.0)))
starts_before b (y ∷ p) (x ∷ l) r c e =
    let h = and_parts (eqb x y) (starts p (l ++ (b ∷ r))) e in
    let k = starts_before b p l r c.1 h.1 in
    (k.0, cond-true (eqb x y) _ _ h.0 ∙ k.1)

pub next_is : (s : State) (q : Said) (t : State) → Ok (q, t) ≡ next s → is_next q.key s ≡ true
next_is s q t e =
    let f = next_field s q t (sym e) in
    let g = field_sound q.key s q.value q.number t f.0 in
    ap (starts (name q.key ++ codes "=")) g.1 ∙ starts_itself (name q.key ++ codes "=") _

next_ended : (s : State) (q : Said) (t : State) → next s ≡ Ok (q, t) → (l r : List ℕ) × (cut 10 s.rest ≡ Some (l, r))
unfolding next
next_ended s q t e = let h = with_end_ok (cut 10 s.rest) s.line q t e in (h.0, h.1, h.2)

field_there : (k : Key) (s : State) (l r v : List ℕ) → cut 10 s.rest ≡ Some (l, r) → strip (name k ++ codes "=") l ≡ Some v → (t : State) × (field k s ≡ Ok ((v, s.line), t))
unfolding field
field_there k s l r v e f = (_, ap (λ o. fielded (name k ++ codes "=") o s.line) e ∙ ap (λ o. valued o r s.line) f)

pub next_other : (k : Key) (s : State) (q : Said) (t : State) → Ok (q, t) ≡ next s → (q.key ≡ k → ⊥) → is_next k s ≡ false
next_other k s q t e ne = go (is_next k s) refl
  where
    go : (b : Bool) → is_next k s ≡ b → b ≡ false
    go false f = refl
    go true f =
        let h = next_ended s q t (sym e) in
        let c = cut_sound 10 s.rest h.0 h.1 h.2 in
        let w = starts_before 10 (name k ++ codes "=") h.0 h.1 (name_clear k) (ap (starts (name k ++ codes "=")) (sym c.1) ∙ f) in
        let g = field_there k s h.0 h.1 w.0 h.2 w.1 in
        let n = field_next k s w.0 s.line g.0 g.1 in
        absurd (ne (ap (λ p. p.0.key) (ok_same (e ∙ n.1))))

pub either_first : {A : Type 0} (k : Key) (p q : Reading A) (s : State) → is_next k s ≡ true → p s ≡ either k p q s
either_first k p q s e = sym (cond-true (is_next k s) (p s) (q s) e)

pub either_second : {A : Type 0} (k : Key) (p q : Reading A) (s : State) → is_next k s ≡ false → q s ≡ either k p q s
either_second k p q s e = sym (cond-false (is_next k s) (p s) (q s) e)

pub either_same : {A : Type 0} (k : Key) (p q : Reading A) (s : State) (r : Result (A × State) Fault) → r ≡ p s → r ≡ q s → r ≡ either k p q s
either_same k p q s r e f = go (is_next k s)
  where
    go : (b : Bool) → r ≡ cond b (p s) (q s)
    go true = e
    go false = f
