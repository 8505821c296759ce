-- The next line by its key, and by the word that it begins with.
use Rattle.std.proofs.Common.{◌≡◌, ℕ, ◌+◌, Bool, true, false, cond, List, [], ◌∷◌, ◌++◌, Some, None, Ok, Err, codes, Option, Result, sym, refl, ap, ◌∙◌, subst, append_assoc, arith}
use Rattle.std.specs.Str.{bytes_eq}
use Rattle.std.specs.Option.{ok_or}
use Rattle.std.proofs.ByRecursion.{All-append}
use Rattle.std.proofs.lemmas.Slice.Eq.{bytes_eq-Decides}
use Rattle.terms.specs.declared.fault.Fault.{Fault}
use Rattle.terms.specs.declared.fault.Refusal.TheVariants.{WrongLine}
use Rattle.terms.specs.Refusals.{fault}
use Rattle.numbers.proofs.Written.{none_some}
use Rattle.lines.specs.declared.key.Key.{Key}
use Rattle.lines.specs.declared.key.Key.TheVariants.{Side, First, Parts, Rules, Rows, End, Left, Right, Points, Edges, Moves, Move}
use Rattle.lines.specs.Keys.{name, keys, named_in, named}
use Rattle.lines.specs.Reading.{State, at, cut}
use Rattle.lines.specs.Lines.{Said, said, with_key, with_value, with_end, next, strip, valued, fielded, field}
use Rattle.lines.proofs.Splits.{Clear, some_same, cut_sound, cut_complete, strip_sound, strip_complete, clear_after}

pub ok_same : {X : Type 0} {x y : X} → ◌≡◌ {A = Result X Fault} (Ok x) (Ok y) → x ≡ y
ok_same e = cc

pub err_same : {X : Type 0} {x y : Fault} → ◌≡◌ {A = Result X Fault} (Err x) (Err y) → x ≡ y
err_same e = cc

pub err_ok : {X B : Type 0} {e : Fault} {x : X} → ◌≡◌ {A = Result X Fault} (Err e) (Ok x) → B
err_ok e = let z : ◌≡◌ {A = ℕ} 0 1 = cc in absurd (omega arith)

-- a refusal in place of nothing
pub ok_or_stops : {X : Type 0} (o : Option X) (d e : Fault) → Err e ≡ ok_or o d → (o ≡ None) × (e ≡ d)
ok_or_stops None d e q = (refl, err_same q)
ok_or_stops (Some x) d e q = err_ok q

-- the names of the keys
pub name_clear : (k : Key) → Clear 10 (name k ++ codes "=")
name_clear Side = search arith
name_clear First = search arith
name_clear Parts = search arith
name_clear Rules = search arith
name_clear Rows = search arith
name_clear End = search arith
name_clear Left = search arith
name_clear Right = search arith
name_clear Points = search arith
name_clear Edges = search arith
name_clear Moves = search arith
name_clear Move = search arith

name_whole : (k : Key) → Clear 61 (name k)
name_whole Side = search arith
name_whole First = search arith
name_whole Parts = search arith
name_whole Rules = search arith
name_whole Rows = search arith
name_whole End = search arith
name_whole Left = search arith
name_whole Right = search arith
name_whole Points = search arith
name_whole Edges = search arith
name_whole Moves = search arith
name_whole Move = search arith

named_name : (k : Key) → named (name k) ≡ Some k
named_name Side = refl
named_name First = refl
named_name Parts = refl
named_name Rules = refl
named_name Rows = refl
named_name End = refl
named_name Left = refl
named_name Right = refl
named_name Points = refl
named_name Edges = refl
named_name Moves = refl
named_name Move = refl

pub named_sound : {A : Type 0} (word : A → List ℕ) (xs : List A) (text : List ℕ) (x : A) → named_in word xs text ≡ Some x → text ≡ word x
named_sound word [] text x e = none_some e
named_sound {A} word (y ∷ xs) text x e = go (bytes_eq text (word y)) refl e (named_sound word xs text x)
  where
    go : (t : Bool) → bytes_eq text (word y) ≡ t → cond t (Some y) (named_in word xs text) ≡ Some x → (named_in word xs text ≡ Some x → text ≡ word x) → text ≡ word x
    go true t e ih = (bytes_eq-Decides text (word y)).0 t ∙ ap word (some_same e)
    go false t e ih = ih e

-- the word before a value
pub worded : (k : Key) (v : List ℕ) → (name k ++ codes "=") ++ v ≡ name k ++ (61 ∷ v)
worded k v = append_assoc (name k) (codes "=") v

-- a line that is written is the next one
next_complete : (k : Key) (v r : List ℕ) (n : ℕ) → Clear 10 v → next (at ((name k ++ codes "=") ++ (v ++ (10 ∷ r))) n) ≡ Ok (said k v n, at r (n + 1))
unfolding next
next_complete k v r n c =
    ap (λ x. with_end (cut 10 x) n) (sym (append_assoc (name k ++ codes "=") v (10 ∷ r)))
    ∙ (ap (λ o. with_end o n) (cut_complete 10 ((name k ++ codes "=") ++ v) r (All-append (λ x. x ≡ 10 → ⊥) (name k ++ codes "=") v (name_clear k) c))
    ∙ (ap (λ x. with_value (cut 61 x) r n) (worded k v)
    ∙ (ap (λ o. with_value o r n) (cut_complete 61 (name k) v (name_whole k))
    ∙ ap (λ o. with_key o v r n) (named_name k))))

-- and the next one was written
with_key_ok : (o : Option Key) (v r : List ℕ) (n : ℕ) (q : Said) (t : State) → with_key o v r n ≡ Ok (q, t) → (o ≡ Some q.key) × (v ≡ q.value) × (n ≡ q.number) × (at r (n + 1) ≡ t)
with_key_ok None v r n q t e = err_ok e
with_key_ok (Some k) v r n q t e = let p = ok_same e in (ap (λ p. Some p.0.key) p, ap (λ p. p.0.value) p, ap (λ p. p.0.number) p, ap (λ p. p.1) p)

with_value_ok : (o : Option (List ℕ × List ℕ)) (r : List ℕ) (n : ℕ) (q : Said) (t : State) → with_value o r n ≡ Ok (q, t) → (w v : List ℕ) × (o ≡ Some (w, v)) × (with_key (named w) v r n ≡ Ok (q, t))
with_value_ok None r n q t e = err_ok e
with_value_ok (Some (w, v)) r n q t e = (w, v, refl, e)

pub with_end_ok : (o : Option (List ℕ × List ℕ)) (n : ℕ) (q : Said) (t : State) → with_end o n ≡ Ok (q, t) → (l r : List ℕ) × (o ≡ Some (l, r)) × (with_value (cut 61 l) r n ≡ Ok (q, t))
with_end_ok None n q t e = err_ok e
with_end_ok (Some (l, r)) n q t e = (l, r, refl, e)

-- the next line by its key
pub next_field : (s : State) (q : Said) (t : State) → next s ≡ Ok (q, t) → (field q.key s ≡ Ok ((q.value, q.number), t)) × (q.number ≡ s.line)
unfolding next field
next_field s q t e =
    let a = with_end_ok (cut 10 s.rest) s.line q t e in
    let b = with_value_ok (cut 61 a.0) a.1 s.line q t a.3 in
    let c = with_key_ok (named b.0) b.1 a.1 s.line q t b.3 in
    let d = cut_sound 61 a.0 b.0 b.1 b.2 in
    let w = named_sound name keys b.0 q.key c.0 in
    let whole : a.0 ≡ (name q.key ++ codes "=") ++ q.value = d.1 ∙ ((λ i. w i ++ (61 ∷ c.1 i)) ∙ sym (worded q.key q.value)) in (
      ap (λ o. fielded (name q.key ++ codes "=") o s.line) a.2
          ∙ (ap (λ x. valued (strip (name q.key ++ codes "=") x) a.1 s.line) whole
          ∙ (ap (λ o. valued o a.1 s.line) (strip_complete (name q.key ++ codes "=") q.value)
          ∙ (λ i. Ok ((q.value, c.2 i), c.3 i)))),
      sym c.2,
    )

-- every refusal is the same one
with_key_err : (o : Option Key) (v r : List ℕ) (n : ℕ) (e : Fault) → with_key o v r n ≡ Err e → e ≡ fault WrongLine n
with_key_err None v r n e q = sym (err_same q)
with_key_err (Some k) v r n e q = err_ok (sym q)

with_value_err : (o : Option (List ℕ × List ℕ)) (r : List ℕ) (n : ℕ) (e : Fault) → with_value o r n ≡ Err e → e ≡ fault WrongLine n
with_value_err None r n e q = sym (err_same q)
with_value_err (Some (w, v)) r n e q = with_key_err (named w) v r n e q

with_end_err : (o : Option (List ℕ × List ℕ)) (n : ℕ) (e : Fault) → with_end o n ≡ Err e → e ≡ fault WrongLine n
with_end_err None n e q = sym (err_same q)
with_end_err (Some (l, r)) n e q = with_value_err (cut 61 l) r n e q

next_err : (s : State) (e : Fault) → next s ≡ Err e → e ≡ fault WrongLine s.line
unfolding next
next_err s e q = with_end_err (cut 10 s.rest) s.line e q

valued_ok : (o : Option (List ℕ)) (r : List ℕ) (n : ℕ) (v : List ℕ × ℕ) (t : State) → valued o r n ≡ Ok (v, t) → (o ≡ Some v.0) × (n ≡ v.1) × (at r (n + 1) ≡ t)
valued_ok None r n v t e = err_ok e
valued_ok (Some u) r n v t e = let q = ok_same e in (ap (λ p. Some p.0.0) q, ap (λ p. p.0.1) q, ap (λ p. p.1) q)

fielded_ok : (word : List ℕ) (o : Option (List ℕ × List ℕ)) (n : ℕ) (v : List ℕ × ℕ) (t : State) → fielded word o n ≡ Ok (v, t) → (l : List ℕ) × (o ≡ Some (l, t.rest)) × (strip word l ≡ Some v.0) × (n ≡ v.1)
fielded_ok word None n v t e = err_ok e
fielded_ok word (Some (l, r)) n v t e = let h = valued_ok (strip word l) r n v t e in (l, ap (λ x. Some (l, x.rest)) h.2, h.0, h.1)

-- a field is what is written of it
pub field_sound : (k : Key) (s : State) (v : List ℕ) (n : ℕ) (t : State) → field k s ≡ Ok ((v, n), t) → Clear 10 v × (s.rest ≡ (name k ++ codes "=") ++ (v ++ (10 ∷ t.rest)))
unfolding field
field_sound k s v n t e =
    let word = name k ++ codes "=" in
    let f = fielded_ok word (cut 10 s.rest) s.line (v, n) t e in
    let c = cut_sound 10 s.rest f.0 t.rest f.1 in
    let p = strip_sound word f.0 v f.2 in (
      clear_after 10 word v (subst (Clear 10) p c.0),
      c.1 ∙ (ap (λ x. x ++ (10 ∷ t.rest)) p ∙ append_assoc word v (10 ∷ t.rest)),
    )

pub field_complete : (k : Key) (v r : List ℕ) (n : ℕ) → Clear 10 v → field k (at ((name k ++ codes "=") ++ (v ++ (10 ∷ r))) n) ≡ Ok ((v, n), at r (n + 1))
field_complete k v r n c = (next_field (at ((name k ++ codes "=") ++ (v ++ (10 ∷ r))) n) (said k v n) (at r (n + 1)) (next_complete k v r n c)).0

pub field_next : (k : Key) (s : State) (v : List ℕ) (n : ℕ) (t : State) → field k s ≡ Ok ((v, n), t) → (r : State) × (next s ≡ Ok (said k v s.line, r))
field_next k s v n t e =
    let f = field_sound k s v n t e in
    (at t.rest (s.line + 1), ap (λ x. next (at x s.line)) f.1 ∙ next_complete k v t.rest s.line f.0)

valued_err : (o : Option (List ℕ)) (r : List ℕ) (n : ℕ) (e : Fault) → valued o r n ≡ Err e → e ≡ fault WrongLine n
valued_err None r n e q = sym (err_same q)
valued_err (Some v) r n e q = err_ok (sym q)

field_err : (k : Key) (s : State) (e : Fault) → field k s ≡ Err e → e ≡ fault WrongLine s.line
unfolding field
field_err k s e q = go (cut 10 s.rest) q
  where
    go : (o : Option (List ℕ × List ℕ)) → fielded (name k ++ codes "=") o s.line ≡ Err e → e ≡ fault WrongLine s.line
    go None q = sym (err_same q)
    go (Some (l, r)) q = valued_err (strip (name k ++ codes "=") l) r s.line e q

-- where no line is next, or one of another key, the field is refused
pub next_stops : (k : Key) (s : State) (e : Fault) → Err e ≡ next s → Err e ≡ field k s
next_stops k s e q = go (field k s) refl
  where
    go : (r : Result ((List ℕ × ℕ) × State) Fault) → field k s ≡ r → Err e ≡ r
    go (Ok ((v, n), t)) f = err_ok (q ∙ (field_next k s v n t f).1)
    go (Err d) f = ap Err (next_err s e (sym q) ∙ sym (field_err k s d f))

pub other_key : (k : Key) (s : State) (q : Said) (t : State) → Ok (q, t) ≡ next s → (q.key ≡ k → ⊥) → Err (fault WrongLine q.number) ≡ field k s
other_key k s q t e ne = go (field k s) refl
  where
    go : (r : Result ((List ℕ × ℕ) × State) Fault) → field k s ≡ r → Err (fault WrongLine q.number) ≡ r
    go (Ok ((v, m), u)) f = let n = field_next k s v m u f in absurd (ne (ap (λ p. p.0.key) (ok_same (e ∙ n.1))))
    go (Err d) f = ap Err (ap (fault WrongLine) (next_field s q t (sym e)).1 ∙ sym (field_err k s d f))

pub same_key : (k : Key) (s : State) (q : Said) (t : State) → Ok (q, t) ≡ next s → q.key ≡ k → Ok ((q.value, q.number), t) ≡ field k s
same_key k s q t e same = sym (next_field s q t (sym e)).0 ∙ ap (λ k. field k s) same

-- the ways of the next line, from its parts
pub next_no_end : (s : State) → None ≡ cut 10 s.rest → Err (fault WrongLine s.line) ≡ next s
unfolding next
next_no_end s e = ap (λ o. with_end o s.line) e

pub next_no_value : (s : State) (l r : List ℕ) → Some (l, r) ≡ cut 10 s.rest → None ≡ cut 61 l → Err (fault WrongLine s.line) ≡ next s
unfolding next
next_no_value s l r e f = ap (λ o. with_value o r s.line) f ∙ ap (λ o. with_end o s.line) e

pub next_keyed : (s : State) (l r w v : List ℕ) (o : Option Key) → Some (l, r) ≡ cut 10 s.rest → Some (w, v) ≡ cut 61 l → o ≡ named w → with_key o v r s.line ≡ next s
unfolding next
next_keyed s l r w v o e f g = ap (λ o. with_key o v r s.line) g ∙ (ap (λ o. with_value o r s.line) f ∙ ap (λ o. with_end o s.line) e)
