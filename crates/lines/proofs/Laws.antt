-- What it is to read just the texts that are written: `Whole` of a value, `Reads` of some lines.
-- Each way of putting readings together has a law that puts their laws together.
use Rattle.std.proofs.Common.{◌≡◌, ℕ, zero, suc, ◌+◌, Bool, true, false, cond, ◌⊎◌, List, [], ◌∷◌, ◌++◌, length, Some, None, Ok, Err, codes, Option, Result, sym, refl, ap, ◌∙◌, subst, inl, inr, append_assoc, append-nil, arith}
use Rattle.std.specs.List.{flat_map, AllByRecursion}
use Rattle.std.proofs.lemmas.Bool.{cond-true, cond-false}
use Rattle.terms.specs.declared.fault.Fault.{Fault}
use Rattle.numbers.specs.Numbers.{judged}
use Rattle.lines.specs.declared.key.Key.{Key}
use Rattle.lines.specs.Keys.{name, named_in}
use Rattle.lines.specs.Reading.{then, State, at, opened, fits, Reading, done, ◌>>=◌, times, walk, Along, onto, starts}
use Rattle.lines.specs.Lines.{field, entry, form, line, either, is_next}
use Rattle.lines.proofs.Splits.{Clear}
use Rattle.lines.proofs.Fields.{ok_same, err_ok, err_same, named_sound, field_sound, field_complete, worded}

pub then_ok : {X Y : Type 0} (r : Result X Fault) (f : X → Result Y Fault) (y : Y) → then r f ≡ Ok y → (x : X) × (r ≡ Ok x) × (f x ≡ Ok y)
then_ok (Ok x) f y e = (x, refl, e)
then_ok (Err d) f y e = err_ok e

pub then_run : {X Y : Type 0} (r : Result X Fault) (f : X → Result Y Fault) (x : X) → r ≡ Ok x → then r f ≡ f x
then_run r f x e = ap (λ q. then q f) e

-- a reader before the first line, or the refusal of a job that is too long
pub opened_stops : (job : List ℕ) (d : Fault) → Err d ≡ opened job → Err d ≡ fits job
opened_stops job d e = go (fits job) e
  where
    go : (r : Result (Unit {0}) Fault) → Err d ≡ then r (λ _. Ok (at job 1)) → Err d ≡ r
    go (Ok u) e = err_ok e
    go (Err c) e = ap Err (err_same e)

pub opened_at : (job : List ℕ) (s : State) → Ok s ≡ opened job → (Ok tt ≡ fits job) × (s ≡ at job 1)
opened_at job s e = go (fits job) e
  where
    go : (r : Result (Unit {0}) Fault) → Ok s ≡ then r (λ _. Ok (at job 1)) → (Ok tt ≡ r) × (s ≡ at job 1)
    go (Ok u) e = (refl, ok_same e)
    go (Err c) e = err_ok (sym e)

-- a value, read whole
pub record Whole {A : Type 0} (read : List ℕ → ℕ → Result A Fault) (w : A → List ℕ) (Good : A → Type 0) : Type 0 where
  pub sound : (v : List ℕ) (n : ℕ) (a : A) → read v n ≡ Ok a → Good a × (v ≡ w a)
  pub complete : (a : A) (n : ℕ) → Good a → read (w a) n ≡ Ok a
  pub clear : (a : A) → Good a → Clear 10 (w a)

-- some lines at the start of what is left
pub record Reads {A : Type 0} (p : Reading A) (w : A → List ℕ) (Good : A → Type 0) : Type 0 where
  pub sound : (s : State) (a : A) (t : State) → p s ≡ Ok (a, t) → Good a × (s.rest ≡ w a ++ t.rest)
  pub complete : (a : A) (r : List ℕ) (n : ℕ) → Good a → (m : ℕ) × (p (at (w a ++ r) n) ≡ Ok (a, at r m))

line_after : (k : Key) (v r : List ℕ) → line k v ++ r ≡ (name k ++ codes "=") ++ (v ++ (10 ∷ r))
unfolding line
line_after k v r = append_assoc (name k) (61 ∷ (v ++ (10 ∷ []))) r ∙ (ap (λ x. name k ++ (61 ∷ x)) (append_assoc v (10 ∷ []) r) ∙ sym (worded k (v ++ (10 ∷ r))))

-- a line reads what its value reads
pub entry_reads : {A : Type 0} (k : Key) (read : List ℕ → ℕ → Result A Fault) (w : A → List ℕ) (Good : A → Type 0) → Whole read w Good → Reads (entry k read) (λ a. line k (w a)) Good
entry_reads k read w Good h = record {
  sound = λ s a t e.
      let f = then_ok (field k s) _ _ e in
      let g = then_ok (read f.0.0.0 f.0.0.1) _ _ f.2 in
      let q = ok_same g.2 in
      let c = field_sound k s f.0.0.0 f.0.0.1 f.0.1 f.1 in
      let m = h.sound f.0.0.0 f.0.0.1 g.0 g.1 in
      let good = subst Good (ap (λ p. p.0) q) m.0 in
      (good, c.1 ∙ ((λ i. (name k ++ codes "=") ++ ((m.1 ∙ ap (λ p. w p.0) q) i ++ (10 ∷ (q i).1.rest))) ∙ sym (line_after k (w a) t.rest)));
  complete = λ a r n g. (
    n + 1,
    ap (λ x. entry k read (at x n)) (line_after k (w a) r)
        ∙ (ap (λ q. then q (λ q. then (read q.0.0 q.0.1) (λ b. Ok (b, q.1)))) (field_complete k (w a) r n (h.clear a g))
        ∙ ap (λ q. then q (λ b. Ok (b, at r (n + 1)))) (h.complete a n g)),
  );
}

pub reads_as : {A : Type 0} (p : Reading A) (v w : A → List ℕ) (G H : A → Type 0) → ((a : A) → v a ≡ w a) → ((a : A) → G a → H a) → ((a : A) → H a → G a) → Reads p v G → Reads p w H
reads_as p v w G H same to from h = record {
  sound = λ s a t e. let k = h.sound s a t e in (to a k.0, k.1 ∙ ap (λ x. x ++ t.rest) (same a));
  complete = λ a r n g. let k = h.complete a r n (from a g) in (k.0, ap (λ x. p (at (x ++ r) n)) (sym (same a)) ∙ k.1);
}

-- the same again and again
pub times_reads : {A : Type 0} (p : Reading A) (w : A → List ℕ) (Good : A → Type 0) → Reads p w Good → (n : ℕ) → Reads (times n p) (flat_map w) (λ xs. (length xs ≡ n) × AllByRecursion Good xs)
times_reads {A} p w Good h zero = record { sound = sound; complete = complete }
  where
    sound : (s : State) (xs : List A) (t : State) → done [] s ≡ Ok (xs, t) → ((length xs ≡ 0) × AllByRecursion Good xs) × (s.rest ≡ flat_map w xs ++ t.rest)
    sound s xs t e =
        let q = ok_same e in
        subst (λ ys. ((length ys ≡ 0) × AllByRecursion Good ys) × (s.rest ≡ flat_map w ys ++ t.rest)) (ap (λ p. p.0) q) ((refl, tt), ap (λ p. p.1.rest) q)

    complete : (xs : List A) (r : List ℕ) (n : ℕ) → (length xs ≡ 0) × AllByRecursion Good xs → (m : ℕ) × (done [] (at (flat_map w xs ++ r) n) ≡ Ok (xs, at r m))
    complete [] r n g = (n, refl)
    complete (x ∷ xs) r n g = absurd (omega (arith, g.0))
times_reads {A} p w Good h (suc k) = record { sound = sound (times_reads p w Good h k); complete = complete (times_reads p w Good h k) }
  where
    sound : Reads (times k p) (flat_map w) (λ xs. (length xs ≡ k) × AllByRecursion Good xs) → (s : State) (xs : List A) (t : State) → times (suc k) p s ≡ Ok (xs, t) → ((length xs ≡ suc k) × AllByRecursion Good xs) × (s.rest ≡ flat_map w xs ++ t.rest)
    sound ih s xs t e =
        let f = then_ok (p s) _ _ e in
        let g = then_ok (times k p f.0.1) _ _ f.2 in
        let q = ok_same g.2 in
        let a = h.sound s f.0.0 f.0.1 f.1 in
        let b = ih.sound f.0.1 g.0.0 g.0.1 g.1 in
        subst (λ ys. ((length ys ≡ suc k) × AllByRecursion Good ys) × (s.rest ≡ flat_map w ys ++ t.rest)) (ap (λ p. p.0) q) (
          (ap suc b.0.0, (a.0, b.0.1)),
          a.1 ∙ (ap (λ x. w f.0.0 ++ x) (b.1 ∙ ap (λ p. flat_map w g.0.0 ++ p.1.rest) q) ∙ sym (append_assoc (w f.0.0) (flat_map w g.0.0) t.rest)),
        )

    complete : Reads (times k p) (flat_map w) (λ xs. (length xs ≡ k) × AllByRecursion Good xs) → (xs : List A) (r : List ℕ) (n : ℕ) → (length xs ≡ suc k) × AllByRecursion Good xs → (m : ℕ) × (times (suc k) p (at (flat_map w xs ++ r) n) ≡ Ok (xs, at r m))
    complete ih [] r n g = absurd (omega (arith, g.0))
    complete ih (x ∷ xs) r n g =
        let a = h.complete x (flat_map w xs ++ r) n g.1.0 in
        let l : length xs ≡ k = omega (arith, g.0) in
        let b = ih.complete xs r a.0 (l, g.1.1) in (
          b.0,
          ap (λ y. times (suc k) p (at y n)) (append_assoc (w x) (flat_map w xs) r)
              ∙ (then_run _ _ _ a.1 ∙ then_run _ _ _ b.1),
        )

-- a value that is read or is wrong
pub form_whole : {A : Type 0} (read : List ℕ → Option A) (w : A → List ℕ) (Good : A → Type 0) → ((v : List ℕ) (a : A) → read v ≡ Some a → Good a × (v ≡ w a)) → ((a : A) → Good a → read (w a) ≡ Some a) → ((a : A) → Good a → Clear 10 (w a)) → Whole (form read) w Good
form_whole {A} read w Good sound complete clear = record {
  sound = λ v n a e. sound v a (formed (read v) n a e);
  complete = λ a n g. ap (λ o. judged o n) (complete a g);
  clear = clear;
}
  where
    formed : (o : Option A) (n : ℕ) (a : A) → judged o n ≡ Ok a → o ≡ Some a
    formed None n a e = err_ok e
    formed (Some b) n a e = ap Some (ok_same e)

-- one of some words
pub word_whole : {A : Type 0} (word : A → List ℕ) (xs : List A) → ((a : A) → named_in word xs (word a) ≡ Some a) → ((a : A) → Clear 10 (word a)) → Whole (form (named_in word xs)) word (λ a. Unit {0})
word_whole word xs complete clear = form_whole (named_in word xs) word (λ a. Unit {0}) (λ v a e. (tt, named_sound word xs v a e)) (λ a g. complete a) (λ a g. clear a)

-- a number of things, and then that many of them
pub counted : {A : Type 0} (count : Reading ℕ) (v : ℕ → List ℕ) (Few : ℕ → Type 0) → Reads count v Few → (p : Reading A) (w : A → List ℕ) (Good : A → Type 0) → Reads p w Good → Reads (◌>>=◌ count (λ n. times n p)) (λ xs. v (length xs) ++ flat_map w xs) (λ xs. Few (length xs) × AllByRecursion Good xs)
counted count v Few c p w Good h = record {
  sound = λ s xs t e.
      let f = then_ok (count s) _ _ e in
      let a = c.sound s f.0.0 f.0.1 f.1 in
      let b = (times_reads p w Good h f.0.0).sound f.0.1 xs t f.2 in (
        (subst Few (sym b.0.0) a.0, b.0.1),
        a.1 ∙ ((ap (λ k. v k ++ f.0.1.rest) (sym b.0.0) ∙ ap (λ y. v (length xs) ++ y) b.1) ∙ sym (append_assoc (v (length xs)) (flat_map w xs) t.rest)),
      );
  complete = λ xs r n g.
      let a = c.complete (length xs) (flat_map w xs ++ r) n g.0 in
      let b = (times_reads p w Good h (length xs)).complete xs r a.0 (refl, g.1) in (
        b.0,
        ap (λ y. ◌>>=◌ count (λ k. times k p) (at y n)) (append_assoc (v (length xs)) (flat_map w xs) r)
            ∙ (then_run _ _ _ a.1 ∙ b.1),
      );
}

-- one thing and then the rest: pick finds the first in the whole
pub seq_reads : {A B : Type 0} (pick : B → A) (p : Reading A) (w : A → List ℕ) (G : A → Type 0) (f : A → Reading B) (v : B → List ℕ) (K : A → B → Type 0) (H : B → Type 0) → Reads p w G → ((a : A) → Reads (f a) v (K a)) → ((a : A) (b : B) → K a b → (pick b ≡ a) × H b) → ((b : B) → H b → K (pick b) b) → Reads (◌>>=◌ p f) (λ b. w (pick b) ++ v b) (λ b. G (pick b) × H b)
seq_reads pick p w G f v K H h k to from = record {
  sound = λ s b t e.
      let x = then_ok (p s) _ _ e in
      let y = h.sound s x.0.0 x.0.1 x.1 in
      let z = (k x.0.0).sound x.0.1 b t x.2 in
      let q = to x.0.0 b z.0 in (
        (subst G (sym q.0) y.0, q.1),
        y.1 ∙ (ap (λ a. w a ++ x.0.1.rest) (sym q.0) ∙ (ap (λ r. w (pick b) ++ r) z.1 ∙ sym (append_assoc (w (pick b)) (v b) t.rest))),
      );
  complete = λ b r n g.
      let x = h.complete (pick b) (v b ++ r) n g.0 in
      let y = (k (pick b)).complete b r x.0 (from b g.1) in (
        y.0,
        ap (λ z. ◌>>=◌ p f (at z n)) (append_assoc (w (pick b)) (v b) r) ∙ (then_run _ _ _ x.1 ∙ y.1),
      );
}

pub done_reads : {A : Type 0} (x : A) → Reads (done x) (λ a. []) (λ a. a ≡ x)
done_reads x = record {
  sound = λ s a t e. let q = ok_same e in (sym (ap (λ p. p.0) q), ap (λ p. p.1.rest) q);
  complete = λ a r n g. (n, ap (λ y. Ok (y, at r n)) (sym g));
}

pub entry_stops : {A : Type 0} (k : Key) (value : List ℕ → ℕ → Result A Fault) (s : State) (e : Fault) → Err e ≡ field k s → Err e ≡ entry k value s
entry_stops k value s e f = ap (λ q. then q (λ q. then (value q.0.0 q.0.1) (λ a. Ok (a, q.1)))) f

-- one thing more on a list that was begun
onto_more : {A : Type 0} (xs : List A) (a : A) (r : Result (List A × State) Fault) → onto xs (then r (λ z. Ok (a ∷ z.0, z.1))) ≡ onto (xs ++ (a ∷ [])) r
onto_more xs a (Ok q) = ap (λ ys. Ok (ys, q.1)) (sym (append_assoc xs (a ∷ []) q.0))
onto_more xs a (Err d) = refl

-- the turns of a loop that reads one thing after another
pub times_more : {A : Type 0} (xs : List A) (k : ℕ) (p : Reading A) (s : State) (a : A) (t : State) → Ok (a, t) ≡ p s → onto xs (times (suc k) p s) ≡ onto (xs ++ (a ∷ [])) (times k p t)
times_more xs k p s a t e = ap (λ r. onto xs (then r (λ q. then (times k p q.1) (λ z. Ok (q.0 ∷ z.0, z.1))))) (sym e) ∙ onto_more xs a (times k p t)

pub times_first : {A : Type 0} (n : ℕ) (p : Reading A) (s : State) → onto [] (times n p s) ≡ times n p s
times_first {A} n p s = same (times n p s)
  where
    same : (r : Result (List A × State) Fault) → onto [] r ≡ r
    same (Ok q) = refl
    same (Err d) = refl

-- a step of a longer reading
pub bind_run : {A B : Type 0} (p : Reading A) (f : A → Reading B) (s : State) (a : A) (t : State) → Ok (a, t) ≡ p s → f a t ≡ ◌>>=◌ p f s
bind_run p f s a t e = ap (λ r. then r (λ q. f q.0 q.1)) e

pub bind_stops : {A B : Type 0} (p : Reading A) (f : A → Reading B) (s : State) (d : Fault) → Err d ≡ p s → Err d ≡ ◌>>=◌ p f s
bind_stops p f s d e = ap (λ r. then r (λ q. f q.0 q.1)) e

-- a value made of what was read
pub map_reads : {A B : Type 0} (c : A → B) (p : Reading A) (w : A → List ℕ) (G : A → Type 0) (v : B → List ℕ) (H : B → Type 0) → ((a : A) → v (c a) ≡ w a) → ((a : A) → G a → H (c a)) → ((b : B) → H b → (a : A) × (b ≡ c a) × G a) → Reads p w G → Reads (◌>>=◌ p (λ a. done (c a))) v H
map_reads c p w G v H same to from h = record {
  sound = λ s b t e.
      let x = then_ok (p s) _ _ e in
      let q = ok_same x.2 in
      let y = h.sound s x.0.0 x.0.1 x.1 in (
        subst H (ap (λ z. z.0) q) (to x.0.0 y.0),
        y.1 ∙ (ap (λ z. z ++ x.0.1.rest) (sym (same x.0.0)) ∙ ap (λ z. v z.0 ++ z.1.rest) q),
      );
  complete = λ b r n g.
      let k = from b g in
      let y = h.complete k.0 r n k.2 in (
        y.0,
        ap (λ z. ◌>>=◌ p (λ a. done (c a)) (at (z ++ r) n)) (ap v k.1 ∙ same k.0)
            ∙ (then_run _ _ _ y.1 ∙ ap (λ z. Ok (z, at r y.0)) (sym k.1)),
      );
}

-- of two things, one after the other
pub map2_reads : {A B C : Type 0} (c : A → B → C) (p : Reading A) (w : A → List ℕ) (G : A → Type 0) (q : Reading B) (u : B → List ℕ) (F : B → Type 0) (v : C → List ℕ) (H : C → Type 0) → ((a : A) (b : B) → v (c a b) ≡ w a ++ u b) → ((a : A) (b : B) → G a → F b → H (c a b)) → ((x : C) → H x → (a : A) × (b : B) × (x ≡ c a b) × G a × F b) → Reads p w G → Reads q u F → Reads (◌>>=◌ p (λ a. ◌>>=◌ q (λ b. done (c a b)))) v H
map2_reads c p w G q u F v H same to from h k = record {
  sound = λ s x t e.
      let f = then_ok (p s) _ _ e in
      let g = then_ok (q f.0.1) _ _ f.2 in
      let z = ok_same g.2 in
      let y = h.sound s f.0.0 f.0.1 f.1 in
      let y' = k.sound f.0.1 g.0.0 g.0.1 g.1 in (
        subst H (ap (λ r. r.0) z) (to f.0.0 g.0.0 y.0 y'.0),
        y.1 ∙ (ap (λ r. w f.0.0 ++ r) y'.1 ∙ (sym (append_assoc (w f.0.0) (u g.0.0) g.0.1.rest) ∙ (ap (λ r. r ++ g.0.1.rest) (sym (same f.0.0 g.0.0)) ∙ ap (λ r. v r.0 ++ r.1.rest) z))),
      );
  complete = λ x r n g.
      let m = from x g in
      let y = h.complete m.0 (u m.1 ++ r) n m.3 in
      let y' = k.complete m.1 r y.0 m.4 in (
        y'.0,
        ap (λ z. ◌>>=◌ p (λ a. ◌>>=◌ q (λ b. done (c a b))) (at z n)) (ap (λ z. z ++ r) (ap v m.2 ∙ same m.0 m.1) ∙ append_assoc (w m.0) (u m.1) r)
            ∙ (then_run _ _ _ y.1 ∙ (then_run _ _ _ y'.1 ∙ ap (λ z. Ok (z, at r y'.0)) (sym m.2))),
      );
}

-- one of two, by the word that stands next
pub either_reads : {A : Type 0} (k : Key) (p q : Reading A) (w : A → List ℕ) (G K : A → Type 0) → Reads p w G → Reads q w K → ((a : A) (r : List ℕ) → G a → starts (name k ++ codes "=") (w a ++ r) ≡ true) → ((a : A) (r : List ℕ) → K a → starts (name k ++ codes "=") (w a ++ r) ≡ false) → Reads (either k p q) w (λ a. G a ⊎ K a)
either_reads {A} key p q w G K h k yes' no' = record { sound = λ s a t e. sound s a t (is_next key s) e; complete = complete }
  where
    sound : (s : State) (a : A) (t : State) (b : Bool) → cond b (p s) (q s) ≡ Ok (a, t) → (G a ⊎ K a) × (s.rest ≡ w a ++ t.rest)
    sound s a t true e = let x = h.sound s a t e in (inl x.0, x.1)
    sound s a t false e = let x = k.sound s a t e in (inr x.0, x.1)

    complete : (a : A) (r : List ℕ) (n : ℕ) → G a ⊎ K a → (m : ℕ) × (either key p q (at (w a ++ r) n) ≡ Ok (a, at r m))
    complete a r n (inl g) = let x = h.complete a r n g in (x.0, cond-true (starts (name key ++ codes "=") (w a ++ r)) _ _ (yes' a r g) ∙ x.1)
    complete a r n (inr g) = let x = k.complete a r n g in (x.0, cond-false (starts (name key ++ codes "=") (w a ++ r)) _ _ (no' a r g) ∙ x.1)

-- one thing after another, each where the ones before it have led
pub walk_reads : {P A : Type 0} (p : P → Reading A) (step : P → A → P) (w : A → List ℕ) (G : P → A → Type 0) → ((i : P) → Reads (p i) w (G i)) → (k : ℕ) (i : P) → Reads (walk p step i k) (flat_map w) (λ xs. (length xs ≡ k) × Along G step i xs)
walk_reads {P} {A} p step w G h zero i = record { sound = sound; complete = complete }
  where
    sound : (s : State) (xs : List A) (t : State) → done [] s ≡ Ok (xs, t) → ((length xs ≡ 0) × Along G step i xs) × (s.rest ≡ flat_map w xs ++ t.rest)
    sound s xs t e =
        let q = ok_same e in
        subst (λ ys. ((length ys ≡ 0) × Along G step i ys) × (s.rest ≡ flat_map w ys ++ t.rest)) (ap (λ p. p.0) q) ((refl, tt), ap (λ p. p.1.rest) q)

    complete : (xs : List A) (r : List ℕ) (n : ℕ) → (length xs ≡ 0) × Along G step i xs → (m : ℕ) × (done [] (at (flat_map w xs ++ r) n) ≡ Ok (xs, at r m))
    complete [] r n g = (n, refl)
    complete (x ∷ xs) r n g = absurd (omega (arith, g.0))
walk_reads {P} {A} p step w G h (suc k) i = record { sound = sound (λ j. walk_reads p step w G h k j); complete = complete (λ j. walk_reads p step w G h k j) }
  where
    sound : ((j : P) → Reads (walk p step j k) (flat_map w) (λ xs. (length xs ≡ k) × Along G step j xs)) → (s : State) (xs : List A) (t : State) → walk p step i (suc k) s ≡ Ok (xs, t) → ((length xs ≡ suc k) × Along G step i xs) × (s.rest ≡ flat_map w xs ++ t.rest)
    sound ih s xs t e =
        let f = then_ok (p i s) _ _ e in
        let g = then_ok (walk p step (step i f.0.0) k f.0.1) _ _ f.2 in
        let q = ok_same g.2 in
        let a = (h i).sound s f.0.0 f.0.1 f.1 in
        let b = (ih (step i f.0.0)).sound f.0.1 g.0.0 g.0.1 g.1 in
        subst (λ ys. ((length ys ≡ suc k) × Along G step i ys) × (s.rest ≡ flat_map w ys ++ t.rest)) (ap (λ p. p.0) q) (
          (ap suc b.0.0, (a.0, b.0.1)),
          a.1 ∙ (ap (λ x. w f.0.0 ++ x) (b.1 ∙ ap (λ p. flat_map w g.0.0 ++ p.1.rest) q) ∙ sym (append_assoc (w f.0.0) (flat_map w g.0.0) t.rest)),
        )

    complete : ((j : P) → Reads (walk p step j k) (flat_map w) (λ xs. (length xs ≡ k) × Along G step j xs)) → (xs : List A) (r : List ℕ) (n : ℕ) → (length xs ≡ suc k) × Along G step i xs → (m : ℕ) × (walk p step i (suc k) (at (flat_map w xs ++ r) n) ≡ Ok (xs, at r m))
    complete ih [] r n g = absurd (omega (arith, g.0))
    complete ih (x ∷ xs) r n g =
        let a = (h i).complete x (flat_map w xs ++ r) n g.1.0 in
        let l : length xs ≡ k = omega (arith, g.0) in
        let b = (ih (step i x)).complete xs r a.0 (l, g.1.1) in (
          b.0,
          ap (λ y. walk p step i (suc k) (at y n)) (append_assoc (w x) (flat_map w xs) r)
              ∙ (then_run _ _ _ a.1 ∙ then_run _ _ _ b.1),
        )

-- a number of things, and then that many of them, each where the ones before it have led
pub counted_walk : {P A : Type 0} (count : Reading ℕ) (v : ℕ → List ℕ) (Few : ℕ → Type 0) → Reads count v Few → (p : ℕ → P → Reading A) (step : P → A → P) (i : P) (w : A → List ℕ) (G : ℕ → P → A → Type 0) → ((n : ℕ) (j : P) → Reads (p n j) w (G n j)) → Reads (◌>>=◌ count (λ n. walk (p n) step i n)) (λ xs. v (length xs) ++ flat_map w xs) (λ xs. Few (length xs) × Along (G (length xs)) step i xs)
counted_walk count v Few c p step i w G h = record {
  sound = λ s xs t e.
      let f = then_ok (count s) _ _ e in
      let a = c.sound s f.0.0 f.0.1 f.1 in
      let b = (walk_reads (p f.0.0) step w (G f.0.0) (h f.0.0) f.0.0 i).sound f.0.1 xs t f.2 in (
        (subst Few (sym b.0.0) a.0, subst (λ k. Along (G k) step i xs) (sym b.0.0) b.0.1),
        a.1 ∙ ((ap (λ k. v k ++ f.0.1.rest) (sym b.0.0) ∙ ap (λ y. v (length xs) ++ y) b.1) ∙ sym (append_assoc (v (length xs)) (flat_map w xs) t.rest)),
      );
  complete = λ xs r n g.
      let a = c.complete (length xs) (flat_map w xs ++ r) n g.0 in
      let b = (walk_reads (p (length xs)) step w (G (length xs)) (h (length xs)) (length xs) i).complete xs r a.0 (refl, g.1) in (
        b.0,
        ap (λ y. ◌>>=◌ count (λ k. walk (p k) step i k) (at y n)) (append_assoc (v (length xs)) (flat_map w xs) r)
            ∙ (then_run _ _ _ a.1 ∙ b.1),
      );
}

-- the turns of a loop that goes on where it has been led
pub walk_none : {P A : Type 0} (xs : List A) (p : P → Reading A) (step : P → A → P) (i : P) (s : State) → onto xs (walk p step i zero s) ≡ Ok (xs, s)
walk_none xs p step i s = ap (λ ys. Ok (ys, s)) (append-nil xs)

pub walk_more : {P A : Type 0} (xs : List A) (k : ℕ) (p : P → Reading A) (step : P → A → P) (i : P) (s : State) (a : A) (t : State) → Ok (a, t) ≡ p i s → onto xs (walk p step i (suc k) s) ≡ onto (xs ++ (a ∷ [])) (walk p step (step i a) k t)
walk_more xs k p step i s a t e = ap (λ r. onto xs (then r (λ q. then (walk p step (step i q.0) k q.1) (λ z. Ok (q.0 ∷ z.0, z.1))))) (sym e) ∙ onto_more xs a (walk p step (step i a) k t)

pub walk_stops : {P A : Type 0} (xs : List A) (k : ℕ) (p : P → Reading A) (step : P → A → P) (i : P) (s : State) (d : Fault) → Err d ≡ p i s → onto xs (walk p step i (suc k) s) ≡ Err d
walk_stops xs k p step i s d e = ap (λ r. onto xs (then r (λ q. then (walk p step (step i q.0) k q.1) (λ z. Ok (q.0 ∷ z.0, z.1))))) (sym e)
