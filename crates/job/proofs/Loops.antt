-- The turns of a loop of which only the success is kept.
use Rattle.std.proofs.Common.{◌≡◌, ℕ, zero, suc, ◌+◌, ◌-◌, ◌<◌, List, ◌∷◌, length, Ok, Err, Result, sym, refl, ap, ◌∙◌, arith}
use Rattle.terms.specs.declared.fault.Fault.{Fault}
use Rattle.lines.specs.Reading.{State, Reading, done, then, times}
use Rattle.lines.specs.Reading.{◌>>=◌}
use Rattle.lines.proofs.Fields.{ok_same, err_ok, err_same}
use Rattle.lines.proofs.Laws.{then_ok}
use Rattle.job.specs.Account.{passed, counted}

module _ {A : Type 0} (p : Reading A) (n : ℕ) (s₀ : State) where
  pub pass_more : (i : ℕ) (s t : State) (a : A) → i < n → Ok (a, t) ≡ p s → passed (times (n - i) p) s ≡ passed (times n p) s₀ → passed (times (n - (i + 1)) p) t ≡ passed (times n p) s₀
  pass_more i s t a h e inv =
      let k : n - i ≡ suc (n - (i + 1)) = omega arith in
      sym (one (times (n - (i + 1)) p t))
      ∙ (ap (λ r. then {A = List A × State} {B = Unit {0} × State} (then r (λ q. then (times (n - (i + 1)) p q.1) (λ z. Ok (q.0 ∷ z.0, z.1)))) (λ q. Ok (tt, q.1))) e
      ∙ (ap (λ m. passed (times m p) s) (sym k) ∙ inv))
    where
      one : (r : Result (List A × State) Fault) → then {A = List A × State} {B = Unit {0} × State} (then r (λ z. Ok (a ∷ z.0, z.1))) (λ q. Ok (tt, q.1)) ≡ then r (λ q. Ok (tt, q.1))
      one (Ok z) = refl
      one (Err d) = refl

-- as many as were asked for
times_long : {A : Type 0} (p : Reading A) (n : ℕ) (s : State) (xs : List A) (t : State) → times n p s ≡ Ok (xs, t) → length xs ≡ n
times_long {A} p zero s xs t e = ap (λ q. length q.0) (sym (ok_same e))
times_long {A} p (suc n) s xs t e =
    let f = then_ok (p s) _ _ e in
    let g = then_ok (times n p f.0.1) _ _ f.2 in
    ap (λ q. length q.0) (sym (ok_same g.2)) ∙ ap suc (times_long p n f.0.1 g.0.0 g.0.1 g.1)

-- how many, and then that many
module _ {A : Type 0} (count : Reading ℕ) (p : Reading A) (s : State) where
  pub count_stops : (d : Fault) → Err d ≡ count s → Err d ≡ counted length (◌>>=◌ count (λ n. times n p)) s
  count_stops d e = ap (λ r. then {A = List A × State} {B = ℕ × State} (then r (λ q. times q.0 p q.1)) (λ q. Ok (length q.0, q.1))) e

  count_more : (n : ℕ) (s₁ : State) → Ok (n, s₁) ≡ count s → counted length (times n p) s₁ ≡ counted length (◌>>=◌ count (λ n. times n p)) s
  count_more n s₁ e = ap (λ r. then {A = List A × State} {B = ℕ × State} (then r (λ q. times q.0 p q.1)) (λ q. Ok (length q.0, q.1))) e

  pub count_breaks : (n : ℕ) (s₁ : State) (d : Fault) → Ok (n, s₁) ≡ count s → Err d ≡ passed (times n p) s₁ → Err d ≡ counted length (◌>>=◌ count (λ n. times n p)) s
  count_breaks n s₁ d e f = go (times n p s₁) f ∙ count_more n s₁ e
    where
      go : (r : Result (List A × State) Fault) → Err d ≡ then {B = Unit {0} × State} r (λ q. Ok (tt, q.1)) → Err d ≡ then {B = ℕ × State} r (λ q. Ok (length q.0, q.1))
      go (Ok q) f = err_ok f
      go (Err c) f = (cc)

  pub count_all : (n : ℕ) (s₁ t : State) → Ok (n, s₁) ≡ count s → Ok (tt, t) ≡ passed (times n p) s₁ → Ok (n, t) ≡ counted length (◌>>=◌ count (λ n. times n p)) s
  count_all n s₁ t e f = go (times n p s₁) (times_long p n s₁) f ∙ count_more n s₁ e
    where
      go : (r : Result (List A × State) Fault) → ((xs : List A) (t : State) → r ≡ Ok (xs, t) → length xs ≡ n) → Ok (tt, t) ≡ then {B = Unit {0} × State} r (λ q. Ok (tt, q.1)) → Ok (n, t) ≡ then {B = ℕ × State} r (λ q. Ok (length q.0, q.1))
      go (Ok (xs, u)) l f = let q : t ≡ u = ap (λ x. x.1) (ok_same f) in λ i. Ok (sym (l xs u refl) i, q i)
      go (Err c) l f = err_ok (sym f)

-- a step, and the rest
pub bind_stops : {A B : Type 0} (p : Reading A) (f : A → Reading B) (s : State) (d : Fault) → Err d ≡ p s → Err d ≡ passed (◌>>=◌ p f) s
bind_stops {A} {B} p f s d e = ap (λ r. then {A = B × State} {B = Unit {0} × State} (then r (λ q. f q.0 q.1)) (λ q. Ok (tt, q.1))) e

pub bind_goes : {A B : Type 0} (p : Reading A) (f : A → Reading B) (s : State) (a : A) (t : State) → Ok (a, t) ≡ p s → passed (f a) t ≡ passed (◌>>=◌ p f) s
bind_goes {A} {B} p f s a t e = ap (λ r. then {A = B × State} {B = Unit {0} × State} (then r (λ q. f q.0 q.1)) (λ q. Ok (tt, q.1))) e

-- the turns of a loop over readings of which only the success is known
module _ {A : Type 0} (p : Reading A) (n : ℕ) (s₀ : State) where
  pub forget_more : (i : ℕ) (s t : State) → i < n → Ok (tt, t) ≡ passed p s → passed (times (n - i) p) s ≡ passed (times n p) s₀ → passed (times (n - (i + 1)) p) t ≡ passed (times n p) s₀
  forget_more i s t h e inv = go (p s) refl e
    where
      go : (r : Result (A × State) Fault) → r ≡ p s → Ok (tt, t) ≡ then {B = Unit {0} × State} r (λ q. Ok (tt, q.1)) → passed (times (n - (i + 1)) p) t ≡ passed (times n p) s₀
      go (Ok (a, u)) q e = let w : t ≡ u = ap (λ x. x.1) (ok_same e) in pass_more p n s₀ i s t a h (ap (λ v. Ok (a, v)) w ∙ q) inv
      go (Err d) q e = err_ok (sym e)

  pub forget_stops : (i : ℕ) (s : State) (d : Fault) → i < n → Err d ≡ passed p s → passed (times (n - i) p) s ≡ passed (times n p) s₀ → Err d ≡ passed (times n p) s₀
  forget_stops i s d h e inv = go (p s) refl e
    where
      go : (r : Result (A × State) Fault) → r ≡ p s → Err d ≡ then {B = Unit {0} × State} r (λ q. Ok (tt, q.1)) → Err d ≡ passed (times n p) s₀
      go (Ok q) w e = err_ok e
      go (Err c) w e =
          let k : n - i ≡ suc (n - (i + 1)) = omega arith in
          let same : d ≡ c = err_same e in
          bind_stops p (λ a. ◌>>=◌ (times (n - (i + 1)) p) (λ more. done (a ∷ more))) s d (ap Err same ∙ w) ∙ (ap (λ m. passed (times m p) s) (sym k) ∙ inv)
