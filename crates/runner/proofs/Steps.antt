-- A run that reads something and goes by what was read: it ends well exactly where that is read and is good.
use Rattle.std.proofs.Common.{◌≡◌, ℕ, zero, suc, List, [], ◌∷◌, Ok, Err, Result, sym, ap, ◌∙◌, subst}
use Rattle.terms.specs.declared.fault.Refusal.{Refusal}
use Rattle.lines.specs.Reading.{State, Reading, ◌>>=◌, times, Along, led}
use Rattle.lines.proofs.Fields.{ok_same, err_ok}
use Rattle.lines.proofs.Laws.{then_ok, then_run}
use Rattle.runner.specs.Runs.{there, chain}

pub record Follows {A B : Type 0} (run : Reading A) (read : Reading B) (Good : B → Type 0) (what : B → A) : Type 0 where
  pub sound : (s : State) (a : A) (t : State) → run s ≡ Ok (a, t) → (b : B) × (read s ≡ Ok (b, t)) × Good b × (a ≡ what b)
  pub complete : (s : State) (b : B) (t : State) → read s ≡ Ok (b, t) → Good b → run s ≡ Ok (what b, t)

-- ---- what is answered once it is read
there_ok : {A : Type 0} (r : Result A Refusal) (s : State) (a : A) (t : State) → there r s ≡ Ok (a, t) → (r ≡ Ok a) × (s ≡ t)
there_ok (Ok x) s a t e = let q = ok_same e in (ap (λ p. Ok p.0) q, ap (λ p. p.1) q)
there_ok (Err d) s a t e = err_ok e

pub answered : {A B : Type 0} (read : Reading B) (answer : B → Result A Refusal) (Good : B → Type 0) (what : B → A)
    → ((b : B) (a : A) → answer b ≡ Ok a → Good b × (a ≡ what b)) → ((b : B) → Good b → answer b ≡ Ok (what b))
    → Follows (◌>>=◌ read (λ b. there (answer b))) read Good what
answered read answer Good what to from = record {
  sound = λ s a t e.
      let f = then_ok (read s) _ _ e in
      let g = there_ok (answer f.0.0) f.0.1 a t f.2 in
      let h = to f.0.0 a g.0 in
      (f.0.0, f.1 ∙ ap (λ u. Ok (f.0.0, u)) g.1, h.0, h.1);
  complete = λ s b t e g. then_run _ _ _ e ∙ ap (λ q. there q t) (from b g);
}

-- ---- after the same reading
pub after : {A B C : Type 0} (first : Reading C) (run : C → Reading A) (read : C → Reading B) (Good : B → Type 0) (what : B → A)
    → ((c : C) → Follows (run c) (read c) Good what) → Follows (◌>>=◌ first run) (◌>>=◌ first read) Good what
after first run read Good what h = record {
  sound = λ s a t e.
      let f = then_ok (first s) _ _ e in
      let g = (h f.0.0).sound f.0.1 a t f.2 in
      (g.0, then_run _ _ _ f.1 ∙ g.1, g.2, g.3);
  complete = λ s b t e g.
      let f = then_ok (first s) _ _ e in
      then_run _ _ _ f.1 ∙ (h f.0.0).complete f.0.1 b t f.2 g;
}

-- ---- one after another, by where the ones before have led
module _ {A B P : Type 0} (step : A → Reading A) (read : Reading B) (now : P → A) (Good : P → B → Type 0) (next : P → B → P) (h : (p : P) → Follows (step (now p)) read (Good p) (λ b. now (next p b))) where
  chain_sound : (n : ℕ) (p : P) (s : State) (a : A) (t : State) → chain step n (now p) s ≡ Ok (a, t) → (bs : List B) × (times n read s ≡ Ok (bs, t)) × Along Good next p bs × (a ≡ now (led next p bs))
  chain_sound zero p s a t e = let q = ok_same e in ([], ap (λ z. Ok ([], z.1)) q, tt, sym (ap (λ z. z.0) q))
  chain_sound (suc n) p s a t e =
      let f = then_ok (step (now p) s) _ _ e in
      let b = (h p).sound s f.0.0 f.0.1 f.1 in
      let m = chain_sound n (next p b.0) f.0.1 a t (ap (λ x. chain step n x f.0.1) (sym b.3) ∙ f.2) in
      (b.0 ∷ m.0, then_run _ _ _ b.1 ∙ then_run _ _ _ m.1, (b.2, m.2), m.3)

  chain_run : (n : ℕ) (p : P) (s : State) (bs : List B) (t : State) → times n read s ≡ Ok (bs, t) → Along Good next p bs → chain step n (now p) s ≡ Ok (now (led next p bs), t)
  chain_run zero p s bs t e g = ap (λ z. Ok (now (led next p z.0), z.1)) (ok_same e)
  chain_run (suc n) p s bs t e g =
      let f = then_ok (read s) _ _ e in
      let m = then_ok (times n read f.0.1) _ _ f.2 in
      let q = ok_same m.2 in
      let d = subst (λ bs. Along Good next p bs) (sym (ap (λ z. z.0) q)) g in
      then_run _ _ _ ((h p).complete s f.0.0 f.0.1 f.1 d.0)
      ∙ (chain_run n (next p f.0.0) f.0.1 m.0.0 m.0.1 m.1 d.1 ∙ ap (λ z. Ok (now (led next p z.0), z.1)) q)

  pub chained : (n : ℕ) (p : P) → Follows (chain step n (now p)) (times n read) (Along Good next p) (λ bs. now (led next p bs))
  chained n p = record { sound = chain_sound n p; complete = chain_run n p }
