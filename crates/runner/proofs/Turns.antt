-- The turns of a loop that makes one step after another.
use Rattle.std.proofs.Common.{◌≡◌, ℕ, suc, ◌+◌, ◌-◌, ◌<◌, Ok, Err, Result, sym, ap, ◌∙◌, arith}
use Rattle.terms.specs.declared.fault.Fault.{Fault}
use Rattle.lines.specs.Reading.{State, Reading, then}
use Rattle.runner.specs.Runs.{chain}

module _ {A : Type 0} (step : A → Reading A) (n : ℕ) where
  pub chain_first : (a : A) (s : State) → chain step (n - 0) a s ≡ chain step n a s
  chain_first a s = let q : n - 0 ≡ n = omega arith in ap (λ k. chain step k a s) q

  turn : (i : ℕ) (a : A) (s : State) (r : Result (A × State) Fault) → i < n → r ≡ step a s → then r (λ q. chain step (n - (i + 1)) q.0 q.1) ≡ chain step (n - i) a s
  turn i a s r h e =
      let k : n - i ≡ suc (n - (i + 1)) = omega arith in
      ap (λ r. then r (λ q. chain step (n - (i + 1)) q.0 q.1)) e ∙ ap (λ m. chain step m a s) (sym k)

  pub chain_more : (i : ℕ) (a b : A) (s t : State) (whole : Result (A × State) Fault) → i < n → Ok (b, t) ≡ step a s → chain step (n - i) a s ≡ whole → chain step (n - (i + 1)) b t ≡ whole
  chain_more i a b s t whole h e inv = turn i a s (Ok (b, t)) h e ∙ inv

  pub chain_stops : (i : ℕ) (a : A) (s : State) (d : Fault) (whole : Result (A × State) Fault) → i < n → Err d ≡ step a s → chain step (n - i) a s ≡ whole → Err d ≡ whole
  chain_stops i a s d whole h e inv = turn i a s (Err d) h e ∙ inv

  pub chain_last : (i : ℕ) (a : A) (s : State) (whole : Result (A × State) Fault) → n - i ≡ 0 → chain step (n - i) a s ≡ whole → Ok (a, s) ≡ whole
  chain_last i a s whole z inv = ap (λ m. chain step m a s) (sym z) ∙ inv
