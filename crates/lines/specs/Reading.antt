-- How a text is read, line by line: a fault stops it.
use Rattle.std.specs.Prelude.{ℕ, zero, suc, Bool, true, false, cond, ◌&&◌, List, [], ◌∷◌, ◌++◌, length, Some, None, Ok, Err, Option, Result, ◌==◌, nat_le}
use Rattle.terms.specs.declared.fault.Fault.{Fault}
use Rattle.terms.specs.declared.fault.Refusal.{Refusal}
use Rattle.terms.specs.declared.fault.Refusal.TheVariants.{JobTooLong}
use Rattle.terms.specs.Refusals.{fault}

-- go on with what was read; a fault stays what it is
abbrev pub then : {A B : Type 0} → Result A Fault → (A → Result B Fault) → Result B Fault
then (Ok a) f = f a
then (Err e) f = Err e

-- a refusal, with the line that met it
abbrev pub on_line : {A : Type 0} → Result A Refusal → ℕ → Result A Fault
on_line (Ok a) n = Ok a
on_line (Err e) n = Err (fault e n)

-- what is left to read, and the number of its first line
pub record State : Type 0 where
  pub rest : List ℕ
  pub line : ℕ

abbrev pub at : List ℕ → ℕ → State
at bytes n = record { rest = bytes; line = n }

-- the most bytes of a job
abbrev pub longest : ℕ
longest = 16384

abbrev pub fits : List ℕ → Result (Unit {0}) Fault
fits job = cond (nat_le (length job) longest) (Ok tt) (Err (fault JobTooLong 0))

-- before the first line of a job
abbrev pub opened : List ℕ → Result State Fault
opened job = then (fits job) (λ _. Ok (at job 1))

abbrev pub Reading : Type 0 → Type 0
Reading A = State → Result (A × State) Fault

abbrev pub done : {A : Type 0} → A → Reading A
done a s = Ok (a, s)

abbrev pub ◌>>=◌ : {A B : Type 0} → Reading A → (A → Reading B) → Reading B
◌>>=◌ p f = λ s. then (p s) (λ q. f q.0 q.1)

-- the same again and again
abbrev pub times : {A : Type 0} → ℕ → Reading A → Reading (List A)
times zero p = done []
times (suc n) p = do
  a ← p
  more ← times n p
  done (a ∷ more)

-- one thing after another, each where the ones before it have led
abbrev pub walk : {P A : Type 0} → (P → Reading A) → (P → A → P) → P → ℕ → Reading (List A)
walk p step i zero = done []
walk p step i (suc k) = do
  a ← p i
  more ← walk p step (step i a) k
  done (a ∷ more)

-- what holds of each member of a list, where the ones before it have led
abbrev pub Along : {P A : Type 0} → (P → A → Type 0) → (P → A → P) → P → List A → Type 0
Along G step i [] = Unit {0}
Along G step i (x ∷ xs) = G i x × Along G step (step i x) xs

-- where a list leads
abbrev pub led : {P A : Type 0} → (P → A → P) → P → List A → P
led step i [] = i
led step i (x ∷ xs) = led step (step i x) xs

-- a list that was begun already
abbrev pub onto : {A : Type 0} → List A → Result (List A × State) Fault → Result (List A × State) Fault
onto xs r = then r (λ q. Ok (xs ++ q.0, q.1))

-- the bytes before the first b and those after it
abbrev pub ahead : ℕ → Option (List ℕ × List ℕ) → Option (List ℕ × List ℕ)
ahead x None = None
ahead x (Some (l, r)) = Some (x ∷ l, r)

abbrev pub cut : ℕ → List ℕ → Option (List ℕ × List ℕ)
cut b [] = None
cut b (x ∷ xs) = cond (x == b) (Some ([], xs)) (ahead x (cut b xs))

-- whether a text begins with a word
abbrev pub starts : List ℕ → List ℕ → Bool
starts [] xs = true
starts (p ∷ ps) [] = false
starts (p ∷ ps) (x ∷ xs) = x == p && starts ps xs
