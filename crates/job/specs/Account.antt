-- What is told of a job that was read.
use Rattle.std.specs.Prelude.{ℕ, length, Ok, Result}
use Rattle.terms.specs.declared.fault.Fault.{Fault}
use Rattle.lines.specs.Reading.{Reading, then}
use Rattle.job.specs.declared.account.Account.{Account}
use Rattle.job.specs.declared.counts.Counts.{Counts}
use Rattle.job.specs.Grammar.{Job}

abbrev pub account : Job × ℕ → Account
account (j, n) = record { lines = n; parts = length j.parts; moves = length j.moves }

abbrev pub told : Result (Job × ℕ) Fault → Result Account Fault
told r = then r (λ q. Ok (account q))

-- a reading of which only the count, or only the success, is kept
abbrev pub counted : {A : Type 0} → (A → ℕ) → Reading A → Reading ℕ
counted f p s = then (p s) (λ q. Ok (f q.0, q.1))

abbrev pub passed : {A : Type 0} → Reading A → Reading (Unit {0})
passed p s = then (p s) (λ q. Ok (tt, q.1))

-- the numbers of parts and moves of a job
abbrev pub counts_of : Reading Job → Reading Counts
counts_of p s = then (p s) (λ q. Ok (record { parts = length q.0.parts; moves = length q.0.moves }, q.1))
