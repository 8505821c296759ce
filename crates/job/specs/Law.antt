-- The law of jobs and their texts.
use Rattle.std.specs.Prelude.{◌≡◌, ℕ, ◌≤◌, List, length, Ok}
use Rattle.lines.specs.Reading.{longest}
use Rattle.job.specs.Grammar.{Job, job_text, GoodJob}
use Rattle.job.specs.Reads.{read_job}

-- the bytes are the text of this job, which is lawful and short enough
abbrev pub Says : ℕ → ℕ → List ℕ → Job → Type 0
Says lent room bytes j = (length bytes ≤ longest) × GoodJob lent room j × (bytes ≡ job_text j)

-- what is read as a job is just the text of that job
abbrev pub JobExact : Type 0
JobExact =
    (lent room : ℕ) (bytes : List ℕ) (j : Job) →
    ((n : ℕ) → read_job lent room bytes ≡ Ok (j, n) → Says lent room bytes j) × (Says lent room bytes j → (n : ℕ) × (read_job lent room bytes ≡ Ok (j, n)))
