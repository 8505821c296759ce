-- A job runs to its end exactly where its text is that of a legal job, and what it leads to is that job's story.
use Rattle.std.specs.Prelude.{◌≡◌, ℕ, List, Ok}
use Rattle.stories.specs.Stories.{Meant}
use Rattle.job.specs.Grammar.{Job}
use Rattle.job.specs.Law.{Says}
use Rattle.runner.specs.Runs.{Outcome, run_job}
use Rattle.runner.specs.Stories.{meanings, Legal, outcome}

-- the bytes are the text of a legal job, and this comes of it
pub record Runs (lent room : ℕ) (bytes : List ℕ) (x : Outcome) : Type 0 where
  pub job : Job
  pub says : Says lent room bytes job
  pub meant : Meant (meanings job)
  pub legal : Legal job meant
  pub leads : x ≡ outcome job meant

pub record Exact (lent room : ℕ) (bytes : List ℕ) : Type 0 where
  -- what the parts of a job mean is lawful
  pub lawful : (j : Job) → Says lent room bytes j → Meant (meanings j)
  pub sound : (x : Outcome) → run_job lent room bytes ≡ Ok x → Runs lent room bytes x
  pub complete : (j : Job) (l : Meant (meanings j)) → Says lent room bytes j → Legal j l → run_job lent room bytes ≡ Ok (outcome j l)

abbrev pub RunExact : Type 0
RunExact = (lent room : ℕ) (bytes : List ℕ) → Exact lent room bytes
