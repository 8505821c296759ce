use Rattle.job.proofs.Jobs.{job_exact}
use Rattle.job.proofs.check.check_text.Goals as goal

pub returns-clause-exact : goal.returns-clause-exact
returns-clause-exact c = job_exact
