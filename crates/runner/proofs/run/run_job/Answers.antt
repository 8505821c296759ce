use Rattle.std.proofs.Common.{min, length}
use Rattle.trees.specs.Written.{pick_limit}
use Rattle.runner.proofs.Exact.{run_exact}
use Rattle.runner.proofs.Told.{page_of}
use Rattle.runner.proofs.run.run_job.Goals as goal

pub returns-then-is_err-clause-exact : goal.returns-then-is_err-clause-exact
returns-then-is_err-clause-exact c = run_exact

pub returns-else-is_err-clause-page : goal.returns-else-is_err-clause-page
returns-else-is_err-clause-page c = page_of (length c.args.rows.now) (min (length c.args.picks.now) pick_limit) c.args.job.now c.args.out.now c.write_sheet-written.result c.write_sheet-written.new.out c.write_sheet-written.ensures.run

pub returns-else-is_err-clause-exact : goal.returns-else-is_err-clause-exact
returns-else-is_err-clause-exact c = run_exact
