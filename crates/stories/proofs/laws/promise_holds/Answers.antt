use Rattle.stories.proofs.Promise.{promise}
use Rattle.stories.proofs.laws.promise_holds.Goals as goal

pub returns : goal.returns
returns c = promise
