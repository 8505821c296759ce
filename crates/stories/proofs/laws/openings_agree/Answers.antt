use Rattle.stories.proofs.Openings as shown
use Rattle.stories.proofs.laws.openings_agree.Goals as goal

pub returns : goal.returns
returns c = shown.openings_agree_lem
