use Rattle.stories.proofs.Worked as shown
use Rattle.stories.proofs.laws.worked_story.Goals as goal

pub returns : goal.returns
returns c = shown.worked_story_lem
