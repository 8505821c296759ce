-- A story in figures: {4|0} and {{9|2}|0} are seated, and between them a code that is unknown.
use Rattle.std.specs.Prelude.{◌≡◌, List, [], ◌∷◌, pos, Some, None, Option}
use Rattle.terms.specs.declared.side.Side.TheVariants.{Left, Right}
use Rattle.terms.specs.declared.side.Mover.{Mover}
use Rattle.terms.specs.declared.side.Mover.TheVariants.{Ours, Theirs}
use Rattle.theory.specs.Trees.{Tree}
use Rattle.theory.specs.Figures.{four_or_nothing, nine_two, two_regions, points}
use Rattle.stories.specs.Calls.{move, reply}
use Rattle.stories.specs.Stories.{Meant, Story, opens, ◌then◌, sum_after, game_after}
use Rattle.stories.specs.Promise.{floor_answered, bracket_answered, Advised, best_for_left, our_score}

abbrev pub codes : List (Option Tree)
codes = Some four_or_nothing ∷ None ∷ Some nine_two ∷ []

-- we are Left
abbrev pub told : Meant codes → Mover → Story
told l m = opens codes l Left m

pub record Figures (l : Meant codes) : Type 0 where
  pub seated : (m : Mover) → (sum_after (told l m)).trees ≡ two_regions
  -- we move first
  pub our_floor : floor_answered (told l Ours) ≡ pos 16384
  pub our_bracket : bracket_answered (told l Ours) ≡ (pos 16384, pos 24576)
  pub our_best : best_for_left (told l Ours) ≡ pos 24576
  -- they move first
  pub their_floor : floor_answered (told l Theirs) ≡ pos 8192
  pub their_bracket : bracket_answered (told l Theirs) ≡ (pos 8192, pos 16384)
  pub their_best : best_for_left (told l Theirs) ≡ pos 8192
  -- the parts are equally hot, so the advice is the first; a reply at our turn is refused and changes nothing
  pub advised : Advised (told l Ours then reply 0 0) 0 0
  -- we move as advised, they end the other part, and we have what the floor said
  pub end : (sum_after (told l Ours then reply 0 0 then move 0 0 then reply 1 0)).trees ≡ points 4 ∷ points 0 ∷ []
  pub score : our_score (told l Ours then reply 0 0 then move 0 0 then reply 1 0) ≡ pos 16384
  -- with Right as our side, Left's move to {9|2} is a threat that is to be answered there
  pub threat : (game_after (opens codes l Right Theirs then reply 1 0)).pending ≡ Some 1
  pub answered : Advised (opens codes l Right Theirs then reply 1 0) 1 0

pub record WorkedStory : Type 0 where
  pub lawful : Meant codes
  pub figures : (l : Meant codes) → Figures l
