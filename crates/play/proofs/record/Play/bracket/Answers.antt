use Rattle.std.proofs.Common.{ap, ◌∙◌, arith, w64, to_z, of_z}
use Rattle.std.proofs.lemmas.Int.{ints}
use Rattle.stories.specs.declared.turn.Turn.TheVariants.{Ours, Theirs, Over}
use Rattle.play.specs.Answers.{sum_z, bracket_by, bracket_to}
use Rattle.play.proofs.Answering.{bracket_so}
use Rattle.play.proofs.record.Play.bracket.Goals as goal

pub returns-in-Ours-clause-bracket : goal.returns-in-Ours-clause-bracket
returns-in-Ours-clause-bracket c =
    bracket_so c.args.self.now c.args.side c.args.means.now c.args.hottest _ _ c.in-Ours.is
    (c.bracket_for.ensures
    ∙ ap (λ v. bracket_to Ours c.args.side v c.unwrap_or-heat.result) (omega (arith, ints, c.sum-mean.ensures.sum))
    ∙ ap (bracket_to Ours c.args.side (sum_z c.args.means.now)) c.unwrap_or-heat.ensures)

pub returns-in-Theirs-clause-bracket : goal.returns-in-Theirs-clause-bracket
returns-in-Theirs-clause-bracket c =
    bracket_so c.args.self.now c.args.side c.args.means.now c.args.hottest _ _ c.in-Theirs.is
    (c.bracket_for-in-Theirs.ensures
    ∙ ap (λ s. bracket_by s (to_z w64 (of_z w64 c.sum-mean.result)) c.unwrap_or-heat.result) c.other.ensures
    ∙ ap (λ v. bracket_to Theirs c.args.side v c.unwrap_or-heat.result) (omega (arith, ints, c.sum-mean.ensures.sum))
    ∙ ap (bracket_to Theirs c.args.side (sum_z c.args.means.now)) c.unwrap_or-heat.ensures)

pub returns-in-Over-clause-bracket : goal.returns-in-Over-clause-bracket
returns-in-Over-clause-bracket c =
    bracket_so c.args.self.now c.args.side c.args.means.now c.args.hottest _ _ c.in-Over.is
    (ap (λ v. bracket_to Over c.args.side v c.unwrap_or-heat.result) (omega (arith, ints, c.sum-mean.ensures.sum)))
