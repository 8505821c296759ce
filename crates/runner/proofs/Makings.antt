-- The steps of reading a move and making it.
use Rattle.std.proofs.Common.{◌≡◌, ℕ, Ok, Err, Result, refl, ap, ◌∙◌}
use Rattle.terms.specs.declared.fault.Refusal.{Refusal}
use Rattle.terms.specs.declared.fault.Refusal.TheVariants.{GameOver}
use Rattle.theory.specs.Trees.{Tree}
use Rattle.stories.specs.declared.turn.Turn.{Turn}
use Rattle.stories.specs.declared.turn.Turn.TheVariants.{Ours, Theirs, Over}
use Rattle.stories.specs.Calls.{move, reply}
use Rattle.stories.specs.Game.{Game, our_pick, their_pick, step}
use Rattle.play.specs.Record.{done}
use Rattle.lines.specs.Reading.{on_line}
use Rattle.job.specs.declared.moves.Move.{Move}
use Rattle.runner.specs.Runs.{leaving, making}

done_leaves : {A : Type 0} (x : Result Tree Refusal) (a : A) → leaving (done x) a ≡ leaving x a
done_leaves (Ok o) a = refl
done_leaves (Err n) a = refl

abbrev by_turn : Game → Move → Turn → Result Game Refusal
by_turn g m t = elim t [
  | Ours ↦ leaving (our_pick g m.part m.option) (step g (move m.part m.option))
  | Theirs ↦ leaving (their_pick g m.part m.option) (step g (reply m.part m.option))
  | Over ↦ Err GameOver
]

module _ (g h : Game) (m : Move) (r : Result (Unit {0}) Refusal) where
  pub made_ours : Ours ≡ g.turn → r ≡ done (our_pick g m.part m.option) → h ≡ step g (move m.part m.option) → leaving r h ≡ making g m
  made_ours e p q = (λ i. leaving (p i) (q i)) ∙ (done_leaves (our_pick g m.part m.option) (step g (move m.part m.option)) ∙ ap (by_turn g m) e)

  pub made_theirs : Theirs ≡ g.turn → r ≡ done (their_pick g m.part m.option) → h ≡ step g (reply m.part m.option) → leaving r h ≡ making g m
  made_theirs e p q = (λ i. leaving (p i) (q i)) ∙ (done_leaves (their_pick g m.part m.option) (step g (reply m.part m.option)) ∙ ap (by_turn g m) e)

-- the line of a refusal
pub leaving_line : {A : Type 0} (r : Result (Unit {0}) Refusal) (n : ℕ) (a : A) → leaving (on_line r n) a ≡ on_line (leaving r a) n
leaving_line (Ok u) n a = refl
leaving_line (Err e) n a = refl
