-- The moves of a job are made exactly where they are read and each is a move in the story's sum.
use Rattle.std.proofs.Common.{◌≡◌, Some, None, Ok, Err, Option, Result, sym, refl, ap, ◌∙◌}
use Rattle.terms.specs.declared.side.Side.{Side}
use Rattle.terms.specs.declared.side.Mover.TheVariants as mover
use Rattle.terms.specs.declared.fault.Refusal.{Refusal}
use Rattle.terms.specs.declared.fault.Refusal.TheVariants.{GameOver}
use Rattle.theory.specs.Trees.{Tree}
use Rattle.stories.specs.Game.{Game, step}
use Rattle.stories.specs.Stories.{Story, our_side, Sum, played, sum_after, game_after}
use Rattle.stories.proofs.Places.{ok_same, err_ok}
use Rattle.stories.proofs.Fits.{Fit, fit_over, fit_ours, fit_theirs, Pick, our_pick_lem, their_pick_lem}
use Rattle.stories.proofs.Promise.{fits}
use Rattle.lines.specs.Reading.{times, Along, led}
use Rattle.job.specs.declared.moves.Move.{Move}
use Rattle.job.specs.Reads.{move_line, moves_lines}
use Rattle.runner.specs.Runs.{chain, leaving, making, play_move, moves_line, play_moves}
use Rattle.runner.specs.Stories.{call_by, Moves, tell}
use Rattle.runner.proofs.Steps.{Follows, answered, after, chained}

-- ---- one move
leaving_ok : (r : Result Tree Refusal) (g h : Game) → leaving r g ≡ Ok h → (o : Tree) × (r ≡ Ok o) × (h ≡ g)
leaving_ok (Ok o) g h e = (o, refl, sym (ok_same g h e))
leaving_ok (Err n) g h e = err_ok n h e

taken : (m : Option Sum) (r : Result Tree Refusal) (o : Tree) → Pick m r → r ≡ Ok o → (z : Sum) × (m ≡ Some z)
taken None r o p e = let n = p.not_taken refl in err_ok n.0 o (sym n.1 ∙ e)
taken (Some z) r o p e = (z, refl)

made : (m : Option Sum) (r : Result Tree Refusal) (g h : Game) → Pick m r → leaving r g ≡ Ok h → ((z : Sum) × (m ≡ Some z)) × (h ≡ g)
made m r g h p e = let u = leaving_ok r g h e in (taken m r u.0 p u.1, u.2)

moved_so : (s : Side) (g : Game) (z : Sum) (m : Move) (h : Game) → Fit s g z → making g m ≡ Ok h → ((y : Sum) × (played s z (call_by z.mover m) ≡ Some y)) × (h ≡ step g (call_by z.mover m))
moved_so s g z m h (fit_over xs w a d f e) q = err_ok GameOver h q
moved_so s g z m h (fit_ours xs a d f i r) q = made _ _ _ h (our_pick_lem s _ _ m.part m.option (fit_ours xs a d f i r)) q
moved_so s g z m h (fit_theirs xs a f i) q = made _ _ _ h (their_pick_lem s _ _ m.part m.option (fit_theirs xs a f i)) q

leaving_run : (r : Result Tree Refusal) (g : Game) (o : Tree) → r ≡ Ok o → leaving r g ≡ Ok g
leaving_run r g o e = ap (λ q. leaving q g) e

moves_so : (s : Side) (g : Game) (z : Sum) (m : Move) (y : Sum) → Fit s g z → played s z (call_by z.mover m) ≡ Some y → making g m ≡ Ok (step g (call_by z.mover m))
moves_so s g z m y (fit_over xs mover.Ours a d f e) q = let t = (our_pick_lem s _ _ m.part m.option (fit_over xs mover.Ours a d f e)).taken y q in err_ok GameOver t.0 t.1
moves_so s g z m y (fit_over xs mover.Theirs a d f e) q = let t = (their_pick_lem s _ _ m.part m.option (fit_over xs mover.Theirs a d f e)).taken y q in err_ok GameOver t.0 t.1
moves_so s g z m y (fit_ours xs a d f i r) q = let t = (our_pick_lem s _ _ m.part m.option (fit_ours xs a d f i r)).taken y q in leaving_run _ _ t.0 t.1
moves_so s g z m y (fit_theirs xs a f i) q = let t = (their_pick_lem s _ _ m.part m.option (fit_theirs xs a f i)).taken y q in leaving_run _ _ t.0 t.1

-- ---- in a story
move_plays : (st : Story) → Follows (play_move (game_after st)) move_line (Moves st) (λ m. game_after (tell st m))
unfolding play_move
move_plays st =
    answered move_line (making (game_after st)) (Moves st) (λ m. game_after (tell st m))
    (λ m h e. moved_so (our_side st) (game_after st) (sum_after st) m h (fits st) e)
    (λ m g. moves_so (our_side st) (game_after st) (sum_after st) m g.0 (fits st) g.1)

pub moves_play : (st : Story) → Follows (play_moves (game_after st)) moves_lines (Along Moves tell st) (λ ms. game_after (led tell st ms))
unfolding play_moves moves_lines
moves_play st =
    after moves_line (λ n. chain play_move n (game_after st)) (λ n. times n move_line) (Along Moves tell st) (λ ms. game_after (led tell st ms))
    (λ n. chained play_move move_line game_after Moves tell move_plays n st)
