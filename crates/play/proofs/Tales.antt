-- What the calls of a play do to the story behind it.
use Rattle.std.proofs.Common.{List, [], Err, sym, refl, ap, ◌∙◌, subst, arith}
use Rattle.terms.specs.declared.side.Side.{Side}
use Rattle.theory.specs.Trees.{Tree, options}
use Rattle.stories.specs.Seatings.{seated}
use Rattle.stories.specs.Calls.{move, reply}
use Rattle.stories.specs.Game.{Game, near, floor_of, bracket_of, step, our_pick, their_pick, Advises, AdviceIs, Settled}
use Rattle.stories.specs.Stories.{Story, game_after}
use Rattle.stories.specs.Promise.{SureFloor, SureBracket}
use Rattle.stories.proofs.Seats.{seated_few}
use Rattle.stories.proofs.Promise.{sure_floor, sure_bracket, settled_after}
use Rattle.play.specs.declared.record.Play.{Play}
use Rattle.play.specs.Record.{done}
use Rattle.play.specs.Standing.{game_of}
use Rattle.play.specs.Behind.{Behind, Told, OpeningTold, PlayTold}

pub opening_told_lem : OpeningTold
opening_told_lem ms l s first h y O e = record { side = refl; held = refl; game = sym (O (seated [] ms) s (seated_few [] ms (omega arith)) e) }

module _ (st : Story) (ts : List Tree) (s : Side) (y : Play) (B : Behind st ts s y) where
  settled : Settled (game_of ts s y)
  settled = subst Settled B.game (settled_after st)

  back : (P : Game → Type 0) → P (game_of ts s y) → P (game_after st)
  back P h = subst P (sym B.game) h

  told : Told st ts s y
  told = record {
    moved = λ l z r p k M W.
        let (g, a) = M ts s p k W in (
          record { side = B.side; held = B.held; game = ap (λ h. step h (move p k)) B.game ∙ sym g },
          a ∙ ap (λ h. done (our_pick h p k)) (sym B.game),
        );
    replied = λ l z r p k M W.
        let (g, a) = M ts s p k W in (
          record { side = B.side; held = B.held; game = ap (λ h. step h (reply p k)) B.game ∙ sym g },
          a ∙ ap (λ h. done (their_pick h p k)) (sym B.game),
        );
    asked = λ q. record { side = B.side; held = B.held; game = B.game };
    floor = λ nears gain v F n g. subst (SureFloor st) (ap floor_of B.game ∙ sym (F ts s settled n g)) (sure_floor st);
    bracket = λ means h b F m q. subst (SureBracket st) (ap bracket_of B.game ∙ sym (F ts settled m q)) (sure_bracket st);
    refused = λ h n P H. back (λ g. AdviceIs g (Err n)) (P ts s settled H);
    advised = λ h p k x nears P H e n O.
        let (t, m) = P ts s settled H in
        back (λ g. Advises g p k) (record { turn = t; main = m; tree = x; there = e; option = O (options x s) (near s y.ambient) n });
  }

pub play_told_lem : PlayTold
play_told_lem st ts s y B = told st ts s y B
