use Rattle.std.proofs.Common.{arith}
use Rattle.std.proofs.lemmas.Int.{ints}
use Rattle.game.proofs.Games.{gains}
use Rattle.game.proofs.game.Game.gain.Goals as goal

pub returns-in-Some : goal.returns-in-Some
returns-in-Some c = gains c.args.self.now c.in-Some.part _ c.in-Some.is (omega (arith, ints, c.gain_in.ensures))
