use Rattle.std.proofs.Common.{refl}
use Rattle.game.proofs.Games.{one_present}
use Rattle.game.proofs.game.Game.present.Goals as goal

pub returns : goal.returns
returns c = one_present c.args.self.now _ refl refl
