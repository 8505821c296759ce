use Rattle.std.proofs.Common.{◌≡◌, ◌-◌}
use Rattle.thermographs.specs.Near.{best}
use Rattle.thermographs.proofs.Draw.{Drawn}
use Rattle.thermographs.proofs.strip.Strip.draw.Given as goal

abbrev pub invariant-loop-t : goal.invariant-loop-t
invariant-loop-t l = record {
  same : l.route.places.ghost_name ≡ l.initial.route.places.ghost_name;
  drawn : Drawn (best l.side l.told l.options) l.temperature l.initial.route.places.now l.route l.t;
}

abbrev pub decreases-loop-t : goal.decreases-loop-t
decreases-loop-t l = l.temperature - l.t
