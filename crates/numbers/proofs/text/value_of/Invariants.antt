use Rattle.std.proofs.Common.{◌≡◌, ◌≤◌, drop}
use Rattle.numbers.specs.Numbers.{natural, after, capped}
use Rattle.numbers.proofs.text.value_of.Given as goal

abbrev pub invariant-loop-b : goal.invariant-loop-b
invariant-loop-b l = (l.n ≤ 0xffff_ffff) × (capped (natural l.bytes) ≡ capped (after l.n (drop l.b-index l.bytes)))
