-- What may be asked of a game: our move and their reply, each in a part and by an option there, and the three questions.
use Rattle.std.specs.Prelude.{ℕ}

pub data Question : Type 0 where
  advice floor bracket : Question

pub data Call : Type 0 where
  move : ℕ → ℕ → Call
  reply : ℕ → ℕ → Call
  ask : Question → Call
