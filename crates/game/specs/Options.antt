-- The positions to which the options of a position lead.
use Rattle.std.specs.Prelude.{◌≡◌, ℕ, Some, None, Option}
use Rattle.terms.specs.declared.side.Side.{Side}
use Rattle.theory.specs.Trees.{at, options}
use Rattle.bank.specs.Positions.{position_of}
use Rattle.bank.specs.declared.position.Position.{Position}

-- q is the position in the same part to which the side's option k leads from p
pub record Leads (p : Position) (s : Side) (k : ℕ) (q : Position) : Type 0 where
  pub bank : q.bank.now ≡ p.bank.now
  pub part : q.part ≡ p.part
  pub option : at (options (position_of p) s) k ≡ Some (position_of q)

-- or there is none
abbrev pub OptionIs : Position → Side → ℕ → Option Position → Type 0
OptionIs p s k (Some q) = Leads p s k q
OptionIs p s k None = at (options (position_of p) s) k ≡ None
