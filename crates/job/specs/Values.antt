-- The values of the lines that are no part's.
use Rattle.std.specs.Prelude.{ℕ, List, [], ◌∷◌, Some, None, Option}
use Rattle.terms.specs.declared.side.Side.{Side}
use Rattle.terms.specs.declared.side.Side.TheVariants.{Left, Right}
use Rattle.terms.specs.declared.side.Mover.{Mover}
use Rattle.terms.specs.declared.side.Mover.TheVariants.{Ours, Theirs}
use Rattle.numbers.specs.Numbers.{upto}
use Rattle.lines.specs.Keys.{named_in}
use Rattle.lines.specs.Reading.{cut}
use Rattle.job.specs.declared.kind.Kind.{Kind}
use Rattle.job.specs.declared.kind.Kind.TheVariants as kinds
use Rattle.job.specs.declared.moves.Move.{Move}
use Rattle.job.specs.Grammar.{side_text, first_text, kind_text, last_part, last_option}

-- the one that has this word
abbrev pub side_of : List ℕ → Option Side
side_of v = named_in side_text (Left ∷ Right ∷ []) v

abbrev pub first_of : List ℕ → Option Mover
first_of v = named_in first_text (Ours ∷ Theirs ∷ []) v

abbrev pub kind_of : List ℕ → Option Kind
kind_of v = named_in kind_text (kinds.Tree ∷ kinds.Snort ∷ []) v

abbrev pub both_of : Option ℕ → Option ℕ → Option Move
both_of None o = None
both_of (Some p) None = None
both_of (Some p) (Some o) = Some (record { part = p; option = o })

abbrev pub move_parts : Option (List ℕ × List ℕ) → Option Move
move_parts None = None
move_parts (Some (l, r)) = both_of (upto last_part l) (upto last_option r)

-- part,option
abbrev pub move_of : List ℕ → Option Move
move_of v = move_parts (cut 44 v)
