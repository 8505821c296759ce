-- The text of a sheet.
use Rattle.std.specs.Prelude.{ℕ, ◌+◌, cond, List, [], ◌∷◌, ◌++◌, length, take, drop, Some, None, Ok, Err, codes, Option, Result, nat_le}
use Rattle.terms.specs.declared.side.Side.{Side}
use Rattle.terms.specs.declared.side.Side.TheVariants.{Left, Right}
use Rattle.terms.specs.declared.fault.Fault.{Fault}
use Rattle.terms.specs.declared.fault.Refusal.TheVariants.{OutputTooShort}
use Rattle.terms.specs.Refusals.{fault}
use Rattle.stories.specs.declared.turn.Turn.{Turn}
use Rattle.stories.specs.declared.turn.Turn.TheVariants.{Ours, Theirs, Over}
use Rattle.numbers.specs.Numbers.{written, decimal}
use Rattle.sheet.specs.declared.values.PartLines.{PartLines}
use Rattle.sheet.specs.declared.values.Sheet.{Sheet}
use Rattle.sheet.specs.Page.{line}

abbrev pub side_text : Side → List ℕ
side_text Left = codes "left"
side_text Right = codes "right"

abbrev pub turn_text : Turn → List ℕ
turn_text Ours = codes "ours"
turn_text Theirs = codes "theirs"
turn_text Over = codes "over"

abbrev pub heat_text : Option ℕ → List ℕ
heat_text None = codes "ended"
heat_text (Some t) = written t

abbrev pub advice_text : Option (ℕ × ℕ) → List ℕ
advice_text None = codes "none"
advice_text (Some (part, option)) = written part ++ (44 ∷ written option)

unfoldable pub heat_line : Option ℕ → List ℕ
heat_line heat = line (codes "heat=") (heat_text heat)

unfoldable pub advice_line : Option (ℕ × ℕ) → List ℕ
advice_line advice = line (codes "advice=") (advice_text advice)

-- the three lines of a part
unfoldable pub part_text : ℕ → PartLines → List ℕ
part_text i p =
    line (codes "part=") (written i)
    ++ (line (codes "mean=") (decimal p.mean)
    ++ heat_line p.heat)

unfoldable pub parts_text : ℕ → List PartLines → List ℕ
parts_text i [] = []
parts_text i (p ∷ ps) = part_text i p ++ parts_text (i + 1) ps

unfoldable pub head_text : Sheet → List ℕ
head_text s =
    line (codes "sheet=") (codes "1")
    ++ (line (codes "side=") (side_text s.side)
    ++ (line (codes "turn=") (turn_text s.turn)
    ++ line (codes "parts=") (written s.count)))

unfoldable pub foot_text : Sheet → List ℕ
foot_text s =
    line (codes "ambient=") (written s.ambient)
    ++ (line (codes "floor=") (decimal s.floor)
    ++ (line (codes "low=") (decimal s.low)
    ++ (line (codes "high=") (decimal s.high)
    ++ advice_line s.advice)))

unfoldable pub sheet_text : Sheet → List ℕ
sheet_text s = head_text s ++ (parts_text 0 (take s.count s.parts) ++ foot_text s)

-- a text written at the start of a buffer: how long it is, or that it does not fit
abbrev pub answer : List ℕ → List ℕ → Result ℕ Fault
answer text old = cond (nat_le (length text) (length old)) (Ok (length text)) (Err (fault OutputTooShort 0))

abbrev pub written_over : List ℕ → List ℕ → List ℕ
written_over text old = cond (nat_le (length text) (length old)) (text ++ drop (length text) old) old
