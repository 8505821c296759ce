-- What the code holds, as the definitions speak of it: what a slice holds in place of the slice.
use Rattle.std.specs.Prelude.{◌≡◌, ℕ, List, [], Some, None, Ok, Err, Option, Result, IfSome}
use Rattle.std.specs.Borrow.{Bor}
use Rattle.std.specs.Iterator.{YieldsFirstBy}
use Rattle.terms.specs.declared.fault.Fault.{Fault}
use Rattle.numbers.specs.declared.text.Text.{Text}
use Rattle.lines.specs.declared.key.Line.{Line}
use Rattle.lines.specs.declared.pieces.Pieces.{Pieces}
use Rattle.lines.specs.declared.reader.Reader.{Reader}
use Rattle.lines.specs.Reading.{State, at}
use Rattle.lines.specs.Lines.{Said, said, key_of, value_of}
use Rattle.lines.specs.Commas.{pieces}

abbrev pub seen : Reader → State
seen r = at r.rest.now r.line

abbrev pub began : Result Reader Fault → Result State Fault
began (Ok r) = Ok (seen r)
began (Err e) = Err e

-- what a reading gave, and where it left the text
abbrev pub gave : {A : Type 0} → Result A Fault → Reader → Result (A × State) Fault
gave (Ok a) r = Ok (a, seen r)
gave (Err e) r = Err e

abbrev pub gave_line : Result Line Fault → Reader → Result (Said × State) Fault
gave_line (Ok l) r = Ok (said (key_of l) (value_of l).bytes.now (value_of l).line, seen r)
gave_line (Err e) r = Err e

abbrev pub gave_value : Result Text Fault → Reader → Result ((List ℕ × ℕ) × State) Fault
gave_value (Ok v) r = Ok ((v.bytes.now, v.line), seen r)
gave_value (Err e) r = Err e

abbrev pub two : Option (Bor (List ℕ) × Bor (List ℕ)) → Option (List ℕ × List ℕ)
two None = None
two (Some p) = Some (p.0.now, p.1.now)

-- the pieces that are left of a text
abbrev pub rest_pieces : Option (Bor (List ℕ)) → List (List ℕ)
rest_pieces None = []
rest_pieces (Some text) = pieces text.now

abbrev pub left : Pieces → List (List ℕ)
left p = rest_pieces p.rest

-- a call gives the first of them, on the text's line
abbrev pub GivesPiece : Pieces → Option Text → Pieces → Type 0
GivesPiece p r q = YieldsFirstBy (λ t. t.bytes.now) left p r q × IfSome r (λ t. t.line ≡ p.line) × (q.line ≡ p.line)
