-- The lines of a job.
use Rattle.std.specs.Prelude.{ℕ, ◌+◌, Bool, cond, List, [], ◌∷◌, ◌++◌, Some, None, Ok, Err, codes, Option, Result, ◌==◌}
use Rattle.terms.specs.declared.fault.Fault.{Fault}
use Rattle.terms.specs.declared.fault.Refusal.TheVariants.{WrongLine}
use Rattle.terms.specs.Refusals.{fault}
use Rattle.numbers.specs.Numbers.{judged}
use Rattle.numbers.specs.declared.text.Text.{Text}
use Rattle.lines.specs.declared.key.Key.{Key}
use Rattle.lines.specs.declared.key.Key.TheVariants as keyed
use Rattle.lines.specs.declared.key.Line.{Line}
use Rattle.lines.specs.declared.key.Line.TheVariants as lined
use Rattle.lines.specs.Keys.{name, named}
use Rattle.lines.specs.Reading.{State, at, Reading, then, cut, starts}

-- the text of a line: key=value and byte 10
unfoldable pub line : Key → List ℕ → List ℕ
line k value = name k ++ (61 ∷ (value ++ (10 ∷ [])))

-- the key and the value of a line
abbrev pub key_of : Line → Key
key_of (lined.Side v) = keyed.Side
key_of (lined.First v) = keyed.First
key_of (lined.Parts v) = keyed.Parts
key_of (lined.Rules v) = keyed.Rules
key_of (lined.Rows v) = keyed.Rows
key_of (lined.End v) = keyed.End
key_of (lined.Left v) = keyed.Left
key_of (lined.Right v) = keyed.Right
key_of (lined.Points v) = keyed.Points
key_of (lined.Edges v) = keyed.Edges
key_of (lined.Moves v) = keyed.Moves
key_of (lined.Move v) = keyed.Move

abbrev pub value_of : Line → Text
value_of (lined.Side v) = v
value_of (lined.First v) = v
value_of (lined.Parts v) = v
value_of (lined.Rules v) = v
value_of (lined.Rows v) = v
value_of (lined.End v) = v
value_of (lined.Left v) = v
value_of (lined.Right v) = v
value_of (lined.Points v) = v
value_of (lined.Edges v) = v
value_of (lined.Moves v) = v
value_of (lined.Move v) = v

-- what a line says: its key, its value and its number
pub record Said : Type 0 where
  pub key : Key
  pub value : List ℕ
  pub number : ℕ

abbrev pub said : Key → List ℕ → ℕ → Said
said k v n = record { key = k; value = v; number = n }

-- the line that stands next: it is refused where no key has its name, where it has no =, and where it has no end
abbrev pub with_key : Option Key → List ℕ → List ℕ → ℕ → Result (Said × State) Fault
with_key None v rest n = Err (fault WrongLine n)
with_key (Some k) v rest n = Ok (said k v n, at rest (n + 1))

abbrev pub with_value : Option (List ℕ × List ℕ) → List ℕ → ℕ → Result (Said × State) Fault
with_value None rest n = Err (fault WrongLine n)
with_value (Some (k, v)) rest n = with_key (named k) v rest n

abbrev pub with_end : Option (List ℕ × List ℕ) → ℕ → Result (Said × State) Fault
with_end None n = Err (fault WrongLine n)
with_end (Some (text, rest)) n = with_value (cut 61 text) rest n

unfoldable pub next : Reading Said
next s = with_end (cut 10 s.rest) s.line

abbrev pub valued : Option (List ℕ) → List ℕ → ℕ → Result ((List ℕ × ℕ) × State) Fault
valued None rest n = Err (fault WrongLine n)
valued (Some v) rest n = Ok ((v, n), at rest (n + 1))

-- what follows a word at the start of a text
abbrev pub strip : List ℕ → List ℕ → Option (List ℕ)
strip [] xs = Some xs
strip (p ∷ ps) [] = None
strip (p ∷ ps) (x ∷ xs) = cond (x == p) (strip ps xs) None

abbrev pub fielded : List ℕ → Option (List ℕ × List ℕ) → ℕ → Result ((List ℕ × ℕ) × State) Fault
fielded word None n = Err (fault WrongLine n)
fielded word (Some (text, rest)) n = valued (strip word text) rest n

-- the value of the next line, which begins with the key and =, and the line's number
unfoldable pub field : Key → Reading (List ℕ × ℕ)
field k s = fielded (name k ++ codes "=") (cut 10 s.rest) s.line

-- a line of which the value is read by a rule of its own, which knows the line's number
abbrev pub entry : {A : Type 0} → Key → (List ℕ → ℕ → Result A Fault) → Reading A
entry k value s = then (field k s) (λ q. then (value q.0.0 q.0.1) (λ a. Ok (a, q.1)))

-- a value that has its form, or is refused for it
abbrev pub form : {A : Type 0} → (List ℕ → Option A) → List ℕ → ℕ → Result A Fault
form read v n = judged (read v) n

-- whether the next line begins with the key and =
abbrev pub is_next : Key → State → Bool
is_next k s = starts (name k ++ codes "=") s.rest

-- one of two readings, by the key that stands next
abbrev pub either : {A : Type 0} → Key → Reading A → Reading A → Reading A
either k p q s = cond (is_next k s) (p s) (q s)
