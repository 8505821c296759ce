-- What the code holds of an edge: the texts of its two numbers.
use Rattle.std.specs.Prelude.{◌≡◌, ℕ, Bool, false, cond, not, ◌&&◌, ◌||◌, List, ◌∷◌, Some, None, Ok, Err, Option, Result}
use Rattle.terms.specs.declared.fault.Fault.{Fault}
use Rattle.terms.specs.declared.fault.Refusal.TheVariants.{WrongForm}
use Rattle.terms.specs.Refusals.{fault}
use Rattle.numbers.specs.Numbers.{less_text}
use Rattle.map_text.specs.declared.pair.Pair.{Pair}
use Rattle.map_text.specs.Maps.{Edge, ends, before_edge, rising}

-- the edge that a pair of texts says
abbrev pub said : Pair → Option Edge
said p = ends (Some (p.from.bytes.now, p.to.bytes.now))

-- whether one pair stands before another, by their texts
abbrev pub before_text : Pair → Pair → Bool
before_text p q =
    let a = p.from.bytes.now in
    let b = q.from.bytes.now in
    less_text a b || (not (less_text b a) && less_text p.to.bytes.now q.to.bytes.now)

-- a pair was read, and says this edge; or there is no edge, and the form is wrong
abbrev pub Paired : Result Pair Fault → Option Edge → ℕ → Type 0
Paired (Ok p) o n = o ≡ said p
Paired (Err d) o n = (o ≡ None) × (d ≡ fault WrongForm n)

-- the edge before, if there is one
abbrev pub last_said : Option Pair → Option Edge
last_said None = None
last_said (Some p) = said p

-- an edge that stands after the one before it, if there is one
abbrev pub after_edge : Option Edge → Option Edge → Option Edge
after_edge o None = None
after_edge None (Some f) = Some f
after_edge (Some e) (Some f) = cond (before_edge e f) (Some f) None

-- whether some edges rise on from the one before them
abbrev pub goes_on : Option Edge → Option (List Edge) → Bool
goes_on o None = false
goes_on None (Some es) = rising es
goes_on (Some e) (Some es) = rising (e ∷ es)

abbrev pub formed : Bool → ℕ → Result (Unit {0}) Fault
formed t n = cond t (Ok tt) (Err (fault WrongForm n))
