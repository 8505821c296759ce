-- The steps of reading a part and seating it.
use Rattle.std.proofs.Common.{◌≡◌, ℕ, ◌-◌, List, Ok, Err, Result, sym, refl, ap, ◌∙◌}
use Rattle.terms.specs.declared.fault.Fault.{Fault}
use Rattle.terms.specs.declared.fault.Refusal.{Refusal}
use Rattle.theory.specs.Trees.{Tree}
use Rattle.lines.specs.declared.reader.Reader.{Reader}
use Rattle.lines.specs.declared.key.Key.TheVariants as key
use Rattle.lines.specs.Reading.{State, then, on_line}
use Rattle.lines.specs.Lines.{entry, form}
use Rattle.lines.specs.Seen.{seen, gave}
use Rattle.tree_text.specs.Rows.{Row, tree_lines}
use Rattle.map_text.specs.Maps.{Map, read_map}
use Rattle.job.specs.declared.kind.Kind.{Kind}
use Rattle.job.specs.declared.kind.Kind.TheVariants as kinds
use Rattle.job.specs.Grammar.{Part, tree, snort}
use Rattle.job.specs.Values.{kind_of}
use Rattle.job.specs.Reads.{body_lines, part_lines}
use Rattle.meanings.specs.Meaning.{meaning}
use Rattle.runner.specs.Runs.{there, seating, seat_body, seat_part}

-- what is answered after the lines that a reader has read
pub gave_there : {A : Type 0} (r : Result A Fault) (x : Result A Refusal) (t : Reader) → r ≡ on_line x (t.line - 1) → gave r t ≡ there x (seen t)
gave_there {A} r x t e = gave_then r ∙ ap (λ q. then q (λ a. Ok (a, seen t))) e
  where
    gave_then : (r : Result A Fault) → gave r t ≡ then r (λ a. Ok (a, seen t))
    gave_then (Ok a) = refl
    gave_then (Err e) = refl

module _ (lent room : ℕ) (held : List Tree) (s : State) where
  pub tree_stops : (d : Fault) → tree_lines lent room s ≡ Err d → Err d ≡ seat_body lent room held kinds.Tree s
  unfolding seat_body
  tree_stops d e = ap (λ r. then {A = Part × State} (then r (λ q. Ok (tree q.0, q.1))) (λ q. there (seating held (meaning q.0)) q.1)) (sym e)

  pub tree_goes : (rs : List Row) (t : State) → tree_lines lent room s ≡ Ok (rs, t) → there (seating held (meaning (tree rs))) t ≡ seat_body lent room held kinds.Tree s
  unfolding seat_body
  tree_goes rs t e = ap (λ r. then {A = Part × State} (then r (λ q. Ok (tree q.0, q.1))) (λ q. there (seating held (meaning q.0)) q.1)) (sym e)

  pub map_stops : (d : Fault) → read_map s ≡ Err d → Err d ≡ seat_body lent room held kinds.Snort s
  unfolding seat_body
  map_stops d e = ap (λ r. then {A = Part × State} (then r (λ q. Ok (snort q.0, q.1))) (λ q. there (seating held (meaning q.0)) q.1)) (sym e)

  pub map_goes : (m : Map) (t : State) → read_map s ≡ Ok (m, t) → there (seating held (meaning (snort m))) t ≡ seat_body lent room held kinds.Snort s
  unfolding seat_body
  map_goes m t e = ap (λ r. then {A = Part × State} (then r (λ q. Ok (snort q.0, q.1))) (λ q. there (seating held (meaning q.0)) q.1)) (sym e)

  pub kind_stops : (d : Fault) → Err d ≡ entry key.Rules (form kind_of) s → Err d ≡ seat_part lent room held s
  unfolding seat_part part_lines
  kind_stops d e = ap (λ r. then {A = Part × State} (then {A = Kind × State} r (λ q. body_lines lent room q.0 q.1)) (λ q. there (seating held (meaning q.0)) q.1)) e

  pub kind_goes : (k : Kind) (t : State) → Ok (k, t) ≡ entry key.Rules (form kind_of) s → seat_body lent room held k t ≡ seat_part lent room held s
  unfolding seat_body seat_part part_lines
  kind_goes k t e = ap (λ r. then {A = Part × State} (then {A = Kind × State} r (λ q. body_lines lent room q.0 q.1)) (λ q. there (seating held (meaning q.0)) q.1)) e
