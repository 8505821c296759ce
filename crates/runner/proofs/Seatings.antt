-- The parts of a job are seated exactly where they are read and each fits beside those before it.
use Rattle.std.proofs.Common.{◌≡◌, ℕ, List, [], ◌∷◌, map, Some, None, Ok, Err, Option, Result, sym, refl, ap}
use Rattle.terms.specs.declared.fault.Refusal.{Refusal}
use Rattle.theory.specs.Trees.{Tree}
use Rattle.stories.specs.Seatings.{cause, seated}
use Rattle.stories.proofs.Places.{ok_same, err_ok}
use Rattle.lines.specs.Reading.{times, Along, led}
use Rattle.job.specs.Grammar.{Part}
use Rattle.job.specs.Reads.{part_lines, parts_lines}
use Rattle.meanings.specs.Meaning.{meaning}
use Rattle.runner.specs.Runs.{chain, seating, seat_part, part_count, seat_parts}
use Rattle.runner.specs.Stories.{Fits, place}
use Rattle.runner.proofs.Steps.{Follows, answered, after, chained}

seating_ok : (held : List Tree) (p : Part) (ts : List Tree) → seating held (meaning p) ≡ Ok ts → Fits held p × (ts ≡ place held p)
seating_ok held p ts e = go (cause held (meaning p)) refl e
  where
    go : (o : Option Refusal) → cause held (meaning p) ≡ o → ◌≡◌ {A = Result (List Tree) Refusal} (elim o [ None ↦ Ok (place held p) | Some r ↦ Err r ]) (Ok ts) → Fits held p × (ts ≡ place held p)
    go None c e = (c, sym (ok_same (place held p) ts e))
    go (Some r) c e = err_ok r ts e

seating_run : (held : List Tree) (p : Part) → Fits held p → seating held (meaning p) ≡ Ok (place held p)
seating_run held p c = let f : Option Refusal → Result (List Tree) Refusal = λ o. elim o [ None ↦ Ok (place held p) | Some r ↦ Err r ] in ap f c

-- the trees after some parts are those after what they mean
pub led_seated : (held : List Tree) (ps : List Part) → led place held ps ≡ seated held (map meaning ps)
led_seated held [] = refl
led_seated held (p ∷ ps) = led_seated (place held p) ps

part_seats : (lent room : ℕ) (held : List Tree) → Follows (seat_part lent room held) (part_lines lent room) (Fits held) (place held)
unfolding seat_part
part_seats lent room held = answered (part_lines lent room) (λ p. seating held (meaning p)) (Fits held) (place held) (seating_ok held) (seating_run held)

pub parts_seat : (lent room : ℕ) → Follows (seat_parts lent room) (parts_lines lent room) (Along Fits place []) (led place [])
unfolding seat_parts parts_lines
parts_seat lent room =
    after part_count (λ n. chain (seat_part lent room) n []) (λ n. times n (part_lines lent room)) (Along Fits place []) (led place [])
    (λ n. chained (seat_part lent room) (part_lines lent room) (λ held. held) Fits place (part_seats lent room) n [])
