-- The ways through the run of a whole job.
use Rattle.std.proofs.Common.{◌≡◌, ℕ, ◌-◌, ◌<◌, List, [], ◌∷◌, length, Ok, Err, Result, sym, refl, ap, ◌∙◌, arith}
use Rattle.terms.specs.declared.fault.Fault.{Fault}
use Rattle.terms.specs.declared.fault.Refusal.TheVariants.{BytesAfterJob}
use Rattle.terms.specs.Refusals.{fault}
use Rattle.terms.specs.declared.side.Side.{Side}
use Rattle.terms.specs.declared.side.Mover.{Mover}
use Rattle.theory.specs.Trees.{Tree}
use Rattle.stories.specs.Game.{opening}
use Rattle.sheet.specs.declared.values.Sheet.{Sheet}
use Rattle.lines.specs.declared.reader.Reader.{Reader}
use Rattle.lines.specs.Reading.{State, at, Reading, then, done, ◌>>=◌, fits}
use Rattle.lines.proofs.Laws.{then_run, bind_run, bind_stops}
use Rattle.job.specs.Reads.{side_line, first_line}
use Rattle.runner.specs.Runs.{Outcome, seat_parts, play_moves, run_lines, finished, run_job}
use Rattle.runner.specs.Pages.{Sheeted, Lined}

-- ---- all lines
-- what is left of them after the side, the first mover and the parts
abbrev with_parts : Side → Mover → List Tree → Reading Outcome
with_parts side first trees = ◌>>=◌ (play_moves (opening trees side first)) (λ game. done (record { trees = trees; game = game }))

abbrev with_first : ℕ → ℕ → Side → Mover → Reading Outcome
with_first lent room side first = ◌>>=◌ (seat_parts lent room) (with_parts side first)

abbrev with_side : ℕ → ℕ → Side → Reading Outcome
with_side lent room side = ◌>>=◌ first_line (with_first lent room side)

module _ (lent room : ℕ) (s : State) where
  pub side_stops : (d : Fault) → Err d ≡ side_line s → run_lines lent room s ≡ Err d
  unfolding run_lines
  side_stops d e = sym (bind_stops side_line (with_side lent room) s d e)

  module _ (a : Side) (t : State) (side : Ok (a, t) ≡ side_line s) where
    side_goes : run_lines lent room s ≡ with_side lent room a t
    unfolding run_lines
    side_goes = sym (bind_run side_line (with_side lent room) s a t side)

    pub first_stops : (d : Fault) → Err d ≡ first_line t → run_lines lent room s ≡ Err d
    first_stops d e = side_goes ∙ sym (bind_stops first_line (with_first lent room a) t d e)

    module _ (b : Mover) (u : State) (first : Ok (b, u) ≡ first_line t) where
      first_goes : run_lines lent room s ≡ with_first lent room a b u
      first_goes = side_goes ∙ sym (bind_run first_line (with_first lent room a) t b u first)

      pub parts_stop : (d : Fault) → Err d ≡ seat_parts lent room u → run_lines lent room s ≡ Err d
      parts_stop d e = first_goes ∙ sym (bind_stops (seat_parts lent room) (with_parts a b) u d e)

      pub lined : (ts : List Tree) (v : State) → Ok (ts, v) ≡ seat_parts lent room u → (r : Result Sheet Fault) (z : Reader) → Sheeted r z (play_moves (opening ts a b) v) → Lined r z ts (run_lines lent room s)
      lined ts v e (Ok x) z h = (record { trees = ts; game = h.0 }, first_goes ∙ (sym (bind_run (seat_parts lent room) (with_parts a b) u ts v e) ∙ then_run _ _ _ h.1), h.2, refl)
      lined ts v e (Err d) z h = first_goes ∙ (sym (bind_run (seat_parts lent room) (with_parts a b) u ts v e) ∙ sym (bind_stops (play_moves (opening ts a b)) (λ game. done (record { trees = ts; game = game })) v d (sym h)))

-- ---- the whole text
module _ (lent room : ℕ) (bytes : List ℕ) where
  pub length_stops : (d : Fault) → Err d ≡ fits bytes → run_job lent room bytes ≡ Err d
  unfolding run_job
  length_stops d e = ap (λ r. then {A = Unit {0}} r (λ u. then (run_lines lent room (at bytes 1)) finished)) (sym e)

  module _ (fit : Ok tt ≡ fits bytes) where
    begins : (r : Result (Outcome × State) Fault) → run_lines lent room (at bytes 1) ≡ r → run_job lent room bytes ≡ then r finished
    unfolding run_job
    begins r e = ap (λ r. then {A = Unit {0}} r (λ u. then (run_lines lent room (at bytes 1)) finished)) (sym fit) ∙ ap (λ r. then r finished) e

    pub lines_stop : (d : Fault) → run_lines lent room (at bytes 1) ≡ Err d → run_job lent room bytes ≡ Err d
    lines_stop d e = begins (Err d) e

    pub bytes_left : (x : Outcome) (t : State) → run_lines lent room (at bytes 1) ≡ Ok (x, t) → 0 < length t.rest → run_job lent room bytes ≡ Err (fault BytesAfterJob (t.line - 1))
    bytes_left x t e h = begins (Ok (x, t)) e ∙ go t.rest t.line h
      where
        go : (r : List ℕ) (n : ℕ) → 0 < length r → finished (x, at r n) ≡ Err (fault BytesAfterJob (n - 1))
        go [] n h = absurd (omega arith)
        go (b ∷ bs) n h = refl

    pub run_ends : (x : Outcome) (t : State) → run_lines lent room (at bytes 1) ≡ Ok (x, t) → length t.rest ≡ 0 → run_job lent room bytes ≡ Ok x
    run_ends x t e h = begins (Ok (x, t)) e ∙ go t.rest t.line h
      where
        go : (r : List ℕ) (n : ℕ) → length r ≡ 0 → finished (x, at r n) ≡ Ok x
        go [] n h = refl
        go (b ∷ bs) n h = absurd (omega arith)
