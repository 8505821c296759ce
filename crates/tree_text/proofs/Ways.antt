-- The ways of a row, by its first line.
use Rattle.std.proofs.Common.{◌≡◌, ℕ, List, ℤ, Ok, Err, Result, refl, ap, ◌∙◌, arith}
use Rattle.terms.specs.declared.fault.Fault.{Fault}
use Rattle.terms.specs.declared.fault.Refusal.TheVariants.{WrongLine}
use Rattle.terms.specs.Refusals.{fault}
use Rattle.theory.specs.Limits.{score_limit}
use Rattle.numbers.specs.Numbers.{judged, within}
use Rattle.lines.specs.declared.key.Key.TheVariants as key
use Rattle.lines.specs.Reading.{State, then}
use Rattle.lines.specs.Lines.{Said, said, next, form}
use Rattle.lines.proofs.Fields.{next_stops, other_key, same_key}
use Rattle.lines.proofs.Laws.{entry_stops}
use Rattle.lines.proofs.Turns.{next_is, next_other, either_first, either_second, either_same}
use Rattle.tree_text.specs.Rows.{Place, Row, leaf, fork, leaf_line, fork_lines, fork_from, row_lines, list_of, list_line, behind}

left_end : key.Left ≡ key.End → ⊥
left_end e = let z : ◌≡◌ {A = ℕ} 0 1 = cc in omega arith

pub row_stops : (last room : ℕ) (p : Place) (s : State) (e : Fault) → Err e ≡ next s → Err e ≡ row_lines last room p s
unfolding row_lines
row_stops last room p s e q =
    either_same key.End leaf_line (fork_lines last room p) s (Err e)
    (ap (λ r. then r (λ q. Ok (leaf q.0, q.1))) (entry_stops key.End (form (within score_limit)) s e (next_stops key.End s e q)))
    (ap (λ r. then r (λ q. then (list_line key.Right last room (behind p q.0) q.1) (λ w. Ok (fork q.0 w.0, w.1)))) (entry_stops key.Left (list_of last room p) s e (next_stops key.Left s e q)))

pub row_leaf : (last room : ℕ) (p : Place) (s : State) (v : List ℕ) (n : ℕ) (t : State) → Ok (said key.End v n, t) ≡ next s → then (judged (within score_limit v) n) (λ z. Ok (leaf z, t)) ≡ row_lines last room p s
unfolding row_lines
row_leaf last room p s v n t e =
    go (judged (within score_limit v) n)
    ∙ (ap (λ r. then {A = ℤ × State} (then r (λ q. then (judged (within score_limit q.0.0) q.0.1) (λ a. Ok (a, q.1)))) (λ q. Ok (leaf q.0, q.1))) (same_key key.End s (said key.End v n) t e refl)
    ∙ either_first key.End leaf_line (fork_lines last room p) s (next_is s (said key.End v n) t e))
  where
    go : (r : Result ℤ Fault) → then {B = Row × State} r (λ z. Ok (leaf z, t)) ≡ then {A = ℤ × State} (then r (λ a. Ok (a, t))) (λ q. Ok (leaf q.0, q.1))
    go (Ok a) = refl
    go (Err d) = refl

pub row_fork : (last room : ℕ) (p : Place) (s : State) (v : List ℕ) (n : ℕ) (t : State) → Ok (said key.Left v n, t) ≡ next s → fork_from last room p v n t ≡ row_lines last room p s
unfolding row_lines
row_fork last room p s v n t e =
    go (list_of last room p v n)
    ∙ (ap (λ r. then {A = List ℕ × State} (then r (λ q. then (list_of last room p q.0.0 q.0.1) (λ a. Ok (a, q.1)))) (λ q. then (list_line key.Right last room (behind p q.0) q.1) (λ w. Ok (fork q.0 w.0, w.1)))) (same_key key.Left s (said key.Left v n) t e refl)
    ∙ either_second key.End leaf_line (fork_lines last room p) s (next_other key.End s (said key.Left v n) t e left_end))
  where
    go : (r : Result (List ℕ) Fault) → then {B = Row × State} r (λ left. then (list_line key.Right last room (behind p left) t) (λ q. Ok (fork left q.0, q.1))) ≡ then {A = List ℕ × State} (then r (λ a. Ok (a, t))) (λ q. then (list_line key.Right last room (behind p q.0) q.1) (λ w. Ok (fork q.0 w.0, w.1)))
    go (Ok a) = refl
    go (Err d) = refl

pub row_wrong : (last room : ℕ) (p : Place) (s : State) (q : Said) (t : State) → Ok (q, t) ≡ next s → (q.key ≡ key.End → ⊥) → (q.key ≡ key.Left → ⊥) → Err (fault WrongLine q.number) ≡ row_lines last room p s
unfolding row_lines
row_wrong last room p s q t e ne nl =
    ap (λ r. then r (λ q. then (list_line key.Right last room (behind p q.0) q.1) (λ w. Ok (fork q.0 w.0, w.1)))) (entry_stops key.Left (list_of last room p) s (fault WrongLine q.number) (other_key key.Left s q t e nl))
    ∙ either_second key.End leaf_line (fork_lines last room p) s (next_other key.End s q t e ne)
