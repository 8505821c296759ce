-- The reading of a map, line by line.
use Rattle.std.proofs.Common.{◌≡◌, ℕ, false, ◌||◌, List, Ok, Err, Result, sym, ap, ◌∙◌}
use Rattle.terms.specs.declared.fault.Fault.{Fault}
use Rattle.lines.specs.declared.key.Key.{Key}
use Rattle.lines.specs.declared.key.Key.TheVariants.{Points, Edges}
use Rattle.lines.specs.Reading.{State, then}
use Rattle.lines.specs.Lines.{field, entry}
use Rattle.lines.proofs.Laws.{entry_stops}
use Rattle.snort.specs.declared.map.Snort.{Snort}
use Rattle.snort.specs.Maps.{joined}
use Rattle.map_text.specs.Maps.{Edge, Map, points_of, edges_of, read_map}
use Rattle.map_text.specs.Shows.{has_edge, Added, Shows}

-- what is left to do with a value, with the points, and with the edges
abbrev left_at : {A : Type 0} → State → Result A Fault → Result (A × State) Fault
left_at t r = then r (λ a. Ok (a, t))

abbrev with_edges : ℕ → List Edge × State → Result (Map × State) Fault
with_edges p q = Ok (record { points = p; edges = q.0 }, q.1)

abbrev with_points : ℕ × State → Result (Map × State) Fault
with_points q = then (entry Edges (edges_of q.0) q.1) (with_edges q.0)

-- a line whose value was read, or was wrong
entry_is : {A : Type 0} (k : Key) (value : List ℕ → ℕ → Result A Fault) (s : State) (v : List ℕ) (n : ℕ) (t : State) (r : Result A Fault) → Ok ((v, n), t) ≡ field k s → value v n ≡ r → entry k value s ≡ left_at t r
entry_is k value s v n t r e f = ap (λ q. then q (λ q. left_at q.1 (value q.0.0 q.0.1))) (sym e) ∙ ap (left_at t) f

pub no_points : (s : State) (d : Fault) → Err d ≡ field Points s → read_map s ≡ Err d
unfolding read_map
no_points s d e = ap (λ r. then r with_points) (sym (entry_stops Points points_of s d e))

module _ (s : State) (v : List ℕ) (n : ℕ) (t : State) (e : Ok ((v, n), t) ≡ field Points s) where
  after_points : (r : Result ℕ Fault) → points_of v n ≡ r → read_map s ≡ then (left_at t r) with_points
  unfolding read_map
  after_points r f = ap (λ r. then r with_points) (entry_is Points points_of s v n t r e f)

  pub wrong_points : (d : Fault) → points_of v n ≡ Err d → read_map s ≡ Err d
  wrong_points d f = after_points (Err d) f

  module _ (p : ℕ) (f : points_of v n ≡ Ok p) where
    pub no_edges : (d : Fault) → Err d ≡ field Edges t → read_map s ≡ Err d
    no_edges d g = after_points (Ok p) f ∙ ap (λ r. then r (with_edges p)) (sym (entry_stops Edges (edges_of p) t d g))

    module _ (w : List ℕ) (m : ℕ) (u : State) (g : Ok ((w, m), u) ≡ field Edges t) where
      after_edges : (r : Result (List Edge) Fault) → edges_of p w m ≡ r → read_map s ≡ then (left_at u r) (with_edges p)
      after_edges r h = after_points (Ok p) f ∙ ap (λ r. then r (with_edges p)) (entry_is Edges (edges_of p) t w m u r g h)

      pub wrong_edges : (d : Fault) → edges_of p w m ≡ Err d → read_map s ≡ Err d
      wrong_edges d h = after_edges (Err d) h

      pub map_read : (es : List Edge) → edges_of p w m ≡ Ok es → read_map s ≡ Ok (record { points = p; edges = es }, u)
      map_read es h = after_edges (Ok es) h

-- edges added to a map that had none
pub shown : (es : List Edge) (s t : Snort) → ((x y : ℕ) → joined s.near x y ≡ false) → Added es s t → Shows t (record { points = s.points; edges = es })
shown es s t blank added = (added.0, λ x y. added.1 x y ∙ ap (λ b. b || has_edge es x y) (blank x y))
