-- Along a side's wall up to the temperature: what is written are the corners that draw it.
use Rattle.std.proofs.Common.{◌≡◌, ℕ, suc, ◌+◌, ◌-◌, ◌<◌, ◌≤◌, min, Bool, true, false, cond, not, List, ◌++◌, length, get_or, take, drop, set, ℤ, pos, ◌+ℤ◌, ◌-ℤ◌, Some, None, Option, sym, refl, ap, ◌∙◌, subst, inl, inr, arith}
use Rattle.std.proofs.lemmas.List.Edits.{paste_none, paste_more}
use Rattle.std.proofs.lemmas.List.{length-set, append_assoc, drop-drop, take_at, length-take-le, length-drop}
use Rattle.std.proofs.lemmas.Int.{ints}
use Rattle.std.proofs.lemmas.Bool.{both_ways}
use lib.Seq.{paste}
use Rattle.theory.specs.Corners.{Ordered, step}
use Rattle.walls.specs.declared.corner.Route.{Route}
use Rattle.walls.specs.declared.piece.Piece.{Piece}
use Rattle.walls.specs.Pieces.{bit, climb, Linear}
use Rattle.walls.specs.Turns.{turns, After, written}
use Rattle.walls.proofs.Trails.{Cut, cut_none, cut_more, cut_all}
use Rattle.thermographs.specs.declared.figures.Wall.{Wall}
use Rattle.thermographs.specs.declared.strip.Strip.{Strip}
use Rattle.thermographs.specs.Strips.{Wrote}
use Rattle.thermographs.specs.Sweep.{cut, Draws}

-- ---- the steps of the wall
cut_below : (f : ℕ → ℤ) (m u : ℕ) → u ≤ m → cut f m u ≡ (f u -ℤ pos u)
cut_below f m u l = let p : min u m ≡ u = omega arith in ap (λ (v : ℕ). f v -ℤ pos v) p

cut_past : (f : ℕ → ℤ) (m u : ℕ) → m ≤ u → cut f m u ≡ (f m -ℤ pos m)
cut_past f m u l = let p : min u m ≡ m = omega arith in ap (λ (v : ℕ). f v -ℤ pos v) p

bit_not : (s : Bool) (k v w : ℤ) (j n : ℕ) → k ≡ (v +ℤ pos (climb s j)) → w ≡ (v +ℤ pos (climb s (suc j))) → (k +ℤ pos 1) ≡ (w +ℤ pos n) → n ≡ bit (not s)
bit_not true k v w j n p q h = omega (arith, ints)
bit_not false k v w j n p q h = omega (arith, ints)

-- where f is straight, so is the wall
straight_step : (f : ℕ → ℤ) (m : ℕ) (ds : List ℕ) → Draws (cut f m) ds → (p : Piece) (t e : ℕ) → Linear f t p → e ≤ p.until → e ≤ m
    → (u : ℕ) → t ≤ u → u < e → step ds u ≡ bit (not p.slope)
straight_step f m ds d p t e lin ep em u tu ue =
    let a : t + (u - t) ≡ u = omega arith in
    let b : t + suc (u - t) ≡ suc u = omega arith in
    let x : f u ≡ (p.value +ℤ pos (climb p.slope (u - t))) = subst (λ (v : ℕ). f v ≡ (p.value +ℤ pos (climb p.slope (u - t)))) a (lin (u - t) (omega arith)) in
    let y : f (suc u) ≡ (p.value +ℤ pos (climb p.slope (suc (u - t)))) = subst (λ (v : ℕ). f v ≡ (p.value +ℤ pos (climb p.slope (suc (u - t))))) b (lin (suc (u - t)) (omega arith)) in
    let h = d u in
    let g = d (suc u) in
    let i = cut_below f m u (omega arith) in
    let j = cut_below f m (suc u) (omega arith) in
    bit_not p.slope (f u) p.value (f (suc u)) (u - t) (step ds u) x y (omega (arith, ints))

-- and from the temperature on it stands still
still_step : (f : ℕ → ℤ) (m : ℕ) (ds : List ℕ) → Draws (cut f m) ds → (u : ℕ) → m ≤ u → step ds u ≡ 0
still_step f m ds d u l =
    let h = d u in
    let g = d (suc u) in
    let i = cut_past f m u l in
    let j = cut_past f m (suc u) (omega arith) in
    omega (arith, ints)

-- ---- what is written
-- the first corners stand in the places
pub record Traced (ds entry : List ℕ) (route : Route) (t : ℕ) : Type 0 where
  pub out : route.places.now ≡ paste entry 0 ds route.trail.len
  pub cuts : Cut ds route.trail.len t route.trail.slope

-- what is known at t
pub record Drawn (f : ℕ → ℤ) (m : ℕ) (entry : List ℕ) (route : Route) (t : ℕ) : Type 0 where
  pub low : t ≤ m
  pub same : length route.places.now ≡ length entry
  pub follows : (ds : List ℕ) → Ordered ds → Draws (cut f m) ds → Traced ds entry route t

-- at 0 no corner is written
pub drawn_none : (f : ℕ → ℤ) (m : ℕ) (entry : List ℕ) (route : Route) → route.trail.len ≡ 0 → route.places.now ≡ entry → Drawn f m entry route 0
drawn_none f m entry route n e = record {
  low = omega arith;
  same = ap length e;
  follows = λ ds o d. record {
    out = e ∙ paste_none entry 0 ds ∙ ap (paste entry 0 ds) (sym n);
    cuts = subst (λ (k : ℕ). Cut ds k 0 route.trail.slope) (sym n) (cut_none ds route.trail.slope);
  };
}

same_written : (b : Bool) (len t : ℕ) (strip : List ℕ) → length (cond b (set strip len t) strip) ≡ length strip
same_written true len t strip = length-set strip len t
same_written false len t strip = refl

-- one corner more, where there is room
paste_next : (ds entry strip : List ℕ) (n t : ℕ) → strip ≡ paste entry 0 ds n → n < length ds → get_or ds n 0 ≡ t → n < length strip → length strip ≡ length entry
    → set strip n t ≡ paste entry 0 ds (n + 1)
paste_next ds entry strip n t out more at-t room same =
    let z : n ≡ 0 + n = omega arith in
    ap (λ (s : List ℕ). set s n t) out ∙ ap (λ (k : ℕ). set (paste entry 0 ds n) k t) z ∙ ap (λ (v : ℕ). set (paste entry 0 ds n) (0 + n) v) (sym at-t)
    ∙ paste_more entry 0 ds n 0 (omega arith) more

-- the corner is written, or none is
written_yes : (route : Route) (r : Bool) (t : ℕ) → turns route.trail.slope r t ≡ true → written route r t ≡ set route.places.now route.trail.len t
written_yes route r t e = ap (λ (b : Bool). cond b (set route.places.now route.trail.len t) route.places.now) e

written_no : (route : Route) (r : Bool) (t : ℕ) → turns route.trail.slope r t ≡ false → written route r t ≡ route.places.now
written_no route r t e = ap (λ (b : Bool). cond b (set route.places.now route.trail.len t) route.places.now) e

len_yes : (route : Route) (r : Bool) (t k : ℕ) → turns route.trail.slope r t ≡ true → k ≡ cond (turns route.trail.slope r t) (route.trail.len + 1) route.trail.len → k ≡ route.trail.len + 1
len_yes route r t k e h = h ∙ ap (λ (b : Bool). cond b (route.trail.len + 1) route.trail.len) e

len_no : (route : Route) (r : Bool) (t k : ℕ) → turns route.trail.slope r t ≡ false → k ≡ cond (turns route.trail.slope r t) (route.trail.len + 1) route.trail.len → k ≡ route.trail.len
len_no route r t k e h = h ∙ ap (λ (b : Bool). cond b (route.trail.len + 1) route.trail.len) e

module _ (f : ℕ → ℤ) (m : ℕ) (entry : List ℕ) (route : Route) (t : ℕ) (D : Drawn f m entry route t) where
  wide : (next : Route) (r : Bool) (v : ℕ) → next.places.now ≡ written route r v → length next.places.now ≡ length entry
  wide next r v out = ap length out ∙ same_written (turns route.trail.slope r v) route.trail.len v route.places.now ∙ D.same

  -- a corner more has room
  fits : (next : Route) (r : Bool) (v : ℕ) → next.places.now ≡ written route r v → next.trail.len ≡ route.trail.len + 1 → route.trail.len < length route.places.now
  fits next r v out n = omega (arith, wide next r v out, D.same, next.room)

  -- one straight part on
  pub drawn_more : (p : Piece) (e : ℕ) (next : Route) → Linear f t p → t < e → e ≤ p.until → e ≤ m
      → After route (not p.slope) t (Some tt) next → next.places.now ≡ written route (not p.slope) t → Drawn f m entry next e
  drawn_more p e next lin te ep em (slope, len) out = record {
    low = em;
    same = wide next (not p.slope) t out;
    follows = λ ds o d.
        let T = D.follows ds o d in
        elim (cut_more ds o route.trail.len t e route.trail.slope (not p.slope) T.cuts te (straight_step f m ds d p t e lin ep em)) [
          | inl w ↦
              let n = len_yes route (not p.slope) t next.trail.len w.0 len in
              record {
                out = out ∙ written_yes route (not p.slope) t w.0
                    ∙ paste_next ds entry route.places.now route.trail.len t T.out w.1 w.2 (fits next (not p.slope) t out n) D.same ∙ ap (paste entry 0 ds) (sym n);
                cuts = subst (λ (k : ℕ). Cut ds k e next.trail.slope) (sym n) (subst (Cut ds (route.trail.len + 1) e) (sym slope) w.3);
              }
          | inr w ↦
              let n = len_no route (not p.slope) t next.trail.len w.0 len in
              record {
                out = out ∙ written_no route (not p.slope) t w.0 ∙ T.out ∙ ap (paste entry 0 ds) (sym n);
                cuts = subst (λ (k : ℕ). Cut ds k e next.trail.slope) (sym n) (subst (Cut ds route.trail.len e) (sym slope) w.1);
              }
        ];
  }

  -- there is no room on the way
  pub drawn_short : (p : Piece) (e : ℕ) (next : Route) → Linear f t p → t < e → e ≤ p.until → e ≤ m
      → After route (not p.slope) t None next → (ds : List ℕ) → Ordered ds → Draws (cut f m) ds → length entry < length ds
  drawn_short p e next lin te ep em (yes', full, _, _) ds o d =
      let T = D.follows ds o d in
      elim (cut_more ds o route.trail.len t e route.trail.slope (not p.slope) T.cuts te (straight_step f m ds d p t e lin ep em)) [
        | inl w ↦ omega (arith, D.same, w.1)
        | inr w ↦ absurd (both_ways (turns route.trail.slope (not p.slope) t) w.0 yes')
      ]

  -- the end, at the temperature
  pub drawn_all : (next : Route) → t ≡ m → After route false m (Some tt) next → next.places.now ≡ written route false m
      → (ds : List ℕ) → Ordered ds → Draws (cut f m) ds → (next.trail.len ≡ length ds) × (next.places.now ≡ paste entry 0 ds (length ds)) × (next.trail.len ≤ length entry)
  drawn_all next tm (slope, len) out ds o d =
      let T = D.follows ds o d in
      elim (cut_all ds o route.trail.len m route.trail.slope (subst (λ (v : ℕ). Cut ds route.trail.len v route.trail.slope) tm T.cuts) (still_step f m ds d)) [
        | inl w ↦
            let n = len_yes route false m next.trail.len w.0 len in (
              omega (arith, w.3),
              out ∙ written_yes route false m w.0 ∙ paste_next ds entry route.places.now route.trail.len m T.out w.1 w.2 (fits next false m out n) D.same
                  ∙ ap (paste entry 0 ds) w.3,
              omega (arith, wide next false m out, next.room),
            )
        | inr w ↦
            let n = len_no route false m next.trail.len w.0 len in
            (omega (arith, w.1), out ∙ written_no route false m w.0 ∙ T.out ∙ ap (paste entry 0 ds) w.1, omega (arith, wide next false m out, next.room))
      ]

  pub drawn_short_all : (next : Route) → t ≡ m → After route false m None next → (ds : List ℕ) → Ordered ds → Draws (cut f m) ds → length entry < length ds
  drawn_short_all next tm (yes', full, _, _) ds o d =
      let T = D.follows ds o d in
      elim (cut_all ds o route.trail.len m route.trail.slope (subst (λ (v : ℕ). Cut ds route.trail.len v route.trail.slope) tm T.cuts) (still_step f m ds d)) [
        | inl w ↦ omega (arith, D.same, w.1)
        | inr w ↦ absurd (both_ways (turns route.trail.slope false m) w.0 yes')
      ]

-- a wall by its parts
abbrev pub made_wall : ℤ → ℕ → ℕ → Wall
made_wall s b n = record { start = s; begin = b; count = n }

pub same_walls : (v w : Wall) → v.start ≡ w.start → v.begin ≡ w.begin → v.count ≡ w.count → v ≡ w
same_walls v w p q r =
    ap (λ (z : ℤ). made_wall z v.begin v.count) p ∙ ap (λ (z : ℕ). made_wall w.start z v.count) q ∙ ap (λ (z : ℕ). made_wall w.start w.begin z) r

-- ---- the strip, whose free places the route had
module _ (old : Strip) (front free : List ℕ) (f : front ≡ take old.used old.places.now) (b : free ≡ drop old.used old.places.now) where
  behind : (ds : List ℕ) → front ++ paste free 0 ds (length ds) ≡ paste old.places.now old.used ds (length ds)
  behind ds =
      let n : ℕ = length ds in
      let e : drop (0 + n) free ≡ drop (old.used + n) old.places.now = ap (drop (0 + n)) b ∙ drop-drop (0 + n) old.used old.places.now ∙ ap (λ (k : ℕ). drop k old.places.now) (omega arith) in
      sym (append_assoc front (take n ds) (drop (0 + n) free)) ∙ ap (λ (l : List ℕ). (l ++ take n ds) ++ drop (0 + n) free) f
      ∙ ap (λ (l : List ℕ). (take old.used old.places.now ++ take n ds) ++ l) e

  pub wrote_all : (start : ℤ) (w : Wall) (new : Strip) (free' : List ℕ) → new.places.now ≡ front ++ free' → (route : Route) → free' ≡ route.places.now → (ds : List ℕ)
      → (route.trail.len ≡ length ds) × (route.places.now ≡ paste free 0 ds (length ds)) × (route.trail.len ≤ length free) → w.start ≡ start → w.begin ≡ old.used → w.count ≡ route.trail.len → new.used ≡ old.used + route.trail.len
      → Wrote start ds old (Some w) new
  wrote_all start w new free' out route e ds (n, p, room) starts begins counts ends =
      (same_walls w (made_wall start old.used (length ds)) starts begins (counts ∙ n), record { ends = ends ∙ ap (λ (k : ℕ). old.used + k) n; fits = omega (arith, ap length b, length-drop old.used old.places.now, old.room); out = out ∙ ap (λ (l : List ℕ). front ++ l) (e ∙ p) ∙ behind ds })

  pub wrote_none : (start : ℤ) (r : Option Wall) (new : Strip) (free' : List ℕ) → new.places.now ≡ front ++ free' → r ≡ None → (ds : List ℕ) → length free < length ds → Wrote start ds old r new
  wrote_none start r new free' out e ds many =
      let n : length front ≡ old.used = ap length f ∙ length-take-le old.used old.places.now old.room in
      subst (λ (o : Option Wall). Wrote start ds old o new) (sym e) (record {
        many = omega (arith, ap length b, length-drop old.used old.places.now, old.room);
        kept = ap (take old.used) out ∙ take_at front free' old.used n ∙ f;
      })
