-- Certificates: what a note says of its tree's temperatures, walls and corners is so.
use Rattle.std.proofs.Common.{◌≡◌, ℕ, zero, suc, ◌+◌, ◌-◌, ◌%◌, ◌<◌, ◌≤◌, min, Bool, true, false, cond, not, ◌&&◌, T, eqb, ltb, leb, List, [], ◌∷◌, length, ℤ, pos, ◌+ℤ◌, ◌-ℤ◌, ◌*ℤ◌, neg_ℤ, ◌≤ℤ◌, ◌<ℤ◌, sym, refl, ap, ◌∙◌, subst, inl, inr, arith, ltb→lt, leb→le}
use mathlib.Core.Path.{fun_ext}
use native.Mathlib.Decide.{dec_lt, dec_le}
use lib.Signed.{lt_z, le_z, le_z_yes, lt_z_yes}
use borrow.Author.Differences.{ints}
use Rattle.std.specs.Int.{int_max}
use Rattle.std.proofs.lemmas.Bool.{cases_Bool, cases_lt, eqb-true, eqb-false, lt-ltb, le-ltb}
use Rattle.terms.specs.declared.side.Side.{Side}
use Rattle.terms.specs.declared.side.Side.TheVariants.{Left, Right}
use Rattle.terms.specs.Sides.{other, own}
use Rattle.theory.specs.Limits.{unit, greatest_height, score_limit}
use Rattle.theory.specs.Trees.{Tree, Forest, ended, branch, one, more, height, height_f, Within, WithinF}
use Rattle.theory.specs.Stops.{stop_f, WarmF, cold}
use Rattle.theory.specs.Fair.{Fair}
use Rattle.theory.specs.Walls.{meeting, wall, scaffold, temperature, mean}
use Rattle.theory.specs.Corners.{above, step, corners_of}
use Rattle.theory.specs.Notes.{Note, Notes, leaf, node, last, also, bare, bare_f, noted, noted_f, meets_at, meets_throughout, meets_throughout_f, limited, limited_f, certified, run, turns_at, noted_temperature, noted_mean, Certificates}
use Rattle.theory.proofs.Meet.{Scaffold, scaffolds, meets, meeting_before, branch_height, one_height, more_height}
use Rattle.theory.proofs.Sente.{scaffold_falls}
use Rattle.theory.proofs.Fairness.{cold_warm}
use Rattle.theory.proofs.Rising.{Rising, ordered, above_all}
use Rattle.theory.proofs.Corners.{Gentle, Still, steps_corners, corners_one, wall_gentle, wall_still, wall_corners}

and_l : (a b : Bool) → T (a && b) → T a
and_l true b h = tt
and_l false b h = h

and_r : (a b : Bool) → T (a && b) → T b
and_r true b h = h
and_r false b h = absurd h

not_so : (b : Bool) → T (not b) → b ≡ false
not_so true h = absurd h
not_so false h = refl

mutual
  limited_so : (x : Tree) → T (limited x) → Within x
  limited_so (ended v) h =
      let a : Bool = le_z (neg_ℤ (pos score_limit)) v in
      let b : Bool = le_z v (pos score_limit) in
      (le_z_yes (and_l a b h), le_z_yes (and_r a b h))
  limited_so (branch L R) h = (limited_f_so L (and_l (limited_f L) (limited_f R) h), limited_f_so R (and_r (limited_f L) (limited_f R) h))

  limited_f_so : (F : Forest) → T (limited_f F) → WithinF F
  limited_f_so (one x) h = limited_so x h
  limited_f_so (more x F) h = (limited_so x (and_l (limited x) (limited_f F) h), limited_f_so F (and_r (limited x) (limited_f F) h))

-- the meeting is where the scaffolds have met and just before had not
meeting_at : (f g : ℕ → ℤ) (y z : ℤ) (n m : ℕ) → Scaffold (suc n) f y → Scaffold (suc n) g z → pos 0 ≤ℤ (y +ℤ z) → T (meets_at f g m) → meeting f g ≡ m
meeting_at f g y z n zero F G w h =
    let k : (f 0 +ℤ g 0) ≤ℤ pos 0 = le_z_yes h in
    elim (dec_lt 0 (meeting f g)) [
      | yes l ↦ absurd (omega (arith, ints, meeting_before f g 0 l))
      | no l ↦ omega arith
    ]
meeting_at f g y z n (suc u) F G w h =
    let k : (f (suc u) +ℤ g (suc u)) ≤ℤ pos 0 = le_z_yes (and_l (le_z (f (suc u) +ℤ g (suc u)) (pos 0)) (lt_z (pos 0) (f u +ℤ g u)) h) in
    let j : pos 0 <ℤ (f u +ℤ g u) = lt_z_yes (and_r (le_z (f (suc u) +ℤ g (suc u)) (pos 0)) (lt_z (pos 0) (f u +ℤ g u)) h) in
    elim (dec_lt (suc u) (meeting f g)) [
      | yes l ↦ absurd (omega (arith, ints, meeting_before f g (suc u) l))
      | no l ↦
          elim (dec_le (meeting f g) u) [
            | no q ↦ omega arith
            | yes q ↦
                absurd (omega (
                  arith,
                  ints,
                  (meets n f g y z F G w).meet,
                  scaffold_falls f (suc n) y F (u - meeting f g) (meeting f g) u (omega arith),
                  scaffold_falls g (suc n) z G (u - meeting f g) (meeting f g) u (omega arith),
                ))
          ]
    ]

node_meets : (m : ℕ) (L R : Notes) → Fair (branch (bare_f L) (bare_f R))
    → ((t : ℕ) → scaffold (bare_f L) Left t ≡ noted_f L Left t) → ((t : ℕ) → scaffold (bare_f R) Right t ≡ noted_f R Right t)
    → T (meets_at (noted_f L Left) (noted_f R Right) m) → meeting (scaffold (bare_f L) Left) (scaffold (bare_f R) Right) ≡ m
node_meets m L R f p q h =
    let l = scaffolds (bare_f L) 1 Left (omega (arith, branch_height (bare_f L) (bare_f R), f.shallow)) f.warm.1 f.scores.0 in
    let r = scaffolds (bare_f R) 1 Right (omega (arith, branch_height (bare_f L) (bare_f R), f.shallow)) f.warm.2 f.scores.1 in
    let c : T (meets_at (noted_f L Left) (scaffold (bare_f R) Right) m) = subst (λ g. T (meets_at (noted_f L Left) g m)) (sym (fun_ext q)) h in
    let d : T (meets_at (scaffold (bare_f L) Left) (scaffold (bare_f R) Right) m) = subst (λ g. T (meets_at g (scaffold (bare_f R) Right) m)) (sym (fun_ext p)) c in
    meeting_at (scaffold (bare_f L) Left) (scaffold (bare_f R) Right) (stop_f (bare_f L) Left) (stop_f (bare_f R) Right) 0 m l r f.warm.0 d

node_walls : (m : ℕ) (L R : Notes) → meeting (scaffold (bare_f L) Left) (scaffold (bare_f R) Right) ≡ m
    → ((t : ℕ) → scaffold (bare_f L) Left t ≡ noted_f L Left t) → ((t : ℕ) → scaffold (bare_f R) Right t ≡ noted_f R Right t)
    → (s : Side) (t : ℕ) → wall (branch (bare_f L) (bare_f R)) s t ≡ noted (node m L R) s t
unfolding wall
node_walls m L R e p q Left t = ap (λ k. scaffold (bare_f L) Left (min t k)) e ∙ p (min t m)
node_walls m L R e p q Right t = ap (λ k. scaffold (bare_f R) Right (min t k)) e ∙ q (min t m)

leaf_wall : (v : ℤ) (s : Side) (t : ℕ) → wall (ended v) s t ≡ (pos unit *ℤ own s v)
unfolding wall
leaf_wall v s t = refl

one_scaffold_is : (x : Tree) (s : Side) (t : ℕ) → scaffold (one x) s t ≡ (neg_ℤ (wall x (other s) t) -ℤ pos t)
unfolding wall
one_scaffold_is x s t = refl

more_scaffold_is : (x : Tree) (F : Forest) (s : Side) (t : ℕ) → scaffold (more x F) s t ≡ int_max (neg_ℤ (wall x (other s) t) -ℤ pos t) (scaffold F s t)
unfolding wall
more_scaffold_is x F s t = refl

-- the height of each option
sub_shallow : (L R : Forest) → Fair (branch L R) → (height_f L ≤ greatest_height) × (height_f R ≤ greatest_height)
sub_shallow L R f = omega (arith, branch_height L R, f.shallow)

mutual
  wall_noted : (n : Note) → Fair (bare n) → T (meets_throughout n) → (s : Side) (t : ℕ) → wall (bare n) s t ≡ noted n s t
  wall_noted (leaf v) f h s t = leaf_wall v s t
  wall_noted (node m L R) f h s t =
      let a = and_l (meets_at (noted_f L Left) (noted_f R Right) m) (meets_throughout_f L && meets_throughout_f R) h in
      let b = and_r (meets_at (noted_f L Left) (noted_f R Right) m) (meets_throughout_f L && meets_throughout_f R) h in
      let p = scaffold_noted L (sub_shallow (bare_f L) (bare_f R) f).0 f.warm.1 f.scores.0 (and_l (meets_throughout_f L) (meets_throughout_f R) b) Left in
      let q = scaffold_noted R (sub_shallow (bare_f L) (bare_f R) f).1 f.warm.2 f.scores.1 (and_r (meets_throughout_f L) (meets_throughout_f R) b) Right in
      node_walls m L R (node_meets m L R f p q a) p q s t

  scaffold_noted : (F : Notes) → height_f (bare_f F) ≤ greatest_height → WarmF (bare_f F) → WithinF (bare_f F) → T (meets_throughout_f F)
      → (s : Side) (t : ℕ) → scaffold (bare_f F) s t ≡ noted_f F s t
  scaffold_noted (last x) h w b c s t =
      let e = wall_noted x (record { shallow = omega (arith, one_height (bare x)); warm = w; scores = b }) c (other s) t in
      one_scaffold_is (bare x) s t ∙ ap (λ z. neg_ℤ z -ℤ pos t) e
  scaffold_noted (also x F) h w b c s t =
      let e = wall_noted x (record { shallow = omega (arith, more_height (bare x) (bare_f F)); warm = w.0; scores = b.0 })
      (and_l (meets_throughout x) (meets_throughout_f F) c) (other s) t in
      let d = scaffold_noted F (omega (arith, more_height (bare x) (bare_f F))) w.1 b.1 (and_r (meets_throughout x) (meets_throughout_f F) c) s t in
      more_scaffold_is (bare x) (bare_f F) s t ∙ ap (λ z. int_max (neg_ℤ z -ℤ pos t) (scaffold (bare_f F) s t)) e
      ∙ ap (λ z. int_max (neg_ℤ (noted x (other s) t) -ℤ pos t) z) d

-- ---- corners
-- from a to b, k later
gentle_range : (f : ℕ → ℤ) → Gentle f → (k a b : ℕ) → b ≡ k + a → (f b ≤ℤ f a) × (f a ≤ℤ (f b +ℤ pos k))
gentle_range f G zero a b e = let q : b ≡ a = omega arith in rw q (omega (arith, ints))
gentle_range f G (suc k) a b e =
    let q : b ≡ suc (k + a) = omega arith in
    rw q (omega (arith, ints, gentle_range f G k a (k + a) refl, G (k + a)))

between : (f : ℕ → ℤ) → Gentle f → (a b : ℕ) → a ≤ b → (f b ≤ℤ f a) × (f a ≤ℤ (f b +ℤ pos (b - a)))
between f G a b h = gentle_range f G (b - a) a b (omega arith)

-- where the whole fall from p to c is none or all that it can be, each step between is too
straight : (f : ℕ → ℤ) → Gentle f → (n p c t : ℕ) → f p ≡ (f c +ℤ run n (c - p)) → p ≤ t → t < c → (f t -ℤ f (suc t)) ≡ pos (n % 2)
straight f G n p c t e h l =
    let a = between f G p t h in
    let b = between f G (suc t) c l in
    let g = G t in
    elim (cases_Bool (eqb (n % 2) 1)) [
      | inl y ↦
          let q : n % 2 ≡ 1 = eqb-true (n % 2) 1 y in
          let w : f p ≡ (f c +ℤ pos (c - p)) = e ∙ ap (λ (z : Bool). f c +ℤ pos (cond z (c - p) 0)) y in
          omega (arith, ints)
      | inr y ↦
          let q : n % 2 ≡ 0 = omega (arith, eqb-false (n % 2) 1 y) in
          let w : f p ≡ (f c +ℤ pos 0) = e ∙ ap (λ (z : Bool). f c +ℤ pos (cond z (c - p) 0)) y in
          omega (arith, ints)
    ]

level : (a b : ℤ) → T (le_z a b && le_z b a) → a ≡ b
level a b h =
    let x : a ≤ℤ b = le_z_yes (and_l (le_z a b) (le_z b a) h) in
    let y : b ≤ℤ a = le_z_yes (and_r (le_z a b) (le_z b a) h) in
    omega (arith, ints)

-- from p on f turns at the numbers of the list
abbrev Pinned : (ℕ → ℤ) → ℕ → List ℕ → Type 0
Pinned f p cs = Rising p cs × ((t : ℕ) → p ≤ t → (f t -ℤ f (suc t)) ≡ pos (step cs t))

pinned_next : (f : ℕ → ℤ) → Gentle f → (p c : ℕ) (cs : List ℕ) → p < c → f p ≡ (f c +ℤ run (suc (length cs)) (c - p)) → Pinned f c cs → Pinned f p (c ∷ cs)
pinned_next f G p c cs l e (r, k) = ((l, r), after)
  where
    after : (t : ℕ) → p ≤ t → (f t -ℤ f (suc t)) ≡ pos (step (c ∷ cs) t)
    after t b =
        elim (cases_lt t c) [
          | inl j ↦
              let q : above cs t ≡ length cs = above_all c cs r t (omega arith) in
              rw (lt-ltb t c j, q) (straight f G (suc (length cs)) p c t e b j)
          | inr j ↦ rw (le-ltb t c j) (k t j)
        ]

pinned : (f : ℕ → ℤ) (m : ℕ) → Gentle f → Still f m → (p : ℕ) (cs : List ℕ) → T (turns_at f p cs m) → Pinned f p cs
pinned f m G S p [] h = (
  tt,
  λ t l.
      let k : f p ≤ℤ f m = le_z_yes h in
      let a = between f G p t l in
      elim (cases_lt t m) [
        | inl b ↦ omega (arith, ints, between f G (suc t) m b, G t)
        | inr b ↦ omega (arith, ints, S t b)
      ],
)
pinned f m G S p (c ∷ cs) h =
    let v : ℤ = f c +ℤ run (suc (length cs)) (c - p) in
    let w : Bool = le_z (f p) v && le_z v (f p) in
    let rest = and_r (ltb p c) (w && turns_at f c cs m) h in
    pinned_next f G p c cs (ltb→lt p c (and_l (ltb p c) (w && turns_at f c cs m) h)) (level (f p) v (and_l w (turns_at f c cs m) rest))
    (pinned f m G S c cs (and_r w (turns_at f c cs m) rest))

corners_so : (x : Tree) (s : Side) (cs : List ℕ) → Fair x → T (turns_at (wall x s) 0 cs (temperature x)) → corners_of x s ≡ cs
corners_so x s cs f h =
    let (r, k) = pinned (wall x s) (temperature x) (wall_gentle x s f) (wall_still x s) 0 cs h in
    corners_one (wall x s) (corners_of x s) cs (wall_corners x s) (steps_corners (wall x s) cs (ordered 0 cs r) (λ t. k t (omega arith)))

-- ---- all of it
figures_so : (n : Note) → Fair (bare n) → T (meets_throughout n) → (temperature (bare n) ≡ noted_temperature n) × (mean (bare n) ≡ noted_mean n)
unfolding temperature mean
figures_so (leaf v) f h = (refl, refl)
figures_so (node m L R) f h =
    let a = and_l (meets_at (noted_f L Left) (noted_f R Right) m) (meets_throughout_f L && meets_throughout_f R) h in
    let b = and_r (meets_at (noted_f L Left) (noted_f R Right) m) (meets_throughout_f L && meets_throughout_f R) h in
    let p = scaffold_noted L (sub_shallow (bare_f L) (bare_f R) f).0 f.warm.1 f.scores.0 (and_l (meets_throughout_f L) (meets_throughout_f R) b) Left in
    let q = scaffold_noted R (sub_shallow (bare_f L) (bare_f R) f).1 f.warm.2 f.scores.1 (and_r (meets_throughout_f L) (meets_throughout_f R) b) Right in
    let e = node_meets m L R f p q a in
    (e, ap (scaffold (bare_f L) Left) e ∙ p m)

fair_so : (n : Note) → T (certified n) → Fair (bare n) × T (meets_throughout n)
fair_so n h =
    let x : Tree = bare n in
    let b = and_r (leb (height x) greatest_height) (not (cold x) && (limited x && meets_throughout n)) h in
    let c = and_r (not (cold x)) (limited x && meets_throughout n) b in (
      record {
        shallow = leb→le (height x) greatest_height (and_l (leb (height x) greatest_height) (not (cold x) && (limited x && meets_throughout n)) h);
        warm = cold_warm x (not_so (cold x) (and_l (not (cold x)) (limited x && meets_throughout n) b));
        scores = limited_so x (and_l (limited x) (meets_throughout n) c);
      },
      and_r (limited x) (meets_throughout n) c,
    )

pub certificates : Certificates
certificates n h =
    let (f, k) = fair_so n h in
    let (e, d) = figures_so n f k in
    let w : (s : Side) → wall (bare n) s ≡ noted n s = λ s. fun_ext (wall_noted n f k s) in
    record {
      fair = f;
      heat = e;
      middle = d;
      walls = wall_noted n f k;
      corners = λ s cs c.
          corners_so (bare n) s cs f
          (subst (λ (u : ℕ). T (turns_at (wall (bare n) s) 0 cs u)) (sym e) (subst (λ (g : ℕ → ℤ). T (turns_at g 0 cs (noted_temperature n))) (sym (w s)) c));
    }
