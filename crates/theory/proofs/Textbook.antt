-- The definitions in plain words agree with those in each side's own terms.
use Rattle.std.proofs.Common.{◌≡◌, ℕ, ◌≤◌, min, Bool, true, false, cond, T, ltb, ℤ, pos, ◌+ℤ◌, ◌-ℤ◌, neg_ℤ, sym, refl, ap, ◌∙◌, arith, ltb→lt, lt→ltb}
use mathlib.Core.Path.{fun_ext}
use native.Mathlib.Decide.{dec_lt}
use lib.Signed.{le_z}
use borrow.Author.Differences.{ints}
use Rattle.std.proofs.lemmas.Int.{clamps}
use Rattle.terms.specs.declared.side.Side.TheVariants.{Left, Right}
use Rattle.theory.specs.Limits.{greatest_height, wall_limit}
use Rattle.theory.specs.Trees.{Tree, Forest, ended, branch, one, more, height_f, WithinF}
use Rattle.theory.specs.Stops.{stop, stop_f, WarmF}
use Rattle.theory.specs.Fair.{Fair}
use Rattle.theory.specs.Walls.{least, meeting, wall, scaffold, temperature, mean}
use Rattle.theory.specs.Textbook.{left_stop, right_stop, greatest_right, least_left, less_tax, plus_tax, heat, cut_left, cut_right, book_left, book_right, highest, lowest, book_temperature, book_mean}
use Rattle.theory.specs.Laws.{TextbookAgrees}
use Rattle.theory.proofs.Meet.{branch_meets, branch_height, one_height, more_height}
use Rattle.theory.proofs.Search.{by_bool}

mutual
  unfolding left_stop stop

  stops : (x : Tree) → (left_stop x ≡ stop x Left) × (right_stop x ≡ neg_ℤ (stop x Right))
  stops (ended v) = (refl, omega (arith, ints))
  stops (branch L R) = ((stops_f L).0, (stops_f R).1)

  stops_f : (F : Forest) → (greatest_right F ≡ stop_f F Left) × (least_left F ≡ neg_ℤ (stop_f F Right))
  stops_f (one x) = let (a, b) = stops x in (b, omega (arith, ints))
  stops_f (more x F) =
      let (a, b) = stops x in
      let (c, d) = stops_f F in
      (omega (arith, ints, clamps), omega (arith, ints, clamps))

-- the two tests of the search are one
same_test : (a b c : ℤ) → c ≡ (a -ℤ b) → le_z a b ≡ le_z c (pos 0)
same_test a b c e =
    by_bool (le_z c (pos 0))
    (λ h. let k : true ≡ le_z a b = omega (arith, ints) in sym k ∙ sym h)
    (λ h. let k : false ≡ le_z a b = omega (arith, ints) in sym k ∙ sym h)

heat_is : (r l f g : ℕ → ℤ) → ((t : ℕ) → less_tax r t ≡ f t) → ((t : ℕ) → plus_tax l t ≡ neg_ℤ (g t)) → heat r l ≡ meeting f g
unfolding heat meeting
heat_is r l f g p q = ap (λ u. least u wall_limit 0) (fun_ext (λ t. same_test (less_tax r t) (plus_tax l t) (f t +ℤ g t) (omega (arith, ints, p t, q t))))

cond_yes : (b : Bool) (x y : ℤ) → T b → cond b x y ≡ x
cond_yes true x y h = refl
cond_yes false x y h = absurd h

cond_no : (b : Bool) (x y : ℤ) → (T b → ⊥) → cond b x y ≡ y
cond_no true x y h = absurd (h tt)
cond_no false x y h = refl

-- cut by a test, or by the lesser of two
cut_min : (f : ℕ → ℤ) (t m : ℕ) → cond (ltb t m) (f t) (f m) ≡ f (min t m)
cut_min f t m =
    elim (dec_lt t m) [
      | yes h ↦ let q : t ≡ min t m = omega arith in cond_yes (ltb t m) (f t) (f m) (lt→ltb t m h) ∙ ap f q
      | no h ↦ let q : m ≡ min t m = omega arith in cond_no (ltb t m) (f t) (f m) (λ k. h (ltb→lt t m k)) ∙ ap f q
    ]

module _ (r l f g : ℕ → ℤ) (p : (t : ℕ) → less_tax r t ≡ f t) (q : (t : ℕ) → plus_tax l t ≡ neg_ℤ (g t))
    (M : (f (meeting f g) +ℤ g (meeting f g)) ≡ pos 0) where
  cut_L : (t : ℕ) → cut_left r l t ≡ f (min t (meeting f g))
  unfolding cut_left
  cut_L t =
      ap (λ m. cond (ltb t m) (less_tax r t) (less_tax r m)) (heat_is r l f g p q)
      ∙ ap (λ u. cond (ltb t (meeting f g)) (u t) (u (meeting f g))) (fun_ext p) ∙ cut_min f t (meeting f g)

  cut_R : (t : ℕ) → cut_right r l t ≡ neg_ℤ (g (min t (meeting f g)))
  unfolding cut_right
  cut_R t =
      let m : ℕ = meeting f g in
      let e : less_tax r m ≡ neg_ℤ (g m) = omega (arith, ints, p m, M) in
      ap (λ k. cond (ltb t k) (plus_tax l t) (less_tax r k)) (heat_is r l f g p q)
      ∙ ap (λ z. cond (ltb t m) (plus_tax l t) z) e
      ∙ ap (λ z. cond (ltb t m) z (neg_ℤ (g m))) (q t) ∙ cut_min (λ u. neg_ℤ (g u)) t m

-- a branch, from its forests
branch_walls : (L R : Forest) → Fair (branch L R) → ((t : ℕ) → less_tax (highest L) t ≡ scaffold L Left t) → ((t : ℕ) → plus_tax (lowest R) t ≡ neg_ℤ (scaffold R Right t))
    → (t : ℕ) → (book_left (branch L R) t ≡ wall (branch L R) Left t) × (book_right (branch L R) t ≡ neg_ℤ (wall (branch L R) Right t))
unfolding wall book_left
branch_walls L R f p q t =
    let M = (branch_meets L R f.shallow f.warm f.scores).meet in
    (cut_L (highest L) (lowest R) (scaffold L Left) (scaffold R Right) p q M t, cut_R (highest L) (lowest R) (scaffold L Left) (scaffold R Right) p q M t)

ended_both : (v : ℤ) (t : ℕ) → (book_left (ended v) t ≡ wall (ended v) Left t) × (book_right (ended v) t ≡ neg_ℤ (wall (ended v) Right t))
unfolding wall book_left
ended_both v t = (refl, omega (arith, ints))

one_both : (x : Tree) (t : ℕ) → (book_left x t ≡ wall x Left t) × (book_right x t ≡ neg_ℤ (wall x Right t))
    → (less_tax (highest (one x)) t ≡ scaffold (one x) Left t) × (plus_tax (lowest (one x)) t ≡ neg_ℤ (scaffold (one x) Right t))
unfolding wall book_left
one_both x t (a, b) = (omega (arith, ints), omega (arith, ints))

more_both : (x : Tree) (F : Forest) (t : ℕ) → (book_left x t ≡ wall x Left t) × (book_right x t ≡ neg_ℤ (wall x Right t))
    → (less_tax (highest F) t ≡ scaffold F Left t) × (plus_tax (lowest F) t ≡ neg_ℤ (scaffold F Right t))
    → (less_tax (highest (more x F)) t ≡ scaffold (more x F) Left t) × (plus_tax (lowest (more x F)) t ≡ neg_ℤ (scaffold (more x F) Right t))
unfolding wall book_left
more_both x F t (a, b) (c, d) = (omega (arith, ints, clamps), omega (arith, ints, clamps))

mutual
  same : (x : Tree) → Fair x → (t : ℕ) → (book_left x t ≡ wall x Left t) × (book_right x t ≡ neg_ℤ (wall x Right t))
  same (ended v) f t = ended_both v t
  same (branch L R) f t =
      branch_walls L R f (λ u. (same_f L (omega (arith, branch_height L R, f.shallow)) f.warm.1 f.scores.0 u).0)
      (λ u. (same_f R (omega (arith, branch_height L R, f.shallow)) f.warm.2 f.scores.1 u).1) t

  same_f : (F : Forest) → height_f F ≤ greatest_height → WarmF F → WithinF F → (t : ℕ)
      → (less_tax (highest F) t ≡ scaffold F Left t) × (plus_tax (lowest F) t ≡ neg_ℤ (scaffold F Right t))
  same_f (one x) h w b t = one_both x t (same x (record { shallow = omega (arith, one_height x); warm = w; scores = b }) t)
  same_f (more x F) h w b t =
      more_both x F t (same x (record { shallow = omega (arith, more_height x F); warm = w.0; scores = b.0 }) t)
      (same_f F (omega (arith, more_height x F)) w.1 b.1 t)

heats : (x : Tree) → Fair x → (book_temperature x ≡ temperature x) × (book_mean x ≡ mean x)
unfolding book_temperature temperature book_mean mean
heats (ended v) f = (refl, refl)
heats (branch L R) f =
    let p : (t : ℕ) → less_tax (highest L) t ≡ scaffold L Left t = λ u. (same_f L (omega (arith, branch_height L R, f.shallow)) f.warm.1 f.scores.0 u).0 in
    let q : (t : ℕ) → plus_tax (lowest R) t ≡ neg_ℤ (scaffold R Right t) = λ u. (same_f R (omega (arith, branch_height L R, f.shallow)) f.warm.2 f.scores.1 u).1 in
    let e = heat_is (highest L) (lowest R) (scaffold L Left) (scaffold R Right) p q in
    (e, ap (less_tax (highest L)) e ∙ p (meeting (scaffold L Left) (scaffold R Right)))

pub textbook_agrees_lem : TextbookAgrees
textbook_agrees_lem x f = record {
  stop_left = (stops x).0;
  stop_right = (stops x).1;
  wall_left = λ t. (same x f t).0;
  wall_right = λ t. (same x f t).1;
  heat = (heats x f).0;
  middle = (heats x f).1;
}
