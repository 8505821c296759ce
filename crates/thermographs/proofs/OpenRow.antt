-- An open position's row, from where its scaffolds meet and from its two walls' corners.
use Rattle.std.proofs.Common.{◌≡◌, ℕ, List, [], ◌++◌, length, get_or, ℤ, pos, ◌*ℤ◌, Some, Option, sym, ap, ◌∙◌, subst, arith}
use Rattle.std.proofs.lemmas.Int.{ints}
use Rattle.terms.specs.declared.side.Side.TheVariants.{Left, Right}
use Rattle.theory.specs.Limits.{unit}
use Rattle.theory.specs.Trees.{Tree, Forest, ended, branch, trees}
use Rattle.theory.specs.Corners.{Ordered, corners_of}
use Rattle.theory.proofs.Clauses.{ended_wall, ended_temperature, ended_mean, ended_corners}
use Rattle.theory.proofs.Corners.{wall_corners}
use Rattle.theory.proofs.Range.{figures_fit_lem, wall_bound}
use Rattle.spreading.specs.Order.{none}
use Rattle.walls.specs.Ranges.{Ranged}
use Rattle.thermographs.specs.declared.figures.Wall.{Wall}
use Rattle.thermographs.specs.declared.figures.Figures.{Figures}
use Rattle.thermographs.specs.declared.strip.Strip.{Strip}
use Rattle.thermographs.specs.declared.sweep.Meeting.{Meeting}
use Rattle.thermographs.specs.Figures.{blank, both_corners, figures_of}
use Rattle.thermographs.specs.Near.{best}
use Rattle.thermographs.specs.Rows.{Tell, OpenReady, RowInto}
use Rattle.thermographs.specs.Strips.{told, Grown, Full, Wrote}
use Rattle.thermographs.specs.Sweep.{Meets, cut, Draws}
use Rattle.thermographs.proofs.Draw.{made_wall, same_walls}
use Rattle.thermographs.proofs.Growth.{grown_none, kept_grown, both_grown, full_behind}
use Rattle.thermographs.proofs.Positions.{heat_is, mean_here, left_draws, right_draws, left_start, right_start}
use Rattle.thermographs.proofs.Strips.{corners_are, corners_many, tells_more}

-- figures by their parts
abbrev made : ℤ → ℕ → Wall → Wall → Figures
made m t l r = record { mean = m; temperature = t; left = l; right = r }

pub same_figures : (f g : Figures) → f.mean ≡ g.mean → f.temperature ≡ g.temperature
    → f.left.start ≡ g.left.start → f.left.begin ≡ g.left.begin → f.left.count ≡ g.left.count
    → f.right.start ≡ g.right.start → f.right.begin ≡ g.right.begin → f.right.count ≡ g.right.count → f ≡ g
same_figures f g a b c d e h i j =
    let l : f.left ≡ g.left = same_walls f.left g.left c d e in
    let r : f.right ≡ g.right = same_walls f.right g.right h i j in
    ap (λ (z : ℤ). made z f.temperature f.left f.right) a ∙ ap (λ (z : ℕ). made g.mean z f.left f.right) b
    ∙ ap (λ (z : Wall). made g.mean g.temperature z f.right) l ∙ ap (λ (z : Wall). made g.mean g.temperature g.left z) r

-- an ended position
pub ended_figures : (v : ℤ) (used : ℕ) (f : Figures) → f.mean ≡ (pos unit *ℤ v) → f.temperature ≡ 0
    → f.left.start ≡ (pos unit *ℤ v) → f.left.begin ≡ used → f.left.count ≡ 0
    → f.right.start ≡ (pos unit *ℤ v) → f.right.begin ≡ used → f.right.count ≡ 0 → f ≡ figures_of used (ended v)
ended_figures v used f a b c d e h i j =
    let l = ended_corners v Left in
    let r = ended_corners v Right in
    same_figures f (figures_of used (ended v)) (a ∙ sym (ended_mean v)) (b ∙ sym (ended_temperature v)) (c ∙ sym (ended_wall v Left 0)) d (e ∙ sym (ap length l))
    (let w = ended_wall v Right 0 in omega (arith, ints)) (omega (arith, ap length l)) (j ∙ sym (ap length r))

pub ended_row : (v : ℤ) (s : Strip) (f : Figures) → f ≡ figures_of s.used (ended v) → RowInto (ended v) s (Some f) s
ended_row v s f e =
    let none : both_corners (ended v) ≡ [] = corners_are (ended v) ∙ ap (λ (l : List ℕ). l ++ corners_of (ended v) Right) (ended_corners v Left) ∙ ended_corners v Right in
    (e, subst (λ (l : List ℕ). Grown l s s) (sym none) (grown_none s))

-- what a strip told it tells when it has grown
tell_grown : (ds : List ℕ) (old new : Strip) (fs : List Figures) (xs : List Tree) → Grown ds old new → Tell (told old) fs xs → Tell (told new) fs xs
tell_grown ds old new fs xs g h = record {
  many = h.many;
  each = λ k l. tells_more old.used new.used old.places.now new.places.now (get_or fs k blank) (get_or xs k none) (omega (arith, g.ends)) new.room (kept_grown ds old new g) (h.each k l);
}

module _ (old : Strip) (lefts rights : List Figures) (L R : Forest) (O : OpenReady (told old) lefts rights L R)
    (r : Meeting) (M : Meets (best Left (told old) lefts) (best Right (told old) rights) r) where
  pub mean_ranged : Ranged r.mean
  mean_ranged = let e = mean_here (told old) lefts rights L R O r M in let b = (figures_fit_lem (branch L R) O.fair).means in (omega (arith, ints), omega (arith, ints))

  pub left_ranged : Ranged r.left
  left_ranged = let e = left_start (told old) lefts rights L R O r M in let b = wall_bound (branch L R) O.fair Left 0 in (omega (arith, ints), omega (arith, ints))

  pub right_ranged : Ranged r.right
  right_ranged = let e = right_start (told old) lefts rights L R O r M in let b = wall_bound (branch L R) O.fair Right 0 in (omega (arith, ints), omega (arith, ints))

  -- the left wall
  module _ (start : ℤ) (o : Option Wall) (mid : Strip) (W : (ds : List ℕ) → Ordered ds → Draws (cut (best Left (told old) lefts) r.temperature) ds → Wrote start ds old o mid) where
    pub left_wrote : Wrote start (corners_of (branch L R) Left) old o mid
    left_wrote =
        W (corners_of (branch L R) Left) (wall_corners (branch L R) Left).ordered (left_draws (told old) lefts rights L R O r.temperature (heat_is (told old) lefts rights L R O r M))

  -- the right one, behind it
  module _ (mid : Strip) (G : Grown (corners_of (branch L R) Left) old mid) where
    pub still_ready : OpenReady (told mid) lefts rights L R
    still_ready = record { fair = O.fair; left = tell_grown _ old mid lefts (trees L) G O.left; right = tell_grown _ old mid rights (trees R) G O.right }

    module _ (start : ℤ) (o : Option Wall) (new : Strip) (W : (ds : List ℕ) → Ordered ds → Draws (cut (best Right (told mid) rights) r.temperature) ds → Wrote start ds mid o new) where
      pub right_wrote : Wrote start (corners_of (branch L R) Right) mid o new
      right_wrote =
          W (corners_of (branch L R) Right) (wall_corners (branch L R) Right).ordered (right_draws (told mid) lefts rights L R still_ready r.temperature (heat_is (told old) lefts rights L R O r M))

    -- there is no room for it
    pub right_full : (new : Strip) → Full (corners_of (branch L R) Right) mid new → Full (both_corners (branch L R)) old new
    right_full new F =
        subst (λ (l : List ℕ). Full l old new) (sym (corners_are (branch L R))) (full_behind (corners_of (branch L R) Left) old mid G (corners_of (branch L R) Right) new F)

    -- all is written
    pub open_row : (f : Figures) (new : Strip) → Grown (corners_of (branch L R) Right) mid new → f.mean ≡ r.mean → f.temperature ≡ r.temperature
        → f.left ≡ made_wall r.left old.used (length (corners_of (branch L R) Left)) → f.right ≡ made_wall r.right mid.used (length (corners_of (branch L R) Right))
        → RowInto (branch L R) old (Some f) new
    open_row f new H a b c d = (
      same_figures f (figures_of old.used (branch L R)) (a ∙ mean_here (told old) lefts rights L R O r M) (b ∙ sym (heat_is (told old) lefts rights L R O r M))
          (ap (λ (w : Wall). w.start) c ∙ left_start (told old) lefts rights L R O r M) (ap (λ (w : Wall). w.begin) c) (ap (λ (w : Wall). w.count) c)
          (ap (λ (w : Wall). w.start) d ∙ right_start (told old) lefts rights L R O r M) (ap (λ (w : Wall). w.begin) d ∙ G.ends) (ap (λ (w : Wall). w.count) d),
      subst (λ (l : List ℕ). Grown l old new) (sym (corners_are (branch L R))) (both_grown (corners_of (branch L R) Left) old mid G (corners_of (branch L R) Right) new H),
    )

-- there is no room for the left wall
pub left_full : (L R : Forest) (old new : Strip) → Full (corners_of (branch L R) Left) old new → Full (both_corners (branch L R)) old new
left_full L R old new F = record { many = omega (arith, F.many, corners_many (branch L R)); kept = F.kept }
