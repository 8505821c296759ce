-- What floor and bracket are at an opening, and in an ended sum.
use Rattle.std.proofs.Common.{◌≡◌, ℕ, List, [], ◌∷◌, ℤ, None, sym, refl, ap, ◌∙◌, arith}
use borrow.Author.Differences.{ints}
use Rattle.terms.specs.declared.side.Side.{Side}
use Rattle.terms.specs.declared.side.Side.TheVariants.{Left, Right}
use Rattle.terms.specs.Sides.{other}
use Rattle.theory.specs.Trees.{Tree, ended, branch, Ended}
use Rattle.theory.specs.Walls.{mean}
use Rattle.theory.specs.Sums.{sum_of, hottest, low, high, All}
use Rattle.theory.specs.Sente.{idle, theirs, floor}
use Rattle.theory.proofs.Sente as sente
use Rattle.theory.proofs.Clauses.{ended_mean}
use Rattle.stories.specs.declared.turn.Turn.TheVariants.{Ours, Theirs}
use Rattle.stories.specs.Game.{near_walls, floor_at, bracket_at, score_units}
use Rattle.stories.specs.Laws.{OpeningsAgree}
use Rattle.stories.proofs.Moves.{ended_hottest}
use Rattle.stories.proofs.Floors.{near_sum, settle}

-- ---- an ended sum
pub ended_near : (s : Side) (a : ℕ) (xs : List Tree) → All Ended xs → near_walls s a xs ≡ score_units s xs
ended_near s a xs e = omega (arith, ints, near_sum s a xs, sente.ended_walls s a xs e, (sente.claims_ended 0 s xs a e).1)

pub ended_means : (xs : List Tree) → All Ended xs → sum_of mean xs ≡ score_units Left xs
ended_means [] h = omega (arith, ints)
ended_means (ended v ∷ xs) h = omega (arith, ints, ended_mean v, ended_means xs h.1)
ended_means (branch L R ∷ xs) h = elim h.0 [ ]

ended_bracket : (s : Side) (xs : List Tree) → All Ended xs → ◌≡◌ {A = ℤ × ℤ} (score_units Left xs, score_units Left xs) (low s xs, high s xs)
ended_bracket Left xs e =
    let m = ended_means xs e in
    let h = ended_hottest xs e in
    let a : score_units Left xs ≡ low Left xs = sym m in
    let b : score_units Left xs ≡ high Left xs = omega (arith, ints) in
    ap {B = ℤ × ℤ} (λ v. (v, score_units Left xs)) a ∙ ap {B = ℤ × ℤ} (λ v. (low Left xs, v)) b
ended_bracket Right xs e =
    let m = ended_means xs e in
    let h = ended_hottest xs e in
    let a : score_units Left xs ≡ low Right xs = omega (arith, ints) in
    let b : score_units Left xs ≡ high Right xs = sym m in
    ap {B = ℤ × ℤ} (λ v. (v, score_units Left xs)) a ∙ ap {B = ℤ × ℤ} (λ v. (low Right xs, v)) b

-- ---- an opening
pub openings_agree_lem : OpeningsAgree
openings_agree_lem s xs = record {
  our_floor = settle (λ t. floor_at s xs t (hottest xs) None ≡ floor s (hottest xs) xs idle) Ours xs
      (λ e. omega (arith, ints, near_sum s (hottest xs) xs, ended_near s (hottest xs) xs e)) (λ i h. near_sum s (hottest xs) xs);
  their_floor = settle (λ t. floor_at s xs t (hottest xs) None ≡ floor s (hottest xs) xs theirs) Theirs xs
      (λ e. omega (arith, ints, near_sum s (hottest xs) xs, ended_near s (hottest xs) xs e, ended_hottest xs e))
      (λ i h. omega (arith, ints, near_sum s (hottest xs) xs));
  our_bracket = settle (λ t. bracket_at s xs t ≡ (low s xs, high s xs)) Ours xs (λ e. ended_bracket s xs e) (λ i h. refl);
  their_bracket = settle (λ t. bracket_at s xs t ≡ (low (other s) xs, high (other s) xs)) Theirs xs (λ e. ended_bracket (other s) xs e) (λ i h. refl);
}
