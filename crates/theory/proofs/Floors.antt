-- The floor never falls, what it is at an opening, and that a side can make sure of it.
use Rattle.std.proofs.Common.{ℕ, ◌≤◌, List, [], ◌∷◌, neg_ℤ, ap, arith}
use borrow.Author.Differences.{ints}
use Rattle.terms.specs.declared.side.Side.TheVariants.{Left, Right}
use Rattle.terms.specs.Sides.{other}
use Rattle.theory.specs.Trees.{Tree}
use Rattle.theory.specs.Fair.{Fair}
use Rattle.theory.specs.Walls.{wall}
use Rattle.theory.specs.Sums.{All, span, hottest}
use Rattle.theory.specs.Laws.{FloorNeverFalls, OpeningLoss, FloorIsSure}
use Rattle.theory.proofs.Parts.{sum_put, all_at}
use Rattle.theory.proofs.Sente as sente
use Rattle.theory.proofs.Plays.{best_reaches, their_option, floor_ended, plans}

-- no part is hotter than what the hottest does not pass
pub all_cool : (c : ℕ) (xs : List Tree) → hottest xs ≤ c → All (sente.Cool c) xs
all_cool c [] h = tt
all_cool c (x ∷ xs) h = (omega arith, all_cool c xs (omega arith))

pub floor_never_falls_lem : FloorNeverFalls
floor_never_falls_lem s a xs f = record {
  answer = λ x p o i h b. omega (arith, ints, best_reaches s x o a (all_at Fair p f) i h b, sum_put (λ y. wall y (other s) a) p o);
  move = λ x p o i h b.
      omega (
        arith,
        ints,
        best_reaches s x o a (all_at Fair p f) i h b,
        sum_put (λ y. wall y (other s) a) p o,
        sente.both s x a (all_at Fair p f),
      );
  reply = λ x p o q. omega (arith, ints, sum_put (λ y. wall y (other s) a) p o, their_option s x o a (all_at Fair p f) q);
  calm = λ x p h. omega (arith, ints, sente.mast s x a (all_at Fair p f) h);
  cool = λ c h. ap neg_ℤ (sente.cool_same (other s) a c xs (all_cool c xs h));
  over = λ t e. floor_ended s a xs t f e;
  ended = λ e. omega (arith, ints, sente.ended_walls s a xs e, (sente.claims_ended 0 s xs a e).1);
}

pub opening_loss_lem : OpeningLoss
opening_loss_lem Left xs f =
    let m = sente.hottest_means xs (hottest xs) (omega arith) f in
    let (a, b) = sente.sum_bounds_lem Left xs f in
    let (c, d) = sente.sum_bounds_lem Right xs f in
    record {
      moving = omega (arith, ints);
      waiting = omega (arith, ints);
      moving_sure = omega (arith, ints);
      moving_loss = omega (arith, ints);
      waiting_sure = omega (arith, ints);
      waiting_loss = omega (arith, ints);
    }
opening_loss_lem Right xs f =
    let m = sente.hottest_means xs (hottest xs) (omega arith) f in
    let (a, b) = sente.sum_bounds_lem Left xs f in
    let (c, d) = sente.sum_bounds_lem Right xs f in
    record {
      moving = omega (arith, ints);
      waiting = omega (arith, ints);
      moving_sure = omega (arith, ints);
      moving_loss = omega (arith, ints);
      waiting_sure = omega (arith, ints);
      waiting_loss = omega (arith, ints);
    }

-- ---- a side can make sure of its floor
pub floor_is_sure_lem : FloorIsSure
floor_is_sure_lem s a xs f =
    let C = sente.claims (span xs) in
    let P = plans (span xs) in
    let l : span xs ≤ span xs = omega arith in
    record {
      moving = λ v h. P.go s xs v l (omega (arith, ints, C.idle s xs a l f));
      waiting = λ v h. P.hold s xs v l (omega (arith, ints, C.upper (other s) xs a l f));
    }
