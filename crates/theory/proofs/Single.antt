-- A sum of one tree has the stops of the tree.
use Rattle.std.proofs.Common.{◌≡◌, ℕ, zero, suc, ◌≤◌, List, [], ◌∷◌, ◌++◌, map, ℤ, neg_ℤ, refl, ap, ◌∙◌, arith}
use borrow.Author.Differences.{ints}
use Rattle.std.specs.Int.{int_max}
use Rattle.terms.specs.declared.side.Side.{Side}
use Rattle.terms.specs.declared.side.Side.TheVariants.{Left, Right}
use Rattle.terms.specs.Sides.{other}
use Rattle.theory.specs.Trees.{Tree, Forest, ended, branch, one, more, height, trees}
use Rattle.theory.specs.Stops.{stop, stop_f}
use Rattle.theory.specs.Sums.{Part, here, there, sum_of, score, best_by, span, sum_stop, best_score}
use Rattle.theory.specs.Laws.{Alone}
use Rattle.theory.proofs.Meet.{branch_height}
use Rattle.theory.proofs.Sente.{ended_stop, tree_low}

one_more : (f : List Tree → ℤ) (z : ℤ) (a : List Tree) (F : Forest)
    → best_by f z (a ∷ (map (λ o. o ∷ []) (trees F) ++ [])) ≡ int_max (f a) (best_by f z (map (λ o. o ∷ []) (trees F) ++ []))
one_more f z a (one x) = refl
one_more f z a (more x F) = refl

-- the best of a forest's trees, each alone
best_alone : (f : List Tree → ℤ) (z : ℤ) (s : Side) (F : Forest) → ((o : Tree) → Part o (trees F) → f (o ∷ []) ≡ neg_ℤ (stop o (other s)))
    → best_by f z (map (λ o. o ∷ []) (trees F) ++ []) ≡ stop_f F s
unfolding stop
best_alone f z s (one x) h = h x here
best_alone f z s (more x F) h =
    one_more f z (x ∷ []) F ∙ ap (λ u. int_max u (best_by f z (map (λ o. o ∷ []) (trees F) ++ []))) (h x here)
    ∙ ap (int_max (neg_ℤ (stop x (other s)))) (best_alone f z s F (λ o p. h o (there p)))

lone : (n : ℕ) (x : Tree) (s : Side) → height x ≤ n → sum_stop n s (x ∷ []) ≡ stop x s
unfolding sum_stop stop
lone n (ended v) s h = omega (arith, ints, ended_stop n s (ended v ∷ []) (tt, tt))
lone zero (branch L R) s h = absurd (omega (arith, branch_height L R))
lone (suc n) (branch L R) Left h =
    best_alone (λ ys. neg_ℤ (sum_stop n Right ys)) (sum_of (score Left) (branch L R ∷ [])) Left L
    (λ o p. ap neg_ℤ (lone n o Right (omega (arith, tree_low L o p, branch_height L R))))
lone (suc n) (branch L R) Right h =
    best_alone (λ ys. neg_ℤ (sum_stop n Left ys)) (sum_of (score Right) (branch L R ∷ [])) Right R
    (λ o p. ap neg_ℤ (lone n o Left (omega (arith, tree_low R o p, branch_height L R))))

pub alone : Alone
unfolding best_score
alone x = record { left = lone (span (x ∷ [])) x Left (omega arith); right = ap neg_ℤ (lone (span (x ∷ [])) x Right (omega arith)) }
