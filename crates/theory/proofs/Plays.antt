-- A play by the rule never ends under its floor; the stops are what strategies can make sure of.
use Rattle.std.proofs.Common.{◌≡◌, ℕ, zero, suc, ◌<◌, ◌≤◌, min, List, ℤ, pos, ◌-ℤ◌, ◌*ℤ◌, neg_ℤ, ◌≤ℤ◌, sym, ap, ◌∙◌, subst, inl, inr, arith}
use native.Mathlib.Decide.{dec_le}
use borrow.Author.Differences.{ints}
use Rattle.terms.specs.declared.side.Side.{Side}
use Rattle.terms.specs.declared.side.Side.TheVariants.{Left, Right}
use Rattle.terms.specs.Sides.{other}
use Rattle.theory.specs.Limits.{unit}
use Rattle.theory.specs.Trees.{Tree, ended, branch, height, options, Open, Ended}
use Rattle.theory.specs.Fair.{Fair}
use Rattle.theory.specs.Walls.{wall, temperature}
use Rattle.theory.specs.Sums.{Part, put, placed, sum_of, score, span, sum_stop, All}
use Rattle.theory.specs.Strategies.{Ours, ends, plays, Theirs, stands, waits}
use Rattle.theory.specs.Sente.{taxed, Turn, idle, pending, theirs, Best, Run, fresh, reply, cooled, moves, over, floor}
use Rattle.theory.specs.Laws.{FloorHolds, RuleTotal, StopsAreValues}
use Rattle.theory.proofs.Meet.{branch_height}
use Rattle.theory.proofs.Parts.{sum_put, span_put, all_put, all_at}
use Rattle.theory.proofs.Sente as sente

-- an option of greatest near wall reaches the wall
pub best_reaches : (s : Side) (x o : Tree) (a : ℕ) → Fair x → Open x → a ≤ temperature x → Best s x o a → taxed s o a ≡ wall x s a
best_reaches s x o a f i h b =
    let (q, p, e) = sente.best s x a i h in
    omega (arith, ints, e, b.top q p, sente.over s x o a f b.legal)

-- our move in x, no cooler than the ambient
pub keeps : {x : Tree} {xs : List Tree} (s : Side) (p : Part x xs) (o : Tree) (a : ℕ) (w : ℤ) → Fair x → Open x → a ≤ temperature x → Best s x o a
    → floor s a (put p o) theirs ≤ℤ w → floor s a xs (pending p) ≤ℤ w
keeps {x} s p o a w f i h b k = omega (arith, ints, best_reaches s x o a f i h b, sum_put (λ y. wall y (other s) a) p o)

-- their option, taxed, does not pass their wall
pub their_option : (s : Side) (x o : Tree) (a : ℕ) → Fair x → Part o (options x (other s)) → (neg_ℤ (wall o s a) -ℤ pos a) ≤ℤ wall x (other s) a
their_option s x o a f p =
    subst (λ r. (neg_ℤ (wall o r a) -ℤ pos a) ≤ℤ wall x (other s) a) (sente.twice s) (sente.over (other s) x o a f p)

pub floor_ended : (s : Side) (a : ℕ) (xs : List Tree) (t : Turn xs) → All Fair xs → All Ended xs → floor s a xs t ≤ℤ (pos unit *ℤ sum_of (score s) xs)
floor_ended s a xs idle f e = omega (arith, ints, sente.ended_walls s a xs e, (sente.claims_ended 0 s xs a e).1)
floor_ended s a xs (pending {x = x} p) f e =
    omega (
      arith,
      ints,
      sente.ended_walls s a xs e,
      (sente.claims_ended 0 s xs a e).1,
      sente.mast s x a (all_at Fair p f) (sente.ended_cool a x (all_at Ended p e)),
    )
floor_ended s a xs theirs f e = omega (arith, ints, sente.ended_walls s a xs e, (sente.claims_ended 0 s xs a e).1)

pub floor_holds_lem : FloorHolds
floor_holds_lem s a xs t v f (fresh {x = x} p o i c b r) =
    let m : ℕ = min a (temperature x) in
    let g = all_at Fair p f in
    let h = sente.option_fair s x o b.legal g in
    let k = keeps s p o m (pos unit *ℤ v) g i (omega arith) b (floor_holds_lem s m (put p o) theirs v (all_put Fair p o h.1 f) r) in
    omega (arith, ints, k, sente.both s x m g, sente.cool_same (other s) a (temperature x) xs c)
floor_holds_lem s a xs t v f (reply {x = x} p o l b r) =
    let g = all_at Fair p f in
    let h = sente.option_fair s x o b.legal g in
    keeps s p o a (pos unit *ℤ v) g (sente.hot_open x a l) (omega arith) b (floor_holds_lem s a (put p o) theirs v (all_put Fair p o h.1 f) r)
floor_holds_lem s a xs t v f (cooled {x = x} p l r) =
    omega (arith, ints, floor_holds_lem s a xs idle v f r, sente.mast s x a (all_at Fair p f) (omega arith))
floor_holds_lem s a xs t v f (moves {x = x} p o q r) =
    let g = all_at Fair p f in
    let h = sente.option_fair (other s) x o q g in
    omega (
      arith,
      ints,
      floor_holds_lem s a (put p o) (pending (placed p o)) v (all_put Fair p o h.1 f) r,
      sum_put (λ y. wall y (other s) a) p o,
      their_option s x o a g q,
    )
floor_holds_lem s a xs t v f (over u e) = floor_ended s a xs u f e

-- ---- the stops are what strategies can make sure of
pub option_lower : (s : Side) (x o : Tree) → Part o (options x s) → height o < height x
option_lower s (ended v) o p = elim p [ ]
option_lower Left (branch L R) o p = omega (arith, sente.tree_low L o p, branch_height L R)
option_lower Right (branch L R) o p = omega (arith, sente.tree_low R o p, branch_height L R)

pub record Plans (n : ℕ) : Type 0 where
  pub go : (s : Side) (xs : List Tree) (v : ℤ) → span xs ≤ n → v ≤ℤ sum_stop n s xs → Ours s v xs
  pub hold : (s : Side) (xs : List Tree) (v : ℤ) → span xs ≤ n → v ≤ℤ neg_ℤ (sum_stop n (other s) xs) → Theirs s v xs
  pub gone : (s : Side) (xs : List Tree) (v : ℤ) → span xs ≤ n → Ours s v xs → v ≤ℤ sum_stop n s xs
  pub held : (s : Side) (xs : List Tree) (v : ℤ) → span xs ≤ n → Theirs s v xs → v ≤ℤ neg_ℤ (sum_stop n (other s) xs)

-- an ended sum
stop_is : (n : ℕ) (s : Side) (xs : List Tree) → All Ended xs → (sum_stop n s xs ≡ sum_of (score s) xs) × (neg_ℤ (sum_stop n (other s) xs) ≡ sum_of (score s) xs)
stop_is n s xs e = (sente.ended_stop n s xs e, omega (arith, ints, sente.ended_stop n (other s) xs e, sente.ended_turn s xs e))

-- a move of theirs, seen from s
their_stop : {x : Tree} {xs : List Tree} (n : ℕ) (s : Side) (p : Part x xs) (o : Tree) → Part o (options x (other s))
    → neg_ℤ (sum_stop n s (put p o)) ≤ℤ sum_stop (suc n) (other s) xs
their_stop {xs = xs} n s p o q =
    subst (λ r. neg_ℤ (sum_stop n r (put p o)) ≤ℤ sum_stop (suc n) (other s) xs) (sente.twice s) (sente.stop_over n (other s) p o q)

pub lower : {x : Tree} {xs : List Tree} (n : ℕ) (s : Side) (p : Part x xs) (o : Tree) → Part o (options x s) → span xs ≤ suc n → span (put p o) ≤ n
lower {x} n s p o q h = omega (arith, span_put p o, option_lower s x o q)

module _ (n : ℕ) (P : Plans n) where
  go_on : (s : Side) (xs : List Tree) (v : ℤ) → span xs ≤ suc n → v ≤ℤ sum_stop (suc n) s xs → Ours s v xs
  go_on s xs v h k =
      elim (sente.hot xs) [
        | inl e ↦ ends e (omega (arith, ints, (stop_is (suc n) s xs e).0))
        | inr (x, p, i, c) ↦
            let (o, q, z) = sente.best s x 0 i (omega arith) in
            let (ys, m, e) = sente.stop_reached n s p o q in
            let d : sum_stop (suc n) s xs ≡ neg_ℤ (sum_stop n (other s) (put m.at m.to)) = e ∙ ap (λ zs. neg_ℤ (sum_stop n (other s) zs)) m.gives in
            plays m.at m.to m.legal (P.hold s (put m.at m.to) v (lower n s m.at m.to m.legal h) (omega (arith, ints)))
      ]

  hold_on : (s : Side) (xs : List Tree) (v : ℤ) → span xs ≤ suc n → v ≤ℤ neg_ℤ (sum_stop (suc n) (other s) xs) → Theirs s v xs
  hold_on s xs v h k =
      elim (sente.hot xs) [
        | inl e ↦ stands e (omega (arith, ints, (stop_is (suc n) s xs e).1))
        | inr (x, p, i, c) ↦
            waits p i (λ y q o l. P.go s (put q o) v (lower n (other s) q o l h) (omega (arith, ints, their_stop n s q o l)))
      ]

  gone_on : (s : Side) (xs : List Tree) (v : ℤ) → span xs ≤ suc n → Ours s v xs → v ≤ℤ sum_stop (suc n) s xs
  gone_on s xs v h (ends e k) = omega (arith, ints, (stop_is (suc n) s xs e).0)
  gone_on s xs v h (plays p o q t) = omega (arith, ints, sente.stop_over n s p o q, P.held s (put p o) v (lower n s p o q h) t)

  held_on : (s : Side) (xs : List Tree) (v : ℤ) → span xs ≤ suc n → Theirs s v xs → v ≤ℤ neg_ℤ (sum_stop (suc n) (other s) xs)
  held_on s xs v h (stands e k) = omega (arith, ints, (stop_is (suc n) s xs e).1)
  held_on s xs v h (waits {x = x} p i w) =
      let (o, q, z) = sente.best (other s) x 0 i (omega arith) in
      let (ys, m, e) = sente.stop_reached n (other s) p o q in
      let d : sum_stop (suc n) (other s) xs ≡ neg_ℤ (sum_stop n (other (other s)) (put m.at m.to)) = e ∙ ap (λ zs. neg_ℤ (sum_stop n (other (other s)) zs)) m.gives in
      let c : sum_stop (suc n) (other s) xs ≡ neg_ℤ (sum_stop n s (put m.at m.to)) = subst (λ r. sum_stop (suc n) (other s) xs ≡ neg_ℤ (sum_stop n r (put m.at m.to))) (sente.twice s) d in
      omega (arith, ints, P.gone s (put m.at m.to) v (lower n (other s) m.at m.to m.legal h) (w m.from m.at m.to m.legal))

-- with nothing open no move is Left
no_room : {x : Tree} {xs : List Tree} (s : Side) (p : Part x xs) (o : Tree) → Part o (options x s) → span xs ≤ 0 → ⊥
no_room {x} s p o q h = omega (arith, span_put p o, option_lower s x o q)

pub clash : (x : Tree) → Open x → Ended x → ⊥
clash (ended v) i e = i
clash (branch L R) i e = e

pub plans : (n : ℕ) → Plans n
plans zero = record {
  go = λ s xs v h k. ends (sente.span_zero xs h) (omega (arith, ints, (stop_is 0 s xs (sente.span_zero xs h)).0));
  hold = λ s xs v h k. stands (sente.span_zero xs h) (omega (arith, ints, (stop_is 0 s xs (sente.span_zero xs h)).1));
  gone = λ s xs v h. elim [
    | ends e k ↦ omega (arith, ints, (stop_is 0 s xs e).0)
    | plays p o q t ↦ absurd (no_room s p o q h)
  ];
  held = λ s xs v h. elim [
    | stands e k ↦ omega (arith, ints, (stop_is 0 s xs e).1)
    | waits {x = x} p i w ↦ absurd (clash x i (all_at Ended p (sente.span_zero xs h)))
  ];
}
plans (suc n) =
    let P : Plans n = plans n in
    record { go = go_on n P; hold = hold_on n P; gone = gone_on n P; held = held_on n P }

-- more moves than a play can have change nothing
longer : (s : Side) (xs : List Tree) (n : ℕ) → span xs ≤ n → sum_stop n s xs ≡ sum_stop (span xs) s xs
longer s xs n h =
    let P = plans n in
    let Q = plans (span xs) in
    let l : span xs ≤ span xs = omega arith in
    let a = Q.gone s xs (sum_stop n s xs) l (P.go s xs (sum_stop n s xs) h (omega (arith, ints))) in
    let b = P.gone s xs (sum_stop (span xs) s xs) h (Q.go s xs (sum_stop (span xs) s xs) l (omega (arith, ints))) in
    omega (arith, ints)

pub stops_are_values_lem : StopsAreValues
stops_are_values_lem s xs =
    let P = plans (span xs) in
    let l : span xs ≤ span xs = omega arith in
    let e : neg_ℤ (sum_stop (span xs) s xs) ≡ neg_ℤ (sum_stop (span xs) (other (other s)) xs) = ap (λ r. neg_ℤ (sum_stop (span xs) r xs)) (sym (sente.twice s)) in
    record {
      ours = P.go s xs (sum_stop (span xs) s xs) l (omega (arith, ints));
      most = λ v t. P.gone s xs v l t;
      theirs = P.hold (other s) xs (neg_ℤ (sum_stop (span xs) s xs)) l (omega (arith, ints));
      least = λ v t. subst (λ z. v ≤ℤ z) (sym e) (P.held (other s) xs v l t);
      long = λ n h. longer s xs n h;
    }

-- ---- the rule always has a move
pub best_exists : (s : Side) (x : Tree) (a : ℕ) → Open x → (o : Tree) × Best s x o a
best_exists s (ended v) a i = elim i [ ]
best_exists Left (branch L R) a i =
    let (o, p, e) = sente.scaffold_reached L Left a in
    (o, record { legal = p; top = λ q l. omega (arith, ints, e, sente.scaffold_over L Left q a l) })
best_exists Right (branch L R) a i =
    let (o, p, e) = sente.scaffold_reached R Right a in
    (o, record { legal = p; top = λ q l. omega (arith, ints, e, sente.scaffold_over R Right q a l) })

abbrev Runs : ℕ → Type 0
Runs n = (s : Side) (a : ℕ) (xs : List Tree) (t : Turn xs) → span xs ≤ n → (v : ℤ) × Run s a xs t v

by_idle : (n : ℕ) → Runs n → (s : Side) (a : ℕ) (xs : List Tree) → span xs ≤ suc n → sente.Hottest xs → (v : ℤ) × Run s a xs idle v
by_idle n I s a xs h (x, p, i, c) =
    let (o, b) = best_exists s x (min a (temperature x)) i in
    let (v, r) = I s (min a (temperature x)) (put p o) theirs (lower n s p o b.legal h) in (v, fresh p o i c b r)

by_turn : (n : ℕ) → Runs n → (s : Side) (a : ℕ) (xs : List Tree) (t : Turn xs) → span xs ≤ suc n → sente.Hottest xs → (v : ℤ) × Run s a xs t v
by_turn n I s a xs idle h t = by_idle n I s a xs h t
by_turn n I s a xs (pending {x = y} q) h t =
    elim (dec_le (temperature y) a) [
      | yes k ↦ let (v, r) = by_idle n I s a xs h t in (v, cooled q k r)
      | no k ↦
          let l : a < temperature y = omega arith in
          let (o, b) = best_exists s y a (sente.hot_open y a l) in
          let (v, r) = I s a (put q o) theirs (lower n s q o b.legal h) in (v, reply q o l b r)
    ]
by_turn n I s a xs theirs h t =
    let (x, p, i, c) = t in
    let (o, b) = best_exists (other s) x 0 i in
    let (v, r) = I s a (put p o) (pending (placed p o)) (lower n (other s) p o b.legal h) in (v, moves p o b.legal r)

runs : (n : ℕ) → Runs n
runs zero s a xs t h = (sum_of (score s) xs, over t (sente.span_zero xs h))
runs (suc n) s a xs t h =
    elim (sente.hot xs) [
      | inl e ↦ (sum_of (score s) xs, over t e)
      | inr z ↦ by_turn n (runs n) s a xs t h z
    ]

pub rule_total_lem : RuleTotal
rule_total_lem s a xs t = runs (span xs) s a xs t (omega arith)
