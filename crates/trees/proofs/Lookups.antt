-- A list of picks as the code looks it up.
use Rattle.std.proofs.Common.{◌≡◌, ℕ, ◌+◌, ◌-◌, ◌<◌, ◌≤◌, Bool, true, false, ◌&&◌, ◌⊎◌, List, length, take, drop, leb, Some, None, Option, Bor, inl, inr, sym, ap, ap₂, ◌∙◌, arith}
use Rattle.std.specs.Option.{MatchOption}
use Rattle.std.specs.Slice.{IsGetRangeResult}
use Rattle.std.proofs.lemmas.Bool.{le-leb, lt-leb}
use Rattle.theory.specs.Limits.{option_limit}
use Rattle.trees.specs.declared.row.PickRun.{PickRun}
use Rattle.trees.specs.Written.{named, all_above, lawful_list}

module _ (end own : ℕ) (picks : List ℕ) (l : PickRun) where
  parts : (s f w a : Bool) → s ≡ true → f ≡ true → ((s && f) && (w && a)) ≡ (w && a)
  parts s f w a p q = ap₂ (λ x y. (x && y) && (w && a)) p q

  -- of a list that is as long as a side's may be: whether its picks are there, and are above
  lawful_where : 1 ≤ l.count → l.count ≤ option_limit → lawful_list end picks own l ≡ (leb (l.begin + l.count) (length picks) && all_above own end (named picks l))
  lawful_where some few = parts (leb 1 l.count) (leb l.count option_limit) (leb (l.begin + l.count) (length picks)) (all_above own end (named picks l)) (le-leb 1 l.count some) (le-leb l.count option_limit few)

  pub lawful_by : (r : Bool) (o : Option (Bor (List ℕ))) (Q : Bor (List ℕ) → Type 0) (a b : ℕ) → 1 ≤ l.count → l.count ≤ option_limit → a ≡ l.begin → b ≡ l.begin + l.count
      → IsGetRangeResult picks a b o → MatchOption o (r ≡ false) Q → ((x : Bor (List ℕ)) → Q x → r ≡ all_above own end x.now) → r ≡ lawful_list end picks own l
  lawful_by r (Some x) Q a b some few p q k h f =
      let n : b - a ≡ l.count = omega arith in
      let e : x.now ≡ named picks l = k.0.2 ∙ ap₂ (λ i j. take i (drop j picks)) n p in
      let w : l.begin + l.count ≤ length picks = omega arith in
      f x h ∙ (ap (all_above own end) e ∙ sym (lawful_where some few ∙ ap (λ t. t && all_above own end (named picks l)) (le-leb (l.begin + l.count) (length picks) w)))
  lawful_by r None Q a b some few p q k h f =
      h ∙ sym (lawful_where some few ∙ ap (λ t. t && all_above own end (named picks l)) (lt-leb (l.begin + l.count) (length picks) (past k.0)))
    where
      past : ((b < a) ⊎ (length picks < b)) → length picks < l.begin + l.count
      past (inl g) = absurd (omega arith)
      past (inr g) = omega arith
