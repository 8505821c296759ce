-- A tree part is read as it is written, and as nothing else.
use Rattle.std.proofs.Common.{◌≡◌, ℕ, zero, suc, ◌-◌, ◌<◌, ◌≤◌, Bool, true, false, cond, ltb, leb, ◌⊎◌, List, ◌++◌, ℤ, pos, negsuc, Some, None, Ok, Err, codes, Option, sym, refl, ap, ◌∙◌, subst, inl, inr, append_assoc, arith}
use Rattle.std.proofs.lemmas.Int.{ints}
use Rattle.std.proofs.lemmas.Bool.{cond-true, leb-true, le-leb, lt-ltb}
use Rattle.terms.specs.declared.fault.Refusal.TheVariants.{TreeTooLarge}
use Rattle.terms.specs.Refusals.{fault}
use Rattle.theory.specs.Limits.{score_limit}
use Rattle.theory.specs.Trees.{Score}
use Rattle.trees.specs.Written.{row_limit}
use Rattle.numbers.specs.Numbers.{written, decimal, integer, in_range, within, upto, judged}
use Rattle.numbers.proofs.Written.{none_some, integer_exact, integer_decimal}
use Rattle.numbers.proofs.Capped.{in_range_small, in_range_is}
use Rattle.lines.specs.declared.key.Key.TheVariants as key
use Rattle.lines.specs.Keys.{name}
use Rattle.lines.specs.Reading.{at, then, starts}
use Rattle.lines.specs.Lines.{entry, form, line}
use Rattle.lines.proofs.Splits.{Clear, some_same}
use Rattle.lines.proofs.Fields.{ok_same, err_ok}
use Rattle.lines.proofs.Laws.{Whole, Reads, then_ok, then_run, entry_reads, form_whole, map_reads, either_reads, reads_as, counted_walk}
use Rattle.lines.proofs.Counts.{upto_sound, upto_complete, written_clear}
use Rattle.tree_text.specs.Rows.{Place, Row, leaf, fork, list_of, list_line, behind, leaf_line, fork_lines, row_lines, at_least_one, row_count, tree_lines, after_row, top, links_text, row_text, tree_text, GoodLinks, GoodRow, GoodTree}
use Rattle.tree_text.proofs.Lists.{judged_ok, list_whole}

-- scores
score_sound : (v : List ℕ) (z : ℤ) → within score_limit v ≡ Some z → Score z × (v ≡ decimal z)
score_sound v z e = (in_range_small score_limit (integer v) z e, (integer_exact v z).0 (in_range_is score_limit (integer v) z e))

range_from : (z : ℤ) → Score z → in_range score_limit (Some z) ≡ Some z
range_from (pos n) g = cond-true (leb n score_limit) _ _ (le-leb n score_limit (omega (arith, ints, g.1)))
range_from (negsuc n) g = cond-true (ltb n score_limit) _ _ (lt-ltb n score_limit (omega (arith, ints, g.0)))

score_complete : (z : ℤ) → Score z → within score_limit (decimal z) ≡ Some z
score_complete z g = ap (in_range score_limit) (integer_decimal z) ∙ range_from z g

decimal_clear : (z : ℤ) → Clear 10 (decimal z)
unfolding decimal
decimal_clear (pos n) = written_clear 10 n (omega arith)
decimal_clear (negsuc n) = ((λ e. omega arith), written_clear 10 (suc n) (omega arith))

-- a row is ended or open
abbrev Leafy : Row → Type 0
Leafy (leaf z) = Score z
Leafy (fork l r) = ⊥

abbrev Forky : ℕ → ℕ → Place → Row → Type 0
Forky last room p (leaf z) = ⊥
Forky last room p (fork l r) = GoodLinks last room p l × GoodLinks last room (behind p l) r

leaf_reads : Reads leaf_line row_text Leafy
unfolding row_text
leaf_reads = map_reads leaf (entry key.End (form (within score_limit))) (λ z. line key.End (decimal z)) Score row_text Leafy (λ z. refl) (λ z g. g) from
    (entry_reads key.End (form (within score_limit)) decimal Score (form_whole (within score_limit) decimal Score score_sound score_complete (λ z g. decimal_clear z)))
  where
    from : (b : Row) → Leafy b → (z : ℤ) × (b ≡ leaf z) × Score z
    from (leaf z) g = (z, refl, g)
    from (fork l r) g = absurd g

left_reads : (last room : ℕ) (p : Place) → Reads (list_line key.Left last room p) (λ xs. line key.Left (links_text xs)) (GoodLinks last room p)
left_reads last room p = entry_reads key.Left (list_of last room p) links_text (GoodLinks last room p) (list_whole last room p)

right_reads : (last room : ℕ) (p : Place) → Reads (list_line key.Right last room p) (λ xs. line key.Right (links_text xs)) (GoodLinks last room p)
right_reads last room p = entry_reads key.Right (list_of last room p) links_text (GoodLinks last room p) (list_whole last room p)

fork_reads : (last room : ℕ) (p : Place) → Reads (fork_lines last room p) row_text (Forky last room p)
unfolding row_text
fork_reads last room p = record {
  sound = λ s b t e.
      let f = then_ok (list_line key.Left last room p s) _ _ e in
      let g = then_ok (list_line key.Right last room (behind p f.0.0) f.0.1) _ _ f.2 in
      let q = ok_same g.2 in
      let x = (left_reads last room p).sound s f.0.0 f.0.1 f.1 in
      let y = (right_reads last room (behind p f.0.0)).sound f.0.1 g.0.0 g.0.1 g.1 in
      subst (λ w. Forky last room p w.0 × (s.rest ≡ row_text w.0 ++ w.1.rest)) q
      ((x.0, y.0), x.1 ∙ (ap (λ r. line key.Left (links_text f.0.0) ++ r) y.1 ∙ sym (append_assoc (line key.Left (links_text f.0.0)) (line key.Right (links_text g.0.0)) g.0.1.rest)));
  complete = complete;
}
  where
    complete : (b : Row) (r : List ℕ) (n : ℕ) → Forky last room p b → (m : ℕ) × (fork_lines last room p (at (row_text b ++ r) n) ≡ Ok (b, at r m))
    complete (leaf z) r n g = absurd g
    complete (fork left right) r n g =
        let x = (left_reads last room p).complete left (line key.Right (links_text right) ++ r) n g.0 in
        let y = (right_reads last room (behind p left)).complete right r x.0 g.1 in (
          y.0,
          ap (λ z. fork_lines last room p (at z n)) (append_assoc (line key.Left (links_text left)) (line key.Right (links_text right)) r)
              ∙ (then_run _ _ _ x.1 ∙ then_run _ _ _ y.1),
        )

leaf_starts : (b : Row) (r : List ℕ) → Leafy b → starts (name key.End ++ codes "=") (row_text b ++ r) ≡ true
unfolding row_text line
leaf_starts (leaf z) r g = refl
leaf_starts (fork x y) r g = absurd g

fork_starts : (last room : ℕ) (p : Place) (b : Row) (r : List ℕ) → Forky last room p b → starts (name key.End ++ codes "=") (row_text b ++ r) ≡ false
unfolding row_text line
fork_starts last room p (leaf z) r g = absurd g
fork_starts last room p (fork x y) r g = refl

row_reads : (last room : ℕ) (p : Place) → Reads (row_lines last room p) row_text (GoodRow last room p)
unfolding row_lines
row_reads last room p =
    reads_as (row_lines last room p) row_text row_text (λ b. Leafy b ⊎ Forky last room p b) (GoodRow last room p) (λ b. refl) to from
    (either_reads key.End leaf_line (fork_lines last room p) row_text Leafy (Forky last room p) leaf_reads (fork_reads last room p) leaf_starts (fork_starts last room p))
  where
    to : (b : Row) → Leafy b ⊎ Forky last room p b → GoodRow last room p b
    to (leaf z) (inl g) = g
    to (leaf z) (inr g) = absurd g
    to (fork l r) (inl g) = absurd g
    to (fork l r) (inr g) = g

    from : (b : Row) → GoodRow last room p b → Leafy b ⊎ Forky last room p b
    from (leaf z) g = inl g
    from (fork l r) g = inr g

-- how many rows
abbrev Few : ℕ → ℕ → Type 0
Few lent n = (0 < n) × (n ≤ row_limit) × (n ≤ lent)

one_some : (o : Option ℕ) (n : ℕ) → at_least_one o ≡ Some n → (0 < n) × (o ≡ Some n)
one_some None n e = none_some e
one_some (Some zero) n e = none_some e
one_some (Some (suc k)) n e = (subst (λ x. 0 < x) (some_same e) (omega arith), e)

one_from : (n : ℕ) → 0 < n → at_least_one (Some n) ≡ Some n
one_from zero h = absurd (omega arith)
one_from (suc n) h = refl

count_whole : (lent : ℕ) → Whole (row_count lent) written (Few lent)
count_whole lent = record {
  sound = λ v n k e.
      let f = then_ok (judged (at_least_one (upto row_limit v)) n) _ _ e in
      let o = one_some (upto row_limit v) f.0 (judged_ok _ n f.0 f.1) in
      let u = upto_sound row_limit v f.0 o.1 in
      room f.0 k n v o.0 u.0 u.1 (leb f.0 lent) refl f.2;
  complete = λ k n g.
      ap (λ o. then (judged (at_least_one o) n) (λ k. cond (leb k lent) (Ok k) (Err (fault TreeTooLarge n)))) (upto_complete row_limit k g.1)
      ∙ (ap (λ o. then (judged o n) (λ k. cond (leb k lent) (Ok k) (Err (fault TreeTooLarge n)))) (one_from k g.0)
      ∙ cond-true (leb k lent) _ _ (le-leb k lent g.2));
  clear = λ k g. written_clear 10 k (omega arith);
}
  where
    room : (m k n : ℕ) (v : List ℕ) → 0 < m → m ≤ row_limit → v ≡ written m → (t : Bool) → leb m lent ≡ t → cond t (Ok m) (Err (fault TreeTooLarge n)) ≡ Ok k → Few lent k × (v ≡ written k)
    room m k n v a b w true t e = subst (λ x. Few lent x × (v ≡ written x)) (ok_same e) ((a, b, leb-true m lent t), w)
    room m k n v a b w false t e = err_ok e

pub tree_reads : (lent room : ℕ) → Reads (tree_lines lent room) tree_text (GoodTree lent room)
unfolding tree_lines tree_text
tree_reads lent room =
    counted_walk (entry key.Rows (row_count lent)) (λ n. line key.Rows (written n)) (Few lent) (entry_reads key.Rows (row_count lent) written (Few lent) (count_whole lent))
    (λ n p. row_lines (n - 1) room p) after_row top row_text (λ n p. GoodRow (n - 1) room p) (λ n p. row_reads (n - 1) room p)
