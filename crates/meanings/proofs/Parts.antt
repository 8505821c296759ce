-- Maps mean what the rule set Snort gives, and every good part means a lawful tree.
use Rattle.std.proofs.Common.{◌≡◌, ℕ, ◌^◌, Bool, true, false, cond, not, ltb, Some, None, refl, ap, ap₂, pow_pos}
use mathlib.Core.Path.{fun_ext}
use Rattle.std.proofs.lemmas.Bool.{and_from, and_left, lt-ltb}
use Rattle.rules.specs.Meaning.{LawfulIn}
use Rattle.masks.specs.Masks.{has}
use Rattle.masks.proofs.Members.{no_some}
use Rattle.masks.proofs.Bits.{has_zero}
use Rattle.snort.specs.declared.map.Snort.{Snort}
use Rattle.snort.specs.Boards.{joined_on, tree_on}
use Rattle.snort.specs.Play as play
use Rattle.snort.specs.PlayLemmas.{lawful_within}
use Rattle.map_text.specs.Maps.{Map}
use Rattle.map_text.specs.Shows.{has_edge, Shows}
use Rattle.job.specs.Grammar.{Part, tree, snort, GoodPart}
use Rattle.meanings.specs.Meaning.{rows_tree, meaning}
use Rattle.meanings.specs.Laws.{PartsLawful}
use Rattle.meanings.proofs.Rows.{fits, lawful}

-- the tree of Snort is a function of the number of points and of which are joined
pub map_read : (m : Map) (s : Snort) → Shows s m → tree_on s 0 ≡ meaning (snort m)
map_read m s h =
    let e : joined_on s ≡ has_edge m.edges = fun_ext (λ x. fun_ext (λ y. h.1 x y)) in
    ap₂ (λ n j. play.snort_tree n j 0) h.0 e

-- where no point is coloured a position may stand
blank_stands : (points : ℕ) (joined : ℕ → ℕ → Bool) → play.stands points joined 0 0 ≡ true
blank_stands points joined =
    let low = lt-ltb 0 (2 ^ points) (pow_pos points) in
    let apart : play.clash points joined 0 0 ≡ false =
    no_some (play.clash_at points joined 0 0) points (λ k h. and_left (has 0 k) _ (has_zero k)) in
    and_from (ltb 0 (2 ^ points)) _ low (and_from (ltb 0 (2 ^ points)) _ low (ap not apart))

blank_tree : (points : ℕ) (joined : ℕ → ℕ → Bool) → play.snort_tree points joined 0 ≡ Some (play.tree_within points joined points 0 0)
unfolding play.snort_tree
blank_tree points joined = ap (λ b. cond b (Some (play.tree_within points joined points 0 0)) None) (blank_stands points joined)

pub parts_lawful : PartsLawful
parts_lawful lent room (tree rows) good = (rows_tree rows, refl, lawful rows (fits lent room rows good) 0)
parts_lawful lent room (snort m) good =
    (play.tree_within m.points (has_edge m.edges) m.points 0 0, blank_tree m.points (has_edge m.edges), lawful_within m.points (has_edge m.edges) good.0.1 m.points 0 0)

pub part_lawful : (lent room : ℕ) (p : Part) → GoodPart lent room p → LawfulIn (meaning p)
part_lawful lent room p good =
    let l = parts_lawful lent room p good in
    rw l.1 l.2
