use Rattle.std.proofs.Common.{◌≡◌, ℕ, zero, suc, Bool, List, [], ◌∷◌, Option, option_map, filter, slice_get, refl, sym, ap, ◌∙◌, rules}
use Rattle.std.specs.List.{range_with_len}
use Rattle.std.proofs.lemmas.Iterator.{YieldsList-from_range}
use Rattle.std.proofs.lemmas.Iterator.Adapters.{option_map_id}
use Rattle.std.proofs.lemmas.Iterator.Consumers.{YieldsList-from_filter, nth_from_yields_List}
use Rattle.theory.specs.Trees.{at}
use Rattle.masks.specs.Masks.{has, members}
use Rattle.masks.proofs.member.Goals as goal

at-slice_get : (xs : List ℕ) (k : ℕ) → slice_get xs k ≡ at xs k
at-slice_get [] k = refl
at-slice_get (x ∷ xs) zero = refl
at-slice_get (x ∷ xs) (suc k) = at-slice_get xs k

-- what `nth` gives of the numbers that pass
at_members : (p : ℕ → Bool) (n j k : ℕ) (r : Option ℕ) → option_map (λ x. x) r ≡ slice_get (filter p (range_with_len 0 n)) j → j ≡ k → r ≡ at (members p 0 n) k
unfolding members
at_members p n j k r e same = sym (option_map_id r) ∙ e ∙ at-slice_get (members p 0 n) j ∙ ap (at (members p 0 n)) same

pub returns : goal.returns
returns c =
    at_members (has c.args.mask) 16 _ c.args.k c.nth.result (nth_from_yields_List c.nth.result _ _ c.nth.ensures.ran (YieldsList-from_filter _ (has c.args.mask) (YieldsList-from_range 0 16 16 (cc) refl) c.filter.ensures.closure (λ x b q k. search rules))) c.from.ensures
