-- The trees of the toy rule sets.
use Rattle.std.specs.Prelude.{ℕ, zero, suc, cond, pos, negsuc, Some, None, Option, ◌==◌}
use Rattle.theory.specs.Trees.{Tree, ended, branch, one, more}

abbrev pub cold_one : Tree
cold_one = branch (one (ended (negsuc 2))) (one (ended (pos 5)))

abbrev pub sample : ℕ → Option Tree
sample n =
    cond (n == 0) (Some (branch (one (ended (pos 5))) (more (ended (negsuc 2)) (one (ended (pos 5))))))
    (cond (n == 1) (Some (ended (pos 5)))
    (cond (n == 2) (Some (ended (negsuc 2)))
    (cond (n == 3) (Some cold_one)
    (cond (n == 4) (Some (branch (one (ended (pos 5))) (one cold_one))) None))))

-- n moves deep, one option a side
abbrev pub tower : ℕ → Tree
tower zero = ended (pos 0)
tower (suc n) = branch (one (tower n)) (one (ended (pos 0)))

abbrev pub tower_of : ℕ → Option Tree
tower_of n = Some (tower n)
