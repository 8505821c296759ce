-- The mirror of a tree: scores negated and sides exchanged.
use Rattle.std.specs.Prelude.{neg_ℤ}
use Rattle.theory.specs.Trees.{Tree, Forest, ended, branch, one, more}

unfoldable mutual
  pub mirror : Tree → Tree
  mirror (ended v) = ended (neg_ℤ v)
  mirror (branch L R) = branch (mirror_f R) (mirror_f L)

  pub mirror_f : Forest → Forest
  mirror_f (one x) = one (mirror x)
  mirror_f (more x F) = more (mirror x) (mirror_f F)
