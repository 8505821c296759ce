use Rattle.std.proofs.Common.{refl}
use Rattle.theory.proofs.Figures.{worked_figures_lem}
use Rattle.snort.specs.Play.{snort_tree, tree_within}
use Rattle.masks.specs.Masks.{has, members}
use Rattle.figures.proofs.known_figures.Goals as goal

pub returns : goal.returns
unfolding snort_tree tree_within has members
returns c = record { books = worked_figures_lem; snort = refl }
