use Rattle.std.proofs.Common.{◌≡◌, pos, ◌*ℤ◌, refl, arith, w16, w32, to_z, of_z}
use Rattle.std.proofs.lemmas.Int.{ints}
use Rattle.theory.specs.Limits.{unit}
use Rattle.thermographs.proofs.OpenRow.{ended_figures}
use Rattle.thermographs.proofs.rows.ended_row.Goals as goal

pub returns : goal.returns
returns c =
    let a = c.requires.0 in
    let b = c.requires.1 in
    let value : to_z w32 (of_z w32 (pos 4096 *ℤ to_z w32 (of_z w32 (to_z w16 (of_z w16 c.args.score))))) ≡ (pos unit *ℤ c.args.score) = omega (arith, ints) in
    ended_figures c.args.score c.args.strip.now.used _ value refl value refl refl value refl refl
