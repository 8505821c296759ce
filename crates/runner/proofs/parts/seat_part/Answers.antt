use Rattle.std.proofs.Common.{Ok, sym, ap, ◌∙◌}
use Rattle.std.proofs.lemmas.Result.{err_from_is_err_and}
use Rattle.bank.specs.Contents.{trees}
use Rattle.tree_text.specs.Seen.{lent_rows, lent_room}
use Rattle.lines.specs.Seen.{seen}
use Rattle.job.specs.declared.kind.Kind.TheVariants as kinds
use Rattle.runner.proofs.Bodies.{kind_stops, kind_goes}
use Rattle.runner.proofs.parts.seat_part.Goals as goal

pub returns-in_err-read_word-clause-seated : goal.returns-in_err-read_word-clause-seated
returns-in_err-read_word-clause-seated c =
    let p = err_from_is_err_and c.from_residual.result c.from_residual.ensures.1 in
    rw (p.1, p.2) (kind_stops (lent_rows c.args.lent.now) (lent_room c.args.lent.now) (trees c.args.bank.now) (seen c.args.reader.now) _ c.in_err-read_word.ensures)

pub returns-in-Tree-clause-seated : goal.returns-in-Tree-clause-seated
returns-in-Tree-clause-seated c =
    let t = seen c.read_word.new.reader in
    c.seat_tree.ensures.seated
    ∙ kind_goes (lent_rows c.args.lent.now) (lent_room c.args.lent.now) (trees c.args.bank.now) (seen c.args.reader.now) kinds.Tree t (ap (λ k. Ok (k, t)) (sym c.in-Tree.is) ∙ c.in_ok-read_word.ensures)

pub returns-in-Snort-clause-seated : goal.returns-in-Snort-clause-seated
returns-in-Snort-clause-seated c =
    let t = seen c.read_word.new.reader in
    let lent = lent_rows c.args.lent.now in
    let room = lent_room c.args.lent.now in
    c.seat_map.ensures lent room
    ∙ kind_goes lent room (trees c.args.bank.now) (seen c.args.reader.now) kinds.Snort t (ap (λ k. Ok (k, t)) (sym c.in-Snort.is) ∙ c.in_ok-read_word.ensures)
