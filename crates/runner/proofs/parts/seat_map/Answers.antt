use Rattle.std.proofs.Common.{◌-◌, ap, ◌∙◌}
use Rattle.std.proofs.lemmas.Result.{err_from_is_err_and}
use Rattle.bank.specs.Contents.{trees}
use Rattle.lines.specs.Reading.{on_line}
use Rattle.lines.specs.Seen.{seen}
use Rattle.job.specs.Grammar.{snort}
use Rattle.meanings.specs.Meaning.{meaning}
use Rattle.runner.specs.Runs.{leaving, seating}
use Rattle.runner.proofs.Bodies.{gave_there, map_stops, map_goes}
use Rattle.meanings.proofs.Parts.{map_read}
use Rattle.runner.proofs.parts.seat_map.Goals as goal

pub returns-in_err-map : goal.returns-in_err-map
returns-in_err-map c =
    let p = err_from_is_err_and c.from_residual.result c.from_residual.ensures.1 in
    λ lent room. rw (p.1, p.2) (map_stops lent room (trees c.args.bank.now) (seen c.args.reader.now) _ c.in_err-map.ensures)

pub returns : goal.returns
returns c =
    let held = trees c.args.bank.now in
    let t = c.read_map.new.reader in
    let m = c.in_ok-map.ensures in
    λ lent room. gave_there (leaving c.seat_first.result (trees c.seat_first.new.bank)) (seating held (meaning (snort m.0))) t (c.seat_first.ensures ∙ ap (λ x. on_line (seating held x) (t.line - 1)) (map_read m.0 c.in_ok-map.map m.2))
    ∙ map_goes lent room held (seen c.args.reader.now) m.0 (seen t) m.1
