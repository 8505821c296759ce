use Rattle.std.proofs.Common.{Ok, Err, ap, ◌∙◌, arith}
use Rattle.std.proofs.lemmas.Int.{ints}
use Rattle.std.proofs.lemmas.Result.{err_from_is_err_and}
use Rattle.terms.specs.declared.fault.Refusal.TheVariants.{WrongLine}
use Rattle.terms.specs.Refusals.{fault}
use Rattle.lines.specs.Lines.{said, key_of, value_of}
use Rattle.lines.specs.Reading.{then}
use Rattle.lines.specs.Seen.{seen}
use Rattle.lines.proofs.Cases.{line_by, line_is}
use Rattle.tree_text.specs.Rows.{leaf}
use Rattle.tree_text.specs.Seen.{spot}
use Rattle.tree_text.proofs.Ways.{row_stops, row_leaf, row_fork, row_wrong}
use Rattle.tree_text.proofs.row_lines.read_row.Goals as goal

pub returns-in_err-line-clause-row : goal.returns-in_err-line-clause-row
returns-in_err-line-clause-row c =
    let p = err_from_is_err_and c.from_residual.result c.from_residual.ensures.1 in
    rw (p.1, p.2) (row_stops c.args.place.last c.args.place.room (spot c.args.place) (seen c.args.reader.now) _ c.in_err-line.ensures)

pub returns-in_err-score_of-in-End-clause-row : goal.returns-in_err-score_of-in-End-clause-row
returns-in_err-score_of-in-End-clause-row c =
    let p = err_from_is_err_and c.from_residual-in_err-score_of-in-End.result c.from_residual-in_err-score_of-in-End.ensures.1 in
    let t = c.in-End.text in
    let w = row_leaf c.args.place.last c.args.place.room (spot c.args.place) (seen c.args.reader.now) t.bytes.now t.line (seen c.next_line.new.self) (rw c.in-End.is at c.in_ok-line.ensures) in
    rw (p.1, p.2) (ap (λ r. then r (λ z. Ok (leaf z, seen c.next_line.new.self))) c.in_err-score_of-in-End.ensures ∙ w)

pub returns-in_ok-score_of-in-End-clause-row : goal.returns-in_ok-score_of-in-End-clause-row
returns-in_ok-score_of-in-End-clause-row c =
    let t = c.in-End.text in
    let w = row_leaf c.args.place.last c.args.place.room (spot c.args.place) (seen c.args.reader.now) t.bytes.now t.line (seen c.next_line.new.self) (rw c.in-End.is at c.in_ok-line.ensures) in
    ap (λ z. Ok (leaf z, seen c.next_line.new.self)) (omega (arith, ints)) ∙ (ap (λ r. then r (λ z. Ok (leaf z, seen c.next_line.new.self))) c.in_ok-score_of-in-End.ensures ∙ w)

pub returns-in-Left-clause-row : goal.returns-in-Left-clause-row
returns-in-Left-clause-row c =
    let t = c.in-Left.text in
    c.fork_of.ensures.row ∙ row_fork c.args.place.last c.args.place.room (spot c.args.place) (seen c.args.reader.now) t.bytes.now t.line (seen c.next_line.new.self) (rw c.in-Left.is at c.in_ok-line.ensures)

pub returns-in_default : goal.returns-in_default
returns-in_default c =
    let l = c.in_ok-line.line in
    let v = value_of l in record {
      row =
          ap Err (c.at.ensures ∙ ap (λ t. fault WrongLine t.line) c.value.ensures)
          ∙ row_wrong c.args.place.last c.args.place.room (spot c.args.place) (seen c.args.reader.now) (said (key_of l) v.bytes.now v.line) (seen c.next_line.new.self) c.in_ok-line.ensures
          (λ e. c.in_default.not-End v (line_is l ∙ ap (λ k. line_by k v) e))
          (λ e. c.in_default.not-Left v (line_is l ∙ ap (λ k. line_by k v) e));
      room = tt;
    }
