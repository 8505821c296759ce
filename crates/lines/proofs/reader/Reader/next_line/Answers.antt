use Rattle.std.proofs.Common.{◌+◌, None, Ok, Err, ap, sym, ◌∙◌, arith}
use Rattle.std.proofs.lemmas.Result.{err_from_is_err_and}
use Rattle.lines.specs.Lines.{said}
use Rattle.lines.specs.Reading.{at}
use Rattle.lines.specs.Seen.{seen, two}
use Rattle.lines.proofs.Splits.{cut_shorter}
use Rattle.lines.proofs.Fields.{ok_or_stops, next_no_end, next_no_value, next_keyed}
use Rattle.lines.proofs.reader.Reader.next_line.Goals as goal

pub returns-in_err-text : goal.returns-in_err-text
returns-in_err-text c =
    let p = err_from_is_err_and c.from_residual.result c.from_residual.ensures.1 in
    let s = ok_or_stops c.cut.result _ _ c.in_err-text.ensures.value in
    rw (p.1, p.2) (ap Err (s.1 ∙ c.at-wrong.ensures) ∙ next_no_end (seen c.args.self.now) (ap two (sym s.0) ∙ c.cut.ensures))

pub returns-in_err-name : goal.returns-in_err-name
returns-in_err-name c =
    let p = err_from_is_err_and c.from_residual-in_err-name.result c.from_residual-in_err-name.ensures.1 in
    let s = ok_or_stops c.cut-2.result _ _ c.in_err-name.ensures.value in
    rw (p.1, p.2) (ap Err (s.1 ∙ c.at-wrong.ensures) ∙ next_no_value (seen c.args.self.now) _ _ (ap two (sym c.in_ok-text.ensures.ok_part) ∙ c.cut.ensures) (ap two (sym s.0) ∙ c.cut-2.ensures))

pub returns-in_err-key : goal.returns-in_err-key
returns-in_err-key c =
    let p = err_from_is_err_and c.from_residual-in_err-key.result c.from_residual-in_err-key.ensures.1 in
    let s = ok_or_stops c.named.result _ _ c.in_err-key.ensures.value in
    rw (p.1, p.2) (ap Err (s.1 ∙ c.at-wrong.ensures) ∙ next_keyed (seen c.args.self.now) _ _ _ _ None (ap two (sym c.in_ok-text.ensures.ok_part) ∙ c.cut.ensures) (ap two (sym c.in_ok-name.ensures.ok_part) ∙ c.cut-2.ensures) (sym s.0 ∙ c.named.ensures))

pub invariant_of-self : goal.invariant_of-self
invariant_of-self c = record { short = omega (arith, c.args.self.now.short, cut_shorter 10 c.args.self.now.rest.now _ _ (ap two (sym c.in_ok-text.ensures.ok_part) ∙ c.cut.ensures)) }

pub returns : goal.returns
returns c = (λ i. Ok (said (c.new.ensures.key i) (c.new.ensures.value i).bytes.now (c.new.ensures.value i).line, at c.in_ok-text.rest.now (c.args.self.now.line + 1))) ∙ next_keyed (seen c.args.self.now) _ _ _ _ _ (ap two (sym c.in_ok-text.ensures.ok_part) ∙ c.cut.ensures) (ap two (sym c.in_ok-name.ensures.ok_part) ∙ c.cut-2.ensures) (sym c.in_ok-key.ensures.ok_part ∙ c.named.ensures)
