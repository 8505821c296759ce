use Rattle.std.proofs.Common.{Ok, Err, sym, ap, ◌∙◌}
use Rattle.terms.specs.declared.fault.Refusal.TheVariants.{WrongLine}
use Rattle.terms.specs.Refusals.{fault}
use Rattle.lines.specs.Seen.{seen}
use Rattle.std.proofs.lemmas.Result.{err_from_is_err_and}
use denote.Enum.Bare.{differs_true, differs_false}
use Rattle.lines.specs.contracts.key.Key.{the_type}
use Rattle.lines.proofs.Fields.{next_stops, other_key, same_key}
use Rattle.lines.proofs.reader.Reader.value.Goals as goal

pub returns-in_err-line : goal.returns-in_err-line
returns-in_err-line c =
    let p = err_from_is_err_and c.from_residual.result c.from_residual.ensures.1 in
    rw (p.1, p.2) (next_stops c.args.key (seen c.args.self.now) _ c.in_err-line.ensures)

pub returns-then-ne : goal.returns-then-ne
returns-then-ne c =
    ap Err (c.at.ensures ∙ ap (λ t. fault WrongLine t.line) c.value-value.ensures)
    ∙ other_key c.args.key (seen c.args.self.now) _ _ c.in_ok-line.ensures
    (λ e. differs_true the_type _ _ (sym c.ne.ensures ∙ c.if-ne.true) (c.key.ensures ∙ e))

pub returns : goal.returns
returns c =
    ap (λ t. Ok ((t.bytes.now, t.line), seen c.next_line.new.self)) c.value-value.ensures
    ∙ same_key c.args.key (seen c.args.self.now) _ _ c.in_ok-line.ensures
    (sym c.key.ensures ∙ differs_false the_type tt _ _ (sym c.ne.ensures ∙ c.if-ne.false))
