use Rattle.std.proofs.Common.{◌≡◌, ◌∷◌, [], length, refl, ap, ◌∙◌, arith}
use Rattle.lines.specs.Commas.{pieces}
use Rattle.lines.specs.Seen.{left, rest_pieces}
use Rattle.lines.proofs.Commas.{pieces_cut, pieces_last}
use Rattle.lines.proofs.pieces.PiecesIterator.next.Goals as goal

pub returns-in_default-clause-steps : goal.returns-in_default-clause-steps
returns-in_default-clause-steps c = (ap rest_pieces c.in_ok-rest.was ∙ pieces_last _ c.in_default.ensures, refl, refl)

pub returns-in_default-clause-goes : goal.returns-in_default-clause-goes
returns-in_default-clause-goes c =
    let e : left c.args.self.now ≡ c.in_ok-rest.rest.now ∷ [] = ap rest_pieces c.in_ok-rest.was ∙ pieces_last _ c.in_default.ensures in
    record { on = λ f. (tt, tt, omega (arith, ap length e)); keeps = tt; rests = λ f. tt }

pub returns-clause-steps : goal.returns-clause-steps
returns-clause-steps c = (ap rest_pieces c.in_ok-rest.was ∙ pieces_cut c.in_ok-rest.rest.now _ _ c.in-Some.ensures, refl, refl)

pub returns-clause-goes : goal.returns-clause-goes
returns-clause-goes c =
    let e : left c.args.self.now ≡ c.in-Some.bytes.now ∷ pieces c.in-Some.more.now = ap rest_pieces c.in_ok-rest.was ∙ pieces_cut c.in_ok-rest.rest.now _ _ c.in-Some.ensures in
    record { on = λ f. (tt, tt, omega (arith, ap length e)); keeps = tt; rests = λ f. tt }
