use Rattle.theory.proofs.Certificate as shown
use Rattle.theory.proofs.laws.certificates.Goals as goal

pub returns : goal.returns
returns c = shown.certificates
