use Rattle.walls.proofs.maximum.greater.Goals as goal

pub returns-then-not-q-clause-linear : goal.returns-then-not-q-clause-linear
returns-then-not-q-clause-linear c = λ a b la lb. (c.over.ensures.linear a b la lb).0

pub returns-else-not-q-clause-linear : goal.returns-else-not-q-clause-linear
returns-else-not-q-clause-linear c = λ a b la lb. (c.over-else-not-q.ensures.linear b a lb la).1
