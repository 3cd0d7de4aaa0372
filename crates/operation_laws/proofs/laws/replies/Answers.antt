-- The laws are lemmas.
use Rattle.operation_laws.proofs.Shows.{want_by, want_shown, ok_by, product_ok}
use Rattle.operation_laws.proofs.OneAnswer.{one_answer, one_determined}
use Rattle.operation_laws.proofs.laws.replies.Goals as goal

pub returns-clause-want : goal.returns-clause-want
returns-clause-want c a = (want_by a, want_shown a)

pub returns-clause-one : goal.returns-clause-one
returns-clause-one c asked a b first second alike = one_answer asked a b first second alike

pub returns-clause-determined : goal.returns-clause-determined
returns-clause-determined c op vs a b has first second same = one_determined op vs a b has first second same

pub returns-clause-ok : goal.returns-clause-ok
returns-clause-ok c a = (ok_by a, λ made. product_ok a made.0 made.1)
