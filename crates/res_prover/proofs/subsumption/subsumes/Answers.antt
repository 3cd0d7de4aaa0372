-- What lacks a mark isn't subsumed.
use Rattle.res_prover.proofs.MarkedLaws.{not_found}
use Rattle.res_prover.proofs.subsumption.subsumes.Goals as goal

pub returns-then-not-has_marks_within : goal.returns-then-not-has_marks_within
returns-then-not-has_marks_within c = λ clause. not_found c.args.one.now c.args.other.now clause (c.has_marks_within.ensures c.if-not-has_marks_within.true)
