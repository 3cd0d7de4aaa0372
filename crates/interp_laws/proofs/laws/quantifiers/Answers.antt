-- The laws are lemmas.
use Rattle.interp_laws.proofs.Holding.{closed_formula}
use Rattle.interp_laws.proofs.Interpolated.{partly_closed}
use Rattle.interp_laws.proofs.laws.quantifiers.Goals as goal

pub returns-clause-closure : goal.returns-clause-closure
returns-clause-closure c = closed_formula

pub returns-clause-valid : goal.returns-clause-valid
returns-clause-valid c r s p one two h main xs ys is formed =
    let holds = partly_closed r s p one two h main xs ys is in
    (holds.first.valid formed, holds.second.valid formed)
