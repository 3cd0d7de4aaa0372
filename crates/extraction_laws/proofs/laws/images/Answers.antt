-- The laws are lemmas.
use Rattle.extraction_laws.proofs.Fitting.{fits_inner, closed_inner}
use Rattle.extraction_laws.proofs.Truth.{fits_first}
use Rattle.extraction_laws.proofs.laws.images.Goals as goal

pub returns-clause-first : goal.returns-clause-first
returns-clause-first c = fits_first

pub returns-clause-premise : goal.returns-clause-premise
returns-clause-premise c r s e i m d v no_cut no_unfolding main out within closed fits = fits_inner m closed d s v fits r i e no_cut no_unfolding main out within

pub returns-clause-closed : goal.returns-clause-closed
returns-clause-closed c r m v closed = closed_inner m closed v r
