-- The laws are lemmas.
use Rattle.def_laws.proofs.Closures.{leading-closed_over, free-closed_over, shut-closed_over}
use Rattle.def_laws.proofs.laws.closures.Goals as goal

pub returns-clause-quantifiers : goal.returns-clause-quantifiers
returns-clause-quantifiers c = leading-closed_over

pub returns-clause-free : goal.returns-clause-free
returns-clause-free c = free-closed_over

pub returns-clause-none_free : goal.returns-clause-none_free
returns-clause-none_free c = shut-closed_over
