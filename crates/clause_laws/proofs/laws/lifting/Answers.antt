-- The laws are lemmas.
use Rattle.clause_laws.proofs.Central.{lifted, central}
use Rattle.clause_laws.proofs.laws.lifting.Goals as goal

pub returns-clause-on_an_atom : goal.returns-clause-on_an_atom
returns-clause-on_an_atom g c d e f a is one two = lifted d e c f a is one two

pub returns-clause-full : goal.returns-clause-full
returns-clause-full g c d e f = central c d e f
