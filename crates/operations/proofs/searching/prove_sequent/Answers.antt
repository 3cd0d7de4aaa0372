-- No formula of the sequent has a quantifier.
use Rattle.std.proofs.Common.{sym}
use Rattle.operations.proofs.Searched.{none_quantified}
use Rattle.operations.proofs.searching.prove_sequent.Goals as goal

pub search_for-requires-clause-propositional : goal.search_for-requires-clause-propositional
search_for-requires-clause-propositional g c = none_quantified c.args.sequent.now (sym c.in-None.ensures.value)
