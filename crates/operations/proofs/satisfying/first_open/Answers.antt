-- The place that is found is that of the first clause in which a variable stands.
use Rattle.std.proofs.Common.{rules, tests}
use Rattle.std.proofs.lemmas.Iterator.{YieldsList-from_slice}
use Rattle.std.proofs.lemmas.Iterator.Search.{position_from_yields_List}
use Rattle.fol.specs.Facts.{is_open}
use Rattle.refutations.specs.declared.clause.Clause.{Clause}
use Rattle.operations.proofs.Satisfied.{first_open_found}
use Rattle.operations.proofs.satisfying.first_open.Goals as goal

pub returns : goal.returns
returns c =
    first_open_found c.args.clauses.now c.position.result
    (position_from_yields_List (λ (d : Clause). is_open d.matrix) _ _ c.position.result c.position.ensures.ran (YieldsList-from_slice c.args.clauses.now cc) (λ x b q k. search (rules, tests)))
