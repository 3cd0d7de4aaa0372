-- The laws are lemmas.
use Rattle.expansion_laws.proofs.CycleLaws.{acyclic_shown, shown_cycle}
use Rattle.expansion_laws.proofs.CheckLaws.{passes, complete, cycle_shown, falsified_walk}
use Rattle.expansion_laws.specs.Sequents.{deep_sequent}
use Rattle.expansion_laws.proofs.laws.checks.Goals as goal

pub returns-clause-proof : goal.returns-clause-proof
returns-clause-proof c = passes c.searches.ensures.found c.deep_formulas.ensures.trees

pub returns-clause-complete : goal.returns-clause-complete
returns-clause-complete c = λ x n h. complete x c.searches.ensures.found (c.deep_formulas.ensures.trees x h.built_left h.built_right) n h

pub returns-clause-cyclic : goal.returns-clause-cyclic
returns-clause-cyclic c = λ x n vs e. shown_cycle x vs (cycle_shown x n vs e)

pub returns-clause-falsified : goal.returns-clause-falsified
returns-clause-falsified c = λ x n a left right e.
    let prop = c.deep_formulas.ensures.trees x left right in
    let w = falsified_walk x n a e in
    (c.searches.ensures.refuted (deep_sequent x) w.0 a prop w.1, c.searches.ensures.atoms (deep_sequent x) w.0 a prop w.1)

pub returns-clause-acyclic : goal.returns-clause-acyclic
returns-clause-acyclic c = acyclic_shown

pub returns-clause-shown : goal.returns-clause-shown
returns-clause-shown c = shown_cycle
