-- The laws are lemmas.
use Rattle.clause_laws.proofs.Stepwise.{image_taken, full_by_steps, level_derived}
use Rattle.lk_rules.specs.Sequents.{empty}
use Rattle.clause_laws.proofs.Derived.{derived_covered, empty_derived}
use Rattle.clause_laws.proofs.laws.full_resolvents_by_steps.Goals as goal

pub returns-clause-finite_maps : goal.returns-clause-finite_maps
returns-clause-finite_maps c = image_taken

pub returns-clause-steps : goal.returns-clause-steps
returns-clause-steps c = full_by_steps

pub returns-clause-derived : goal.returns-clause-derived
returns-clause-derived c = level_derived

pub returns-clause-covered : goal.returns-clause-covered
returns-clause-covered c = derived_covered

pub returns-clause-of_empty : goal.returns-clause-of_empty
returns-clause-of_empty c cs clauses = (empty_derived cs clauses, λ (n, m). level_derived cs n empty m)
