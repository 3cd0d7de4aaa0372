-- By the laws of building, for the proof that the budget allows.
use Rattle.expansion_laws.specs.Proofs.{shallow_sequent}
use Rattle.building_laws.specs.Lists.{start}
use Rattle.building_laws.specs.Building.{build}
use Rattle.building_laws.proofs.WithinBudget.{is_within}
use Rattle.building_laws.proofs.FormedTrees.{formed_proof}
use Rattle.building_laws.proofs.laws.buildings.Goals as goal

pub returns-clause-valid : goal.returns-clause-valid
returns-clause-valid c x n t proof formed is = c.proofs.ensures.valid x (shallow_sequent x) t proof (formed_proof x proof formed) (is_within n (build (start x)) t is).0

pub returns-clause-cut_free : goal.returns-clause-cut_free
returns-clause-cut_free c x n t proof formed is = c.proofs.ensures.cut_free x (shallow_sequent x) t proof (formed_proof x proof formed) (is_within n (build (start x)) t is).0

pub returns-clause-end : goal.returns-clause-end
returns-clause-end c x n t proof formed is = c.proofs.ensures.end x (shallow_sequent x) t proof (formed_proof x proof formed) (is_within n (build (start x)) t is).0

pub returns-clause-budget : goal.returns-clause-budget
returns-clause-budget c x n t is = (is_within n (build (start x)) t is).1
