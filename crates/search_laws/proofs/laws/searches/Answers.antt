-- The laws are lemmas.
use Rattle.search_laws.proofs.Decided.{tautology_proved, proved_tautology, falsified_right}
use Rattle.search_laws.proofs.Atoms.{falsified_atoms}
use Rattle.search_laws.proofs.laws.searches.Goals as goal

pub returns-clause-found : goal.returns-clause-found
returns-clause-found c s plain = (tautology_proved s plain, λ h. proved_tautology s h.0 plain h.1)

pub returns-clause-refuted : goal.returns-clause-refuted
returns-clause-refuted c = falsified_right

pub returns-clause-atoms : goal.returns-clause-atoms
returns-clause-atoms c = falsified_atoms
