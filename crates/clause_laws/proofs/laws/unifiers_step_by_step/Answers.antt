-- The laws are lemmas.
use Rattle.std.proofs.Common.{◌≡◌, true, ◌∷◌}
use Rattle.proof_trees.specs.FormulaSets.{is_atom}
use Rattle.clause_laws.proofs.Atomic.{each_of_all}
use Rattle.clause_laws.proofs.Unified.{unifier_of}
use Rattle.clause_laws.proofs.Resolving.{listed_unifier}
use Rattle.clause_laws.proofs.UnifiedSteps.{first_in, unified_alone, unified_more, none_with_more}
use Rattle.clause_laws.proofs.laws.unifiers_step_by_step.Goals as goal

pub returns-clause-found : goal.returns-clause-found
returns-clause-found c f fs atoms m is = listed_unifier (f ∷ fs) f (first_in f fs) m (unifier_of (f ∷ fs) (each_of_all (λ g. is_atom g ≡ true) (f ∷ fs) atoms) m is)

pub returns-clause-one : goal.returns-clause-one
returns-clause-one c = unified_alone

pub returns-clause-more : goal.returns-clause-more
returns-clause-more c f fs g m n a b one = unified_more f fs g m a one n b

pub returns-clause-no_more : goal.returns-clause-no_more
returns-clause-no_more c = none_with_more
