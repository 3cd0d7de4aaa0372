-- Steps of a refutation that were made one after another, with what each derives.
--     input_literals      the clauses that input clauses mean
--     Derives, AreDerived      the steps have no fault, and derive these clauses
--     IsRefutationOf      steps that derive the empty clause
use Rattle.std.specs.Prelude.{◌≡◌, List, [], map, length, Ok}
use Rattle.lk_rules.specs.declared.sequent.Sequent.{Sequent}
use Rattle.proof_trees.specs.Trees.{Tree}
use Rattle.refutations.specs.declared.clause.Clause.{Clause as InputClause}
use Rattle.refutations.specs.declared.step.ResStep.{ResStep}
use Rattle.refutations.specs.Clauses.{literals_of, closures}
use Rattle.refutations.specs.Refutations.{Derived, derives_all, refutation, AreFormedSteps}

abbrev pub input_literals : List InputClause → List Sequent
input_literals is = map (λ (c : InputClause). literals_of c.matrix) is

-- from these input clauses
pub record Derives (is : List InputClause) (steps : List ResStep) (ds : List Sequent) : Type 0 where
  pub derived : List Derived
  pub all_derived : derives_all is (closures is) [] 0 steps ≡ Ok derived
  pub clauses : map (λ (d : Derived). d.clause) derived ≡ ds

-- from all input clauses that mean the clauses cs
pub record AreDerived (cs : List Sequent) (steps : List ResStep) (ds : List Sequent) : Type 0 where
  pub formed : AreFormedSteps steps
  pub so_many : length ds ≡ length steps
  pub each : (is : List InputClause) → input_literals is ≡ cs → Derives is steps ds

-- whatever input clauses mean the clauses cs, the steps refute them
pub record IsRefutationOf (cs : List Sequent) (steps : List ResStep) : Type 0 where
  pub formed : AreFormedSteps steps
  pub refutes : (is : List InputClause) → input_literals is ≡ cs → (t : Tree) × (refutation is steps ≡ Ok t)
